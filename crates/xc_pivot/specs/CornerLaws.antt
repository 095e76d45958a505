-- What the proofs along the run take of the laws of corners.
use Rattle.xc_corners.specs.Laws.{HasOneSolvedForm, HasOneValue, OutsideIsNotWithin, HasOneLeaving, HasOneChoice, IsOneRun, RunGoesOn, OneLeadsOn, FeasibleIsLast, ConflictIsLast}

-- solved forms, values and choices are one at each corner; the run is one list, and ends where there is no choice
pub record CornerLaws : Type 0 where
  pub form : HasOneSolvedForm
  pub value : HasOneValue
  pub outside : OutsideIsNotWithin
  pub leaving : HasOneLeaving
  pub choice : HasOneChoice
  pub run : IsOneRun
  pub on : RunGoesOn
  pub along : OneLeadsOn
  pub feasible : FeasibleIsLast
  pub conflict : ConflictIsLast
