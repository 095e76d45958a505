-- What the last corner answers.
use Rattle.std.proofs.Common.{◌≡◌, ℕ, zero, suc, ◌+◌, Bool, List, Ok, Err, length, inl, inr, ⊎_elim, refl, sym, subst}
use Rattle.std.specs.Prelude.{Result, IfOk}
use Rattle.xc_model.proofs.Results.{over_one, quotient_one}
use Rattle.xc_corners.specs.Choices.{Leaves, Exchange, Exchanges, IsReached, IsFeasible, IsConflict}
use Rattle.xc_corners.specs.Corners.{Corner, Factors, corner_of, IsSolvedForm}
use Rattle.xc_corners.specs.Ending.{IsSmallNumber, StandsInSmall, StandsInValue, StandsInValues}
use Rattle.xc_corners.specs.LastOperations.{IsFeasibleAt, PassesInSolving, StandsInSolving, in_walk, in_small, in_values}
use Rattle.xc_corners.specs.Problems.{WholeProblem, IsWholeProblem}
use Rattle.xc_corners.specs.WholeNumbers.{whole_problem}
use Rattle.xc_corners.specs.declared.multipliers.Multipliers.{Multipliers}
use Rattle.xc_corners.specs.declared.problem.Problem.{Problem}
use Rattle.xc_frac.specs.declared.wide.Wide.{Wide}
use Rattle.xc_frac.specs.declared.wide.Op.TheVariants.{Div}
use Rattle.xc_corners.specs.Operations.{Gives}
use Rattle.xc_model.specs.Ratio.{Ratio}
use Rattle.xc_pivot.specs.CornerLaws.{CornerLaws}
use Rattle.xc_pivot.specs.SmallValues.{SmallStays, ValuesStay, PassesFeasible}
use Rattle.xc_pivot.specs.Solving.{NothingStops, StopsAt, IfFeasible, IfInfeasible, IfStopped}
use Rattle.xc_pivot.specs.States.{ArePlaces, HasNoChoice}
use Rattle.xc_pivot.specs.Walks.{NothingPasses, IsStop}
use Rattle.xc_pivot.specs.declared.types.Outcome.{Outcome}
use Rattle.xc_pivot.specs.declared.types.Outcome.TheVariants.{Feasible, Infeasible, TooWide}
use Rattle.xc_pivot.specs.declared.types.Place.{Place}
use Rattle.xc_pivot.proofs.Moved.{small_moves, in_small_moves, in_value_moves}
use Rattle.xc_pivot.proofs.Smalls.{one_least}

-- the small number is one
small_one : (p : WholeProblem) (x : Corner) (t : Factors) (s r : Ratio) → IsSmallNumber p x t s → IsSmallNumber p x t r → s ≡ r
small_one p x t s r (inl a) (inl o) =
    let least = one_least p x t (length p.ranges) refl a.least o.least a.is_least o.is_least in
    let two = over_one a.two o.two _ _ a.is_two o.is_two in
    quotient_one o.least o.two s r (subst (λ z. Gives Div z o.two s) least (subst (λ z. Gives Div a.least z s) two a.gives)) o.gives
small_one p x t s r (inl a) (inr o) = absurd (o.1 a.is_least.high a.is_least.range a.is_least.is_range a.is_least.is.tight)
small_one p x t s r (inr a) (inl o) = absurd (a.1 o.is_least.high o.is_least.range o.is_least.is_range o.is_least.is.tight)
small_one p x t s r (inr a) (inr o) = over_one s r _ _ a.0 o.0

-- where a variable is to leave and there is no choice, there is a conflict
pub conflict_here : CornerLaws → (p : WholeProblem) → IsWholeProblem p → (x : Corner) (t : Factors) (above : Bool) (b : ℕ) → IsSolvedForm p x t → HasNoChoice p x t → Leaves p x t above b → IsConflict p x t above b
conflict_here laws p h x t above b f (inl feasible) leaves = absurd (laws.outside p x t t above b f f leaves.is_variable leaves.outside (feasible.within b leaves.is_variable leaves.basic))
conflict_here laws p h x t above b f (inr (a, d, conflict)) leaves =
    let one = laws.leaving p x t t a above d b h f f conflict.leaves leaves in
    subst (λ s. IsConflict p x t s b) one.0 (subst (λ k. IsConflict p x t a k) one.1 conflict)

module _ (laws : CornerLaws) (problem : Problem) (h : IsWholeProblem (whole_problem problem)) (x : Corner) (t : Factors) (solved : IsSolvedForm (whole_problem problem) x t) (none : HasNoChoice (whole_problem problem) x t) (reached : IsReached (whole_problem problem) x) (nothing : NothingPasses problem) where
  no_exchange : (b q : ℕ) (y : Corner) → ¬ Exchange (whole_problem problem) x b q y
  no_exchange b q y e = ⊎_elim
      (λ (f : IsFeasible (whole_problem problem) x t). laws.feasible (whole_problem problem) x y t b q solved f e)
      (λ (f : (above : Bool) × (d : ℕ) × IsConflict (whole_problem problem) x t above d). laws.conflict (whole_problem problem) x y t f.0 f.1 b q h solved f.2 e)
      none

  same_from : (m : ℕ) (y z : Corner) → Exchanges (whole_problem problem) m y z → ((b q : ℕ) (u : Corner) → ¬ Exchange (whole_problem problem) y b q u) → y ≡ z
  same_from zero y z e no_next = e
  same_from (suc m) y z (u, b, q, e, es) no_next = absurd (no_next b q u e)

  -- a corner of the run that is feasible is this one
  same_last : (y : Corner) (s : Factors) → IsReached (whole_problem problem) y → IsFeasibleAt problem y s → y ≡ x
  same_last y s (k, r) at = ⊎_elim
      (λ (i : (m : ℕ) × Exchanges (whole_problem problem) m x y × (k ≡ reached.0 + m)). sym (same_from i.0 x y i.1 no_exchange))
      (λ (i : (m : ℕ) × Exchanges (whole_problem problem) m y x × (reached.0 ≡ k + m)). same_from i.0 y x i.1 (λ b q u e. laws.feasible (whole_problem problem) y u s b q at.solved at.feasible e))
      (laws.along (whole_problem problem) reached.0 k x y h reached.1 r)

  -- at a feasible corner
  pub nothing_feasible : (small : Ratio) → IsSmallNumber (whole_problem problem) x t small → SmallStays (whole_problem problem) x t → ValuesStay (whole_problem problem) x t small → NothingStops problem
  nothing_feasible small is_small small_stays values_stay y w r passes = go passes.stands
    where
      here : (s : Factors) → IsFeasibleAt problem y s → IsSolvedForm (whole_problem problem) x s
      here s at = subst (λ z. IsSolvedForm (whole_problem problem) z s) (same_last y s r at) at.solved

      go : StandsInSolving problem y w → ⊥
      go (in_walk stands) = nothing y w r (record { stands = stands; passes = passes.passes })
      go (in_small s at stands) =
          let stands_here = subst (λ z. StandsInSmall (whole_problem problem) z s w) (same_last y s r at) stands in
          small_stays w (in_small_moves laws (whole_problem problem) x s t (here s at) solved h.unit w stands_here) passes.passes
      go (in_values s at stands) =
          let stands_here = subst (λ z. StandsInValues (whole_problem problem) z s w) (same_last y s r at) stands in
          let own = small_moves laws (whole_problem problem) x s t (here s at) solved h.unit stands_here.small stands_here.is_small in
          let same = small_one (whole_problem problem) x t stands_here.small small own is_small in
          values_stay stands_here.range stands_here.is_range w
          (in_value_moves laws (whole_problem problem) x s t (here s at) solved h.unit small stands_here.range w stands_here.is_range (subst (λ z. StandsInValue (whole_problem problem) x s z stands_here.range w) same stands_here.stands)) passes.passes

  -- at a conflict
  pub nothing_conflict : (above : Bool) (b : ℕ) → IsConflict (whole_problem problem) x t above b → NothingStops problem
  nothing_conflict above b conflict y w r passes = go passes.stands
    where
      not_feasible : (s : Factors) → IsFeasibleAt problem y s → ⊥
      not_feasible s at =
          let here = subst (λ z. IsFeasibleAt problem z s) (same_last y s r at) at in
          laws.outside (whole_problem problem) x t s above b solved here.solved conflict.leaves.is_variable conflict.leaves.outside
          (here.feasible.within b conflict.leaves.is_variable conflict.leaves.basic)

      go : StandsInSolving problem y w → ⊥
      go (in_walk stands) = nothing y w r (record { stands = stands; passes = passes.passes })
      go (in_small s at stands) = not_feasible s at
      go (in_values s at stands) = not_feasible s at

  -- an operation that passes on the way to the values
  pub passes_feasible : (w : Wide) → IsFeasible (whole_problem problem) x t → PassesFeasible (whole_problem problem) x t w → PassesInSolving problem x w
  passes_feasible w feasible (inl p) = record { stands = in_small t (record { solved = solved; feasible = feasible }) p.stands; passes = p.passes }
  passes_feasible w feasible (inr (small, is_small, p)) = record {
    stands = in_values t (record { solved = solved; feasible = feasible }) (record { small = small; is_small = is_small; range = p.range; is_range = p.is_range; stands = p.at.stands });
    passes = p.at.passes;
  }

-- ---- what is told where an operation passes
module _ {E : Type 0} (r : Result Outcome E) (places : List Place) (w : Wide) (stop : IfOk r (IsStop places w)) where
  pub no_values : (P : List Ratio → Type 0) → IfOk r (IfFeasible P)
  no_values P = go r stop
    where
      go : (r : Result Outcome E) → IfOk r (IsStop places w) → IfOk r (IfFeasible P)
      go (Ok (Feasible values)) h = absurd h
      go (Ok (Infeasible m)) h = tt
      go (Ok (TooWide lists v)) h = tt
      go (Err e) h = tt

  pub no_multipliers : (P : Multipliers → Type 0) → IfOk r (IfInfeasible P)
  no_multipliers P = go r stop
    where
      go : (r : Result Outcome E) → IfOk r (IsStop places w) → IfOk r (IfInfeasible P)
      go (Ok (Feasible values)) h = tt
      go (Ok (Infeasible m)) h = absurd h
      go (Ok (TooWide lists v)) h = tt
      go (Err e) h = tt

  pub stops_at : (problem : Problem) (m n : ℕ) (x : Corner) → ArePlaces m n x places → IsReached (whole_problem problem) x → PassesInSolving problem x w → IfOk r (IfStopped (StopsAt problem))
  stops_at problem m n x placed reached passes = go r stop
    where
      go : (r : Result Outcome E) → IfOk r (IsStop places w) → IfOk r (IfStopped (StopsAt problem))
      go (Ok (Feasible values)) h = tt
      go (Ok (Infeasible ms)) h = tt
      go (Ok (TooWide lists v)) h =
          let same : x ≡ corner_of lists = sym (h.0 m n x placed) in
          (subst (λ z. IsReached (whole_problem problem) z) same reached, subst (λ z. PassesInSolving problem z v) same (subst (λ (o : Wide). PassesInSolving problem x o) h.1 passes))
      go (Err e) h = tt
