-- The refutation that multipliers of the problem of a component give.
use Rattle.std.specs.Prelude.{◌≡◌, ℕ, List, map}
use Rattle.std.specs.List.Sorted.{IsPermutation}
use Rattle.xc_corners.specs.declared.multipliers.Multipliers.{Multipliers as ProblemMultipliers}
use Rattle.xc_joint.specs.CornerCauses.{line_with_number}
use Rattle.xc_joint.specs.declared.one_forest.Span.{Span}
use Rattle.xc_system.specs.Kept.{Multipliers}
use Rattle.xc_system.specs.declared.types.Component.{Component}

-- the facts with the tightest low ends
abbrev pub low_facts : List Span → List ℕ
low_facts spans = map (λ x. x.low) spans

-- the facts with the tightest high ends
abbrev pub high_facts : List Span → List ℕ
high_facts spans = map (λ x. x.high) spans

-- the refutation lists the equation of each row and the fact of each end, with their multipliers
pub record IsRefutationBy (c : Component) (spans : List Span) (m : ProblemMultipliers) (r : Multipliers) : Type 0 where
  pub bindings : r.bindings ≡ map (line_with_number c.equations) m.rows
  pub lows : IsPermutation (map (line_with_number (low_facts spans)) m.lows) r.lows
  pub highs : IsPermutation (map (line_with_number (high_facts spans)) m.highs) r.highs
