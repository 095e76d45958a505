-- The problem of a component can be solved.
use Rattle.std.proofs.Common.{◌≡◌, ℕ, ◌<◌, List, [], ◌∷◌, length, sym, subst, arith}
use Rattle.std.proofs.lemmas.List.Elements.{All-from_recursion}
use Rattle.std.specs.List.{AllByRecursion}
use Rattle.std.specs.Prelude.{All}
use Rattle.xc_corners.specs.Problems.{IsProblem, IsSmallProblem}
use Rattle.xc_corners.specs.declared.problem.Problem.{Problem}
use Rattle.xc_interval.specs.Intervals.{numbers_of, HasNoNumber}
use Rattle.xc_interval.specs.Laws.{EndsTell}
use Rattle.xc_interval.specs.declared.interval.Interval.{Interval}
use Rattle.xc_joint.specs.ComponentProblems.{IsProblemOf, IsWeightedPlace, IsWeightedRow}
use Rattle.xc_joint.specs.Lists.{AreEach}
use Rattle.xc_joint.specs.Steps.OneForest.{IsBounded}
use Rattle.xc_joint.specs.Steps.SpanProblems.{IsProblemBy}
use Rattle.xc_joint.specs.declared.one_forest.Span.{Span}
use Rattle.xc_joint.proofs.Each.{each_length}
use Rattle.xc_joint.proofs.ForestRanges.{are_bounded, bounded_some}
use Rattle.xc_joint.proofs.Searched.{at_most}
use Rattle.xc_joint.proofs.TightestRanges.{bounded_tightest}
use Rattle.xc_model.specs.Fraction.{IsBelow, SameNumber}
use Rattle.xc_model.specs.Ratio.{Ratio}
use Rattle.xc_system.specs.Components.{IsComponent}
use Rattle.xc_system.specs.Laws.{EquationsAreInside, PointsAreInside}
use Rattle.xc_system.specs.Systems.{Constraints, IsSmall}
use Rattle.xc_system.specs.declared.types.Component.{Component}
use Rattle.xc_system.specs.declared.types.Entry.{Entry}

-- ---- ranges

module _ (s : Constraints) where
  pub problem_of : (c : Component) (spans : List Span) (problem : Problem) → IsProblemBy s c spans problem → IsProblemOf s c problem
  problem_of c spans problem h = record { ranges = bounded_tightest s c.points problem.ranges (are_bounded s c.points spans problem.ranges h.bounded h.ranges); rows = h.rows }

  all_some : EndsTell IsBelow SameNumber → (points : List ℕ) (ranges : List (Interval Ratio)) → AreEach (IsBounded s) points ranges → AllByRecursion (λ range. ¬ HasNoNumber (numbers_of range)) ranges
  all_some law [] [] h = tt
  all_some law [] (r ∷ rs) h = absurd h
  all_some law (p ∷ ps) [] h = absurd h
  all_some law (p ∷ ps) (r ∷ rs) h = (bounded_some law s p r h.0, all_some law ps rs h.1)

-- ---- rows

row_named : (points : List ℕ) (n : ℕ) → n ≡ length points → (entries : List Entry) (row : List (ℕ × Ratio)) → AreEach (IsWeightedPlace points) entries row → AllByRecursion (λ entry. entry.0 < n) row
row_named points n same [] [] h = tt
row_named points n same [] (r ∷ rs) h = absurd h
row_named points n same (e ∷ es) [] h = absurd h
row_named points n same (e ∷ es) (r ∷ rs) h = (subst (λ m. r.0 < m) (sym same) h.0.inside, row_named points n same es rs h.1)

rows_named : (s : Constraints) (points : List ℕ) (n : ℕ) → n ≡ length points → (equations : List ℕ) (rows : List (List (ℕ × Ratio))) → AreEach (IsWeightedRow s points) equations rows → AllByRecursion (λ row. All (λ entry. entry.0 < n) row) rows
rows_named s points n same [] [] h = tt
rows_named s points n same [] (r ∷ rs) h = absurd h
rows_named s points n same (i ∷ is) [] h = absurd h
rows_named s points n same (i ∷ is) (r ∷ rs) h = (All-from_recursion (λ entry. entry.0 < n) r (row_named points n same _ r h.0), rows_named s points n same is rs h.1)

-- ---- all

module _ (s : Constraints) (c : Component) (spans : List Span) (problem : Problem) (h : IsProblemBy s c spans problem) where
  pub problem_bounded : AreEach (IsBounded s) c.points problem.ranges
  problem_bounded = are_bounded s c.points spans problem.ranges h.bounded h.ranges

  pub as_many : length problem.ranges ≡ length c.points
  as_many = each_length (IsBounded s) c.points problem.ranges problem_bounded

  pub problem_is : EndsTell IsBelow SameNumber → IsProblem problem
  problem_is law = record {
    some = All-from_recursion (λ range. ¬ HasNoNumber (numbers_of range)) problem.ranges (all_some s law c.points problem.ranges problem_bounded);
    named = All-from_recursion (λ row. All (λ entry. entry.0 < length problem.ranges) row) problem.rows (rows_named s c.points (length problem.ranges) as_many c.equations problem.rows h.rows);
  }

  pub problem_small : IsSmall s → IsComponent s c → PointsAreInside → EquationsAreInside → IsSmallProblem problem
  problem_small small is points equations = record {
    ranges = omega (arith, as_many, at_most c.points s.points is.points_ascend (points s c is), small.points);
    rows = omega (arith, each_length (IsWeightedRow s c.points) c.equations problem.rows h.rows, at_most c.equations (length s.equations) is.equations_ascend (equations s c is), small.equations);
  }
