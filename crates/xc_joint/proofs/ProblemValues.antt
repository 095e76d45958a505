-- Values that solve the problem of a component are values of the component.
use Rattle.std.proofs.Common.{◌≡◌, ℕ, zero, suc, ◌<◌, List, [], ◌∷◌, length, get_or, Some, refl, sym, ap, ap₂, subst, ◌∙◌, arith}
use Rattle.std.specs.Prelude.{slice_get}
use Rattle.xc_corners.specs.Answers.{Solves, value_at, sum_over_lines as row_weighed}
use Rattle.xc_corners.specs.declared.problem.Problem.{Problem}
use Rattle.xc_interval.specs.Intervals.{numbers_of, HasNumber}
use Rattle.xc_interval.specs.declared.interval.Interval.{Interval}
use Rattle.xc_joint.specs.Answers.{assignment_at, AreValuesOf}
use Rattle.xc_joint.specs.ComponentProblems.{IsProblemOf, IsTightestRange, IsWeightedPlace, IsWeightedRow}
use Rattle.xc_joint.specs.Solved.{interval_at, number_at}
use Rattle.xc_joint.specs.Lists.{AreEach}
use Rattle.xc_joint.proofs.Each.{each_at, each_length}
use Rattle.xc_joint.proofs.PartValues.{placed_at, values_of, Rise, LowsCompare, HighsCompare}
use Rattle.xc_joint.proofs.Searched.{rises}
use Rattle.xc_joint.proofs.TightestRanges.{HasKnown}
use Rattle.xc_model.specs.Fraction.{Fraction, sum_of, product_of}
use Rattle.xc_model.specs.Ratio.{Ratio, fraction_of}
use Rattle.xc_system.specs.Components.{IsComponent}
use Rattle.xc_system.specs.Solutions.{IsZero, sum_over_entries}
use Rattle.xc_system.specs.Systems.{Constraints, equation_at}
use Rattle.xc_system.specs.declared.types.Component.{Component}
use Rattle.xc_system.specs.declared.types.Entry.{Entry}

number_is : (xs : List Ratio) (j : ℕ) → value_at xs j ≡ number_at xs j
number_is [] zero = refl
number_is [] (suc j) = refl
number_is (x ∷ xs) zero = refl
number_is (x ∷ xs) (suc j) = number_is xs j

interval_is : (ranges : List (Interval Ratio)) (j : ℕ) → j < length ranges → (range : Interval Ratio) × (slice_get ranges j ≡ Some range) × (interval_at ranges j ≡ numbers_of range)
interval_is [] j l = absurd (omega (arith, l))
interval_is (r ∷ rs) zero l = (r, refl, refl)
interval_is (r ∷ rs) (suc j) l = interval_is rs j (omega (arith, l))

-- an equation weighs the values of its points as its row does
row_weighs : (points : List ℕ) (xs : List Ratio) → Rise points → length xs ≡ length points → (entries : List Entry) (row : List (ℕ × Ratio)) → AreEach (IsWeightedPlace points) entries row → row_weighed row (value_at xs) ≡ sum_over_entries entries (assignment_at points xs)
row_weighs points xs up long [] [] h = refl
row_weighs points xs up long [] (r ∷ row) h = absurd h
row_weighs points xs up long (e ∷ entries) [] h = absurd h
row_weighs points xs up long (e ∷ entries) (r ∷ row) h =
    let value : value_at xs r.0 ≡ assignment_at points xs e.point = number_is xs r.0 ∙ sym (placed_at points xs r.0 up h.0.inside long) ∙ ap (assignment_at points xs) h.0.there in
    ap₂ sum_of (ap₂ (λ (w : Ratio) (y : Fraction). product_of (fraction_of w) y) h.0.weight value) (row_weighs points xs up long entries row h.1)

module _ (lows : LowsCompare) (highs : HighsCompare) (s : Constraints) (c : Component) (is : IsComponent s c) (known : HasKnown s c.points) (problem : Problem) (of : IsProblemOf s c problem) (xs : List Ratio) (solves : Solves problem xs) where
  within : (p : ℕ) → p < length problem.ranges → HasNumber (interval_at problem.ranges p) (number_at xs p)
  within p l =
      let r = interval_is problem.ranges p l in
      subst (λ i. HasNumber i (number_at xs p)) (sym r.2) (subst (HasNumber (numbers_of r.0)) (number_is xs p) (solves.within p r.0 r.1))

  zero_at : (j : ℕ) → j < length c.equations → IsZero (sum_over_entries (equation_at s.equations (get_or c.equations j 0)).entries (assignment_at c.points xs))
  zero_at j l =
      let many = each_length (IsWeightedRow s c.points) c.equations problem.rows of.rows in
      let long = solves.each ∙ each_length (IsTightestRange s) c.points problem.ranges of.ranges in
      let weighs = row_weighs c.points xs (rises c.points is.points_ascend) long (equation_at s.equations (get_or c.equations j 0)).entries (get_or problem.rows j []) (each_at (IsWeightedRow s c.points) c.equations problem.rows j 0 [] of.rows l) in
      subst IsZero weighs (solves.met j (omega (arith, many, l)))

  pub solution_values : AreValuesOf s c xs
  solution_values = values_of lows highs s c is known problem.ranges of.ranges xs solves.each within zero_at
