-- A problem in whole numbers: its bounds and its rows.
use Rattle.std.proofs.Common.{◌≡◌, ℕ, ◌<◌, ℤ, ◌<ℤ◌, List, length, map, get_or, ◌⊎◌, inl, inr, refl, sym, subst, arith}
use Rattle.std.specs.List.{All}
use Rattle.std.specs.declared.cmp.Ordering.{Ordering}
use Rattle.std.specs.declared.cmp.Ordering.TheVariants.{Less, Equal, Greater}
use Rattle.std.proofs.lemmas.Int.{ints}
use Rattle.std.proofs.lemmas.List.{length-map}
use Rattle.std.proofs.lemmas.List.Elements.{All-map}
use Rattle.xc_interval.specs.Ends.{value_of, end_at}
use Rattle.xc_interval.specs.Intervals.{numbers_of, HasNoNumber, between}
use Rattle.xc_interval.specs.declared.ends.End.{End}
use Rattle.xc_interval.specs.declared.ends.End.TheVariants.{Closed, Open}
use Rattle.xc_interval.specs.declared.interval.Interval.{Interval}
use Rattle.xc_model.specs.Order.{Orders}
use Rattle.xc_model.specs.Ratio.{Ratio, fraction_of}
use Rattle.xc_model.proofs.NumbersOver.{over_number, below_number, equal_number}
use Rattle.xc_model.proofs.Orders.{number_total}
use Rattle.xc_corners.specs.Pairs.{◌≼◌}
use Rattle.xc_corners.specs.Problems.{IsWholeProblem, IsProblem, low_pair, high_pair}
use Rattle.xc_corners.specs.WholeNumbers.{whole_problem, product_of_denominators, times_common, ends_of, weights_of}
use Rattle.xc_corners.specs.declared.problem.Problem.{Problem}
use Rattle.xc_corners.proofs.CommonDenominators.{Divides, common_positive, is_times_common, ends_divide}

-- the two ends of a range that is not empty
module _ (d : ℕ) (p : 0 < d) where
  ordered : (o : Ordering) (f g : Ratio) → Divides d f → Divides d g → Orders o (fraction_of f) (fraction_of g) → (Orders Greater (fraction_of f) (fraction_of g) → ⊥)
      → (times_common d f <ℤ times_common d g) ⊎ ((times_common d f ≡ times_common d g) × Orders Equal (fraction_of f) (fraction_of g))
  ordered Less f g k l h n = inl (below_number (fraction_of f) (fraction_of g) _ _ d (over_number f _ d (is_times_common d f p k)) (over_number g _ d (is_times_common d g p l)) h)
  ordered Equal f g k l h n = inr (equal_number (fraction_of f) (fraction_of g) _ _ d (over_number f _ d (is_times_common d f p k)) (over_number g _ d (is_times_common d g p l)) h, h)
  ordered Greater f g k l h n = absurd (n h)

  pub ends_ordered : (low high : End Ratio) → Divides d (value_of low) → Divides d (value_of high) → ¬ HasNoNumber (numbers_of (record { low = low; high = high }))
      → low_pair d (end_at (times_common d) low) ≼ high_pair d (end_at (times_common d) high)
  ends_ordered (Closed f) (Closed g) k l n = go (ordered (number_total (fraction_of f) (fraction_of g)).0 f g k l (number_total (fraction_of f) (fraction_of g)).1 (λ h. n (inl h)))
    where
      go : ((times_common d f <ℤ times_common d g) ⊎ ((times_common d f ≡ times_common d g) × Orders Equal (fraction_of f) (fraction_of g))) → low_pair d (Closed (times_common d f)) ≼ high_pair d (Closed (times_common d g))
      go (inl h) = inl h
      go (inr h) = inr (h.0, omega (arith, ints))
  ends_ordered (Closed f) (Open g) k l n = go (ordered (number_total (fraction_of f) (fraction_of g)).0 f g k l (number_total (fraction_of f) (fraction_of g)).1 (λ h. n (inl h)))
    where
      go : ((times_common d f <ℤ times_common d g) ⊎ ((times_common d f ≡ times_common d g) × Orders Equal (fraction_of f) (fraction_of g))) → low_pair d (Closed (times_common d f)) ≼ high_pair d (Open (times_common d g))
      go (inl h) = inl h
      go (inr h) = absurd (n (inr (h.1, refl)))
  ends_ordered (Open f) (Closed g) k l n = go (ordered (number_total (fraction_of f) (fraction_of g)).0 f g k l (number_total (fraction_of f) (fraction_of g)).1 (λ h. n (inl h)))
    where
      go : ((times_common d f <ℤ times_common d g) ⊎ ((times_common d f ≡ times_common d g) × Orders Equal (fraction_of f) (fraction_of g))) → low_pair d (Open (times_common d f)) ≼ high_pair d (Closed (times_common d g))
      go (inl h) = inl h
      go (inr h) = absurd (n (inr (h.1, refl)))
  ends_ordered (Open f) (Open g) k l n = go (ordered (number_total (fraction_of f) (fraction_of g)).0 f g k l (number_total (fraction_of f) (fraction_of g)).1 (λ h. n (inl h)))
    where
      go : ((times_common d f <ℤ times_common d g) ⊎ ((times_common d f ≡ times_common d g) × Orders Equal (fraction_of f) (fraction_of g))) → low_pair d (Open (times_common d f)) ≼ high_pair d (Open (times_common d g))
      go (inl h) = inl h
      go (inr h) = absurd (n (inr (h.1, refl)))

-- a row names the same ranges
row_named : (n m d : ℕ) (row : List (ℕ × Ratio)) → n ≡ m → All (λ (entry : ℕ × Ratio). entry.0 < n) row → All (λ (entry : ℕ × ℤ). entry.0 < m) (map (λ entry. (entry.0, times_common d entry.1)) row)
row_named n m d row e a = All-map (λ (entry : ℕ × ℤ). entry.0 < m) (λ (entry : ℕ × Ratio). (entry.0, times_common d entry.1)) row (λ j none h. subst (λ k. (get_or row j none).0 < k) e (a j none h))

pub whole_too : (problem : Problem) → IsProblem problem → IsWholeProblem (whole_problem problem)
unfolding whole_problem
whole_too problem h =
    let d = product_of_denominators (ends_of problem.ranges) in
    let p = common_positive (ends_of problem.ranges) in
    let e = product_of_denominators (weights_of problem.rows) in
    let count : length problem.ranges ≡ length (map (between (times_common d)) problem.ranges) = sym (length-map problem.ranges (between (times_common d))) in
    record {
      unit = p;
      scale = common_positive (weights_of problem.rows);
      named = All-map (λ (row : List (ℕ × ℤ)). All (λ (entry : ℕ × ℤ). entry.0 < length (map (between (times_common d)) problem.ranges)) row) (map (λ (entry : ℕ × Ratio). (entry.0, times_common e entry.1))) problem.rows
          (λ i none k. row_named _ _ e _ count (h.named i none k));
      some = All-map (λ (range : Interval ℤ). low_pair d range.low ≼ high_pair d range.high) (between (times_common d)) problem.ranges
          (λ j none k. let both = ends_divide problem.ranges j none k in ends_ordered d p (get_or problem.ranges j none).low (get_or problem.ranges j none).high both.0 both.1 (h.some j none k));
    }
