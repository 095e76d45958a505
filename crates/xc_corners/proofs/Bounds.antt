-- The bounds of a problem in whole numbers, by its ends.
use Rattle.std.proofs.Common.{◌≡◌, ℕ, ◌*◌, ◌<◌, cond, ℤ, pos, negsuc, ◌*ℤ◌, map, Some, slice_get, sym, ap, subst, ◌∙◌, arith}
use Rattle.std.proofs.lemmas.Int.{ints}
use Rattle.std.proofs.lemmas.List.{get_or-map, get_or_past, length-map}
use Rattle.std.proofs.lemmas.Option.{slice_get_within, get_or_from_slice_get}
use Rattle.xc_interval.specs.Ends.{value_of, is_open, end_at}
use Rattle.xc_interval.specs.Intervals.{between}
use Rattle.xc_interval.specs.declared.ends.End.{End}
use Rattle.xc_interval.specs.declared.ends.End.TheVariants.{Closed, Open}
use Rattle.xc_interval.specs.declared.interval.Interval.{Interval}
use Rattle.xc_model.specs.Ratio.{Ratio, IsOver}
use Rattle.xc_model.proofs.Rescaled.{over_same_number, over_scaled, over_same_den}
use Rattle.xc_corners.specs.Corners.{low_bound, high_bound, range_of}
use Rattle.xc_corners.specs.Laws.{EndBounds, RowBounds}
use Rattle.xc_corners.specs.Problems.{low_pair, high_pair, zero_range}
use Rattle.xc_corners.specs.WholeNumbers.{whole_problem, product_of_denominators, times_common, ends_of}
use Rattle.xc_corners.specs.declared.problem.Problem.{Problem}
use Rattle.xc_corners.proofs.CommonDenominators.{Divides, common_positive, is_times_common, ends_divide}

pub range_whole : (problem : Problem) (j : ℕ) (range : Interval Ratio) → slice_get problem.ranges j ≡ Some range → range_of (whole_problem problem) j ≡ between (times_common (product_of_denominators (ends_of problem.ranges))) range
unfolding whole_problem
range_whole problem j range e =
    get_or-map (between (times_common (product_of_denominators (ends_of problem.ranges)))) problem.ranges j range zero_range (slice_get_within problem.ranges j range e)
    ∙ ap (between (times_common (product_of_denominators (ends_of problem.ranges)))) (get_or_from_slice_get problem.ranges j range range e)

module _ (d : ℕ) (p : 0 < d) where
  -- n over 1 is n d over d
  units : (f : Ratio) (n : ℤ) → IsOver f n 1 → IsOver f (pos d *ℤ n) d
  units f n h = over_same_den f _ (d * 1) d (over_scaled f n 1 d p h) (omega arith)

  low_real : (e : End Ratio) → Divides d (value_of e) → IsOver (value_of e) (low_pair d (end_at (times_common d) e)).real d
  low_real (Closed f) o = is_times_common d f p o
  low_real (Open f) o = is_times_common d f p o

  high_real : (e : End Ratio) → Divides d (value_of e) → IsOver (value_of e) (high_pair d (end_at (times_common d) e)).real d
  high_real (Closed f) o = is_times_common d f p o
  high_real (Open f) o = is_times_common d f p o

  low_tiny : (e : End Ratio) (f : Ratio) → IsOver f (cond (is_open e) (pos 1) (pos 0)) 1 → IsOver f (low_pair d (end_at (times_common d) e)).tiny d
  low_tiny (Closed g) f h = over_same_number f _ _ d (units f (pos 0) h) (omega (arith, ints))
  low_tiny (Open g) f h = over_same_number f _ _ d (units f (pos 1) h) (omega (arith, ints))

  high_tiny : (e : End Ratio) (f : Ratio) → IsOver f (cond (is_open e) (negsuc 0) (pos 0)) 1 → IsOver f (high_pair d (end_at (times_common d) e)).tiny d
  high_tiny (Closed g) f h = over_same_number f _ _ d (units f (pos 0) h) (omega (arith, ints))
  high_tiny (Open g) f h = over_same_number f _ _ d (units f (negsuc 0) h) (omega (arith, ints))

pub end_bounds : EndBounds
unfolding low_bound high_bound whole_problem
end_bounds problem j range f e =
    let d = product_of_denominators (ends_of problem.ranges) in
    let p = common_positive (ends_of problem.ranges) in
    let inside = slice_get_within problem.ranges j range e in
    let same = get_or_from_slice_get problem.ranges j range range e in
    let divide = subst (λ (r : Interval Ratio). Divides d (value_of r.low) × Divides d (value_of r.high)) same (ends_divide problem.ranges j range inside) in
    let there = sym (range_whole problem j range e) in
    record {
      low_real = subst (λ (r : Interval ℤ). IsOver (value_of range.low) (low_pair d r.low).real d) there (low_real d p range.low divide.0);
      low_tiny = λ h. subst (λ (r : Interval ℤ). IsOver f (low_pair d r.low).tiny d) there (low_tiny d p range.low f h);
      high_real = subst (λ (r : Interval ℤ). IsOver (value_of range.high) (high_pair d r.high).real d) there (high_real d p range.high divide.1);
      high_tiny = λ h. subst (λ (r : Interval ℤ). IsOver f (high_pair d r.high).tiny d) there (high_tiny d p range.high f h);
    }

pub row_bounds : RowBounds
unfolding low_bound high_bound whole_problem
row_bounds problem j h =
    let past = get_or_past (map (between (times_common (product_of_denominators (ends_of problem.ranges)))) problem.ranges) j zero_range (omega (arith, length-map problem.ranges (between (times_common (product_of_denominators (ends_of problem.ranges)))))) in
    (ap (λ (r : Interval ℤ). low_pair (product_of_denominators (ends_of problem.ranges)) r.low) past, ap (λ (r : Interval ℤ). high_pair (product_of_denominators (ends_of problem.ranges)) r.high) past)
