-- The checker's sums over the numbers of a narrow component: no operation passes.
use Rattle.std.proofs.Common.{◌≡◌, ℕ, zero, suc, ◌+◌, ◌*◌, ◌<◌, ◌≤◌, ◌^◌, Bool, Some, List, [], ◌∷◌, length, map, get_or, ℤ, pos, ◌*ℤ◌, ◌≤ℤ◌, inl, inr, sym, ap, subst, ◌∙◌, arith}
use Rattle.std.specs.List.{AllByRecursion}
use Rattle.std.specs.Prelude.{All, Ok, slice_get, sum_by, unsigned_abs}
use Rattle.std.proofs.Math.Nat.{mul-le-mul_left, mul-le-mul_right}
use Rattle.std.proofs.lemmas.Int.{ints, unsigned_abs-mul}
use Rattle.std.proofs.lemmas.List.{length-map}
use Rattle.std.proofs.lemmas.Option.{slice_get-get_or}
use Rattle.xc_forest.specs.Forests.{row_at, points_of as row_points, range_at as span_at}
use Rattle.xc_forest.specs.Laws.{count_below}
use Rattle.xc_interval.specs.Ends.{end_at, value_of}
use Rattle.xc_interval.specs.Intervals.{HasNumber, IsAtMost, IsBefore, IsPast}
use Rattle.xc_interval.specs.declared.ends.End.{End}
use Rattle.xc_interval.specs.declared.ends.End.TheVariants.{Closed, Open}
use Rattle.xc_interval.specs.declared.interval.Interval.{Interval}
use Rattle.xc_joint.specs.PointRanges.{AreRangesOf}
use Rattle.xc_joint.specs.Small.{closed_pairs}
use Rattle.xc_joint.specs.Solved.{interval_at, number_at, NumbersSolve}
use Rattle.xc_joint.specs.Lists.{AreEach}
use Rattle.xc_joint.specs.Steps.OneForest.{AreRowsOf, IsBounded, IsRowOf, IsSignedPlace}
use Rattle.xc_joint.specs.Widths.{IsWholeOver}
use Rattle.xc_joint.proofs.Chains.{chain}
use Rattle.xc_joint.proofs.Disjoint.{once_below}
use Rattle.xc_joint.proofs.Each.{each_at, each_length}
use Rattle.xc_joint.proofs.Evaluated.{over_multiple}
use Rattle.xc_joint.proofs.ForestRanges.{are_ranges_of}
use Rattle.xc_joint.proofs.ForestRows.{are_rows}
use Rattle.xc_joint.proofs.Rooms.{powers}
use Rattle.xc_joint.proofs.Sizes.{all_reach, place_of}
use Rattle.xc_joint.proofs.SumSizes.{low_real, high_real, IsSized}
use Rattle.xc_model.specs.Fraction.{Fraction, IsBelow, IsNumberOver, SameNumber}
use Rattle.xc_model.specs.Ratio.{Ratio, fraction_of}
use Rattle.xc_model.proofs.NumbersOver.{below_number, equal_number, over_number}
use Rattle.xc_system.specs.Components.{IsComponent}
use Rattle.xc_system.specs.Forests.{IsNarrow, reach, total_reach}
use Rattle.xc_lists.specs.Members.{IsIn, IsOnce}
use Rattle.xc_system.specs.Systems.{Constraints, equation_at, facts_of, points_of}
use Rattle.xc_system.specs.declared.types.Component.{Component}
use Rattle.xc_verify.specs.Feasible.{equation_terms}
use Rattle.xc_verify.specs.Sums.{zero_ratio, IsSumOf}

-- ---- a number between two ends is no greater than they are

at_most : (x y : Fraction) (n m : ℤ) (d : ℕ) → IsNumberOver x n d → IsNumberOver y m d → IsAtMost IsBelow SameNumber x y → n ≤ℤ m
at_most x y n m d h k (inl less) = let l = below_number x y n m d h k less in omega (arith, ints, l)
at_most x y n m d h k (inr same) = let e = equal_number x y n m d h k same in omega (arith, ints, e)

past_most : (e : End Ratio) (x : Fraction) → IsPast IsBelow SameNumber (end_at (λ f. fraction_of f) e) x → IsAtMost IsBelow SameNumber (fraction_of (value_of e)) x
past_most (Closed e) x h = h
past_most (Open e) x h = inl h

before_most : (e : End Ratio) (x : Fraction) → IsBefore IsBelow SameNumber (end_at (λ f. fraction_of f) e) x → IsAtMost IsBelow SameNumber x (fraction_of (value_of e))
before_most (Closed e) x h = h
before_most (Open e) x h = inl h

some_factor : (d t : ℕ) → 0 < d * t → 0 < t
some_factor d zero h = absurd (omega (arith, h))
some_factor d (suc t) h = omega arith

times_size : (a : ℤ) (t size : ℕ) → unsigned_abs a ≤ size → unsigned_abs (a *ℤ pos t) ≤ size * t
times_size a t size h = let e : unsigned_abs (a *ℤ pos t) ≡ unsigned_abs a * t = unsigned_abs-mul a (pos t) in let k = mul-le-mul_right t h in omega (arith, e, k)

between_size : (a z b : ℤ) (size : ℕ) → a ≤ℤ z → z ≤ℤ b → unsigned_abs a ≤ size → unsigned_abs b ≤ size → unsigned_abs z ≤ size
between_size a z b size h k l m = omega (arith, ints, h, k, l, m)

lies_sized : (d t size : ℕ) (x : Fraction) (z : ℤ) (ranges : List (Interval Ratio)) (j : ℕ) → j < length ranges → HasNumber (interval_at ranges j) x → IsSized d size (value_of (span_at (map closed_pairs ranges) j).low).real → IsSized d size (value_of (span_at (map closed_pairs ranges) j).high).real → IsNumberOver x z (d * t) → unsigned_abs z ≤ size * t
lies_sized d t size x z [] j l lies low high over = absurd (omega (arith, l))
lies_sized d t size x z (r ∷ rs) (suc j) l lies low high over = lies_sized d t size x z rs j (omega (arith, l)) lies low high over
lies_sized d t size x z (r ∷ rs) zero l lies low high over =
    let some = some_factor d t over.positive in
    let first = at_most (fraction_of (value_of r.low)) x (low.whole *ℤ pos t) z (d * t) (over_multiple (fraction_of (value_of r.low)) low.whole d t some low.over) over (past_most r.low x lies.low) in
    let last = at_most x (fraction_of (value_of r.high)) z (high.whole *ℤ pos t) (d * t) over (over_multiple (fraction_of (value_of r.high)) high.whole d t some high.over) (before_most r.high x lies.high) in
    between_size (low.whole *ℤ pos t) z (high.whole *ℤ pos t) (size * t) first last (times_size low.whole t size low.small) (times_size high.whole t size high.small)

-- ---- the numbers of a component

whole_at : (d : ℕ) (xs : List Ratio) (j : ℕ) → AllByRecursion (IsWholeOver d) xs → j < length xs → (z : ℤ) × IsNumberOver (number_at xs j) z d
whole_at d [] j h l = absurd (omega (arith, l))
whole_at d (x ∷ xs) zero h l = (h.0.0, over_number x h.0.0 d h.0.1)
whole_at d (x ∷ xs) (suc j) h l = whole_at d xs j h.1 (omega (arith, l))

times_count : (n t : ℕ) (f : ℕ → ℕ) → count_below n (λ j. f j * t) ≡ count_below n f * t
times_count zero t f = omega arith
times_count (suc n) t f = let i = times_count n t f in let k : (count_below n f + f n) * t ≡ count_below n f * t + f n * t = omega arith in omega (arith, i, k)

module _ (s : Constraints) (c : Component) (is : IsComponent s c) (narrow : IsNarrow s c) (once : All (λ i. IsOnce (points_of (equation_at s.equations i))) c.equations) (ranges : List (Interval Ratio)) (rows : List (List (ℕ × Bool))) (bounded : AreEach (IsBounded s) c.points ranges) (rows_are : AreRowsOf s c rows) (xs : List Ratio) (solve : NumbersSolve rows ranges xs) (factor : ℕ) (few : factor ≤ length c.points + 1) (whole : AllByRecursion (IsWholeOver (narrow.scale * 2 * factor)) xs) where
  abbrev size : ℕ → ℕ
  size p = sum_by (reach s c narrow.scale) (facts_of s.bounds (get_or c.points p 0))

  abbrev spans_are : AreRangesOf s c (map closed_pairs ranges)
  spans_are = are_ranges_of s c ranges bounded

  many : length ranges ≡ length c.points
  many = each_length (IsBounded s) c.points ranges bounded

  long : length xs ≡ length c.points
  long = solve.each ∙ many

  value : (j : ℕ) → j < length xs → IsSized (narrow.scale * (2 * factor)) (size j * (2 * factor)) (number_at xs j)
  value j l =
      let z = whole_at (narrow.scale * 2 * factor) xs j whole l in
      let den : narrow.scale * 2 * factor ≡ narrow.scale * (2 * factor) = omega arith in
      let over : IsNumberOver (number_at xs j) z.0 (narrow.scale * (2 * factor)) = subst (λ n. IsNumberOver (number_at xs j) z.0 n) den z.1 in
      let within : j < length ranges = omega (arith, l, solve.each) in
      let mapped : j < length (map closed_pairs ranges) = omega (arith, within, length-map ranges closed_pairs) in
      record { whole = z.0; over = over; small = lies_sized narrow.scale (2 * factor) (size j) (number_at xs j) z.0 ranges j within (solve.within j within) (low_real s c (map closed_pairs ranges) narrow spans_are j mapped) (high_real s c (map closed_pairs ranges) narrow spans_are j mapped) over }

  abbrev total : ℕ
  total = total_reach s c narrow.scale

  limit_fits : total * (2 * factor) < 2 ^ 127
  limit_fits =
      let one : (2 * factor) * total ≤ (2 * length c.points + 4) * total = mul-le-mul_right total (omega (arith, few)) in
      let other : (2 * length c.points + 4) * total ≤ (2 * length c.points + 4) * (narrow.scale + total) = mul-le-mul_left (2 * length c.points + 4) (omega arith) in
      let fits = narrow.fits in
      let turned : (2 * factor) * total ≡ total * (2 * factor) = omega arith in
      omega (arith, one, other, fits, turned, powers)

  den_fits : narrow.scale * (2 * factor) < 2 ^ 127
  den_fits =
      let one : (2 * factor) * narrow.scale ≤ (2 * length c.points + 4) * narrow.scale = mul-le-mul_right narrow.scale (omega (arith, few)) in
      let other : (2 * length c.points + 4) * narrow.scale ≤ (2 * length c.points + 4) * (narrow.scale + total) = mul-le-mul_left (2 * length c.points + 4) (omega arith) in
      let fits = narrow.fits in
      let turned : (2 * factor) * narrow.scale ≡ narrow.scale * (2 * factor) = omega arith in
      omega (arith, one, other, fits, turned, powers)

  all_sizes : count_below (length c.points) (λ j. size j * (2 * factor)) ≡ total * (2 * factor)
  all_sizes =
      let e = all_reach s c (map closed_pairs ranges) narrow spans_are in
      let n : length (map closed_pairs ranges) ≡ length c.points = length-map ranges closed_pairs ∙ many in
      times_count (length c.points) (2 * factor) size ∙ ap (λ m. count_below m size * (2 * factor)) (sym n) ∙ ap (λ m. m * (2 * factor)) e

  pub have_sums : (all : List Ratio) → ((i p : ℕ) (x : Ratio) → slice_get c.points i ≡ Some p → slice_get xs i ≡ Some x → slice_get all p ≡ Some x) → (i : ℕ) → IsIn i c.equations → (x : Ratio) × IsSumOf (equation_terms all (equation_at s.equations i).entries) (Ok x)
  have_sums all among i inside =
      let place = place_of i c.equations inside in
      let j = place.0 in
      let m = place.1 in
      let as_many = each_length (IsRowOf s c.points) c.equations rows rows_are in
      let row = each_at (IsRowOf s c.points) c.equations rows j 0 [] rows_are place.1 in
      let here : AreEach (IsSignedPlace c.points) (equation_at s.equations i).entries (row_at rows j) = subst (λ (n : ℕ). AreEach (IsSignedPlace c.points) (equation_at s.equations n).entries (row_at rows j)) place.2 row in
      let a = are_rows s c rows is rows_are once j (omega (arith, as_many, m)) in
      let owner = (is.equations i).0 inside in
      let q = place_of owner.0 c.points owner.2 in
      let q_inside = q.1 in
      let positive : 0 < narrow.scale * (2 * factor) = (value q.0 (omega (arith, q_inside, long))).over.positive in
      let below : sum_by (λ k. size k * (2 * factor)) (row_points (row_at rows j)) ≤ count_below (length c.points) (λ k. size k * (2 * factor)) = once_below (row_points (row_at rows j)) (length c.points) (λ k. size k * (2 * factor)) a.1 a.0 in
      let start : IsSized (narrow.scale * (2 * factor)) 0 (fraction_of zero_ratio) = record { whole = pos 0; over = record { positive = positive; cross = omega (arith, ints) }; small = omega arith } in
      chain (narrow.scale * (2 * factor)) (total * (2 * factor)) den_fits limit_fits c.points xs long (λ k. size k * (2 * factor)) value all
      (λ k l. among k (get_or c.points k 0) (get_or xs k zero_ratio) (slice_get-get_or c.points k 0 l) (slice_get-get_or xs k zero_ratio (omega (arith, l, long))))
      (equation_at s.equations i).entries (row_at rows j) here zero_ratio 0 start (omega (arith, below, all_sizes))
