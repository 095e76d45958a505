-- How great the ends of a narrow component are over its scale.
use Rattle.std.proofs.Common.{◌≡◌, ℕ, zero, suc, ◌+◌, ◌*◌, ◌/◌, ◌<◌, ◌≤◌, List, [], ◌∷◌, length, get_or, take, ℤ, pos, negsuc, ◌*ℤ◌, inl, inr, refl, sym, ap, ◌∙◌, arith, subst, add-one}
use Rattle.std.specs.Prelude.{unsigned_abs, sum_by, Some, IfSome}
use Rattle.std.specs.Option.{option_map_or}
use Rattle.std.proofs.lemmas.Int.{ints, unsigned_abs-mul}
use Rattle.std.proofs.lemmas.List.Sums.{get_or-le-sum_by, sum_by_more}
use Rattle.std.proofs.Math.Nat.{mul-le-mul_right, mul-le-mul_left, one-dvd}
use Rattle.std.proofs.Math.Seq.{take-length}
use Prim.Native.Nat.{◌∣◌}
use native.Mathlib.Nat.{mul-div_cancel'}
use Rattle.xc_forest.specs.Forests.{range_at as span_at}
use Rattle.xc_forest.specs.Laws.{AreSized, IsAtMostSize, IsNarrowSize, count_below}
use Rattle.xc_interval.specs.Ends.{value_of}
use Rattle.xc_interval.specs.Scales.{IsOnScale, HasEndsOnScale, size_of, greatest_end}
use Rattle.xc_interval.specs.declared.ends.End.{End}
use Rattle.xc_interval.specs.declared.ends.End.TheVariants.{Closed, Open}
use Rattle.xc_interval.specs.declared.interval.Interval.{Interval}
use Rattle.xc_joint.specs.PointRanges.{AreRangesOf}
use Rattle.xc_joint.specs.Small.{low_pair, high_pair}
use Rattle.xc_model.specs.Fraction.{Fraction, whole, IsNumberOver}
use Rattle.xc_model.specs.Parts.{Parts, WholeParts, ArePartsOver}
use Rattle.xc_model.specs.Ratio.{Ratio, fraction_of}
use Rattle.xc_model.proofs.Integers.{ring}
use Rattle.xc_system.specs.Forests.{IsNarrow, reach, total_reach}
use Rattle.xc_lists.specs.Members.{IsIn}
use Rattle.xc_system.specs.Systems.{Constraints, facts_of, range_at}
use Rattle.xc_system.specs.declared.types.Component.{Component}

-- ---- numbers over a multiple of their denominator
pub times : ℕ → Fraction → ℤ
times d x = x.num *ℤ pos (d / x.den)

scaled : ℕ → Parts → WholeParts
scaled d x = record { real = times d x.real; tiny = times d x.tiny }

pub number_over : (d : ℕ) (x : Fraction) → 0 < d → x.den ∣ d → IsNumberOver x (times d x) d
unfolding times
number_over d x p h =
    let d_is : x.den * (d / x.den) ≡ d = mul-div_cancel' x.den h in
    let both : pos x.den *ℤ pos (d / x.den) ≡ pos d = ap (λ (z : ℕ). pos z) d_is in
    let turned : x.num *ℤ (pos x.den *ℤ pos (d / x.den)) ≡ (x.num *ℤ pos (d / x.den)) *ℤ pos x.den = simp ring in
    record { positive = p; cross = ap (λ (z : ℤ). x.num *ℤ z) (sym both) ∙ turned }

one_divides : (d : ℕ) → 1 ∣ d
one_divides d = one-dvd d

by_one : (d : ℕ) → d / 1 ≡ d
by_one d = let e : 1 * (d / 1) ≡ d = mul-div_cancel' 1 (one_divides d) in omega (arith, e)

pub size_is : (d : ℕ) (e : Ratio) → unsigned_abs (times d (fraction_of e)) ≡ size_of d e
unfolding times
size_is d e = unsigned_abs-mul e.num (pos (d / unsigned_abs e.den))

unit_size : (d : ℕ) (z : ℤ) → unsigned_abs z ≤ 1 → unsigned_abs (times d (whole z)) ≤ d
unfolding times
unit_size d z h = let e : unsigned_abs (z *ℤ pos (d / 1)) ≡ unsigned_abs z * (d / 1) = unsigned_abs-mul z (pos (d / 1)) in let k : unsigned_abs z * (d / 1) ≤ 1 * (d / 1) = mul-le-mul_right (d / 1) h in omega (arith, by_one d)

-- ---- an end
abbrev pub HasTiny : (x : Parts) (e : Ratio) (z : ℤ) → Type 0
HasTiny x e z = x ≡ record { real = fraction_of e; tiny = whole z }

end_over : (d : ℕ) (x : Parts) (e : Ratio) (z : ℤ) → 0 < d → IsOnScale d e → HasTiny x e z → ArePartsOver x (scaled d x) d
unfolding scaled
end_over d x e z p h is = record {
  real = number_over d x.real p (subst (λ (y : Parts). y.real.den ∣ d) (sym is) h);
  tiny = number_over d x.tiny p (subst (λ (y : Parts). y.tiny.den ∣ d) (sym is) (one_divides d));
}

end_size : (d size : ℕ) (x : Parts) (e : Ratio) (z : ℤ) → unsigned_abs z ≤ 1 → size_of d e ≤ size → HasTiny x e z → IsAtMostSize size d (scaled d x)
unfolding scaled
end_size d size x e z u h is = subst (λ (y : Parts). IsAtMostSize size d (record { real = times d y.real; tiny = times d y.tiny })) (sym is) (record { in_real = omega (arith, size_is d e); in_tiny = unit_size d z u })

pub low_is : (x : Parts) (end : End Ratio) → x ≡ low_pair end → (z : ℤ) × (unsigned_abs z ≤ 1) × HasTiny x (value_of end) z
low_is x (Closed e) is = (pos 0, omega arith, is)
low_is x (Open e) is = (pos 1, omega arith, is)

pub high_is : (x : Parts) (end : End Ratio) → x ≡ high_pair end → (z : ℤ) × (unsigned_abs z ≤ 1) × HasTiny x (value_of end) z
high_is x (Closed e) is = (pos 0, omega arith, is)
high_is x (Open e) is = (negsuc 0, omega (arith, ints), is)

-- ---- lists
pub place_of : (q : ℕ) (xs : List ℕ) → IsIn q xs → (j : ℕ) × (j < length xs) × (get_or xs j 0 ≡ q)
place_of q [] i = absurd i
place_of q (x ∷ xs) (inl e) = (0, omega arith, sym e)
place_of q (x ∷ xs) (inr i) = let r = place_of q xs i in (suc r.0, omega (arith, r.1), r.2)

in_sum : (f : ℕ → ℕ) (q : ℕ) (xs : List ℕ) → IsIn q xs → f q ≤ sum_by f xs
in_sum f q xs i = let r = place_of q xs i in let k : f (get_or xs r.0 0) ≤ sum_by f xs = get_or-le-sum_by f xs r.0 0 r.1 in subst (λ (y : ℕ). f y ≤ sum_by f xs) r.2 k

counted : (f : ℕ → ℕ) (xs : List ℕ) (n : ℕ) → n ≤ length xs → count_below n (λ p. f (get_or xs p 0)) ≡ sum_by f (take n xs)
counted f xs zero l = refl
counted f xs (suc n) l = let i = counted f xs n (omega arith) in ap (λ k. k + f (get_or xs n 0)) i ∙ sym (sum_by_more f xs n 0 (omega arith)) ∙ ap (λ k. sum_by f (take k xs)) (add-one n)

same_count : (n d : ℕ) → count_below n (λ p. d) ≡ n * d
same_count zero d = omega arith
same_count (suc n) d = let i = same_count n d in omega (arith, i)

module _ (s : Constraints) (c : Component) (ranges : List (Interval Parts)) (narrow : IsNarrow s c) (h : AreRangesOf s c ranges) where
  abbrev scale : ℕ
  scale = narrow.scale

  abbrev size : ℕ → ℕ
  size p = sum_by (reach s c narrow.scale) (facts_of s.bounds p)

  positive : 0 < narrow.scale
  positive = narrow.is_least.positive

  -- a fact's interval is on the scale, and its ends are within the sum
  on_scale : (p k : ℕ) (i : Interval Ratio) → p < length ranges → IsIn k (facts_of s.bounds (get_or c.points p 0)) → range_at s.bounds k ≡ Some i → HasEndsOnScale narrow.scale i
  on_scale p k i l there known =
      let r = place_of k (facts_of s.bounds (get_or c.points p 0)) there in
      let a = narrow.is_least.common p 0 (omega (arith, h.each)) r.0 0 r.1 in
      let b : IfSome (range_at s.bounds k) (HasEndsOnScale narrow.scale) = subst (λ (x : ℕ). IfSome (range_at s.bounds x) (HasEndsOnScale narrow.scale)) r.2 a in
      rw known at b

  within : (p k : ℕ) (i : Interval Ratio) → IsIn k (facts_of s.bounds p) → range_at s.bounds k ≡ Some i → greatest_end narrow.scale i ≤ sum_by (reach s c narrow.scale) (facts_of s.bounds p)
  within p k i there known =
      let a = in_sum (reach s c narrow.scale) k (facts_of s.bounds p) there in
      let b : reach s c narrow.scale k ≡ greatest_end narrow.scale i = ap (λ r. option_map_or (greatest_end narrow.scale) r 0) known in
      omega (arith, a, b)

  pub are_sized : AreSized narrow.scale ranges (λ p. sum_by (reach s c narrow.scale) (facts_of s.bounds (get_or c.points p 0))) (λ p. narrow.scale)
  are_sized = record {
    low = λ p. scaled narrow.scale (value_of (span_at ranges p).low);
    high = λ p. scaled narrow.scale (value_of (span_at ranges p).high);
    low_over = λ p l. let w = h.lows p l in let z = low_is _ w.interval.low w.is in end_over narrow.scale _ (value_of w.interval.low) z.0 positive (on_scale p w.fact w.interval l w.there w.known).0 z.2;
    high_over = λ p l. let w = h.highs p l in let z = high_is _ w.interval.high w.is in end_over narrow.scale _ (value_of w.interval.high) z.0 positive (on_scale p w.fact w.interval l w.there w.known).1 z.2;
    low_size = λ p l. let w = h.lows p l in let z = low_is _ w.interval.low w.is in let m = within (get_or c.points p 0) w.fact w.interval w.there w.known in end_size narrow.scale _ _ (value_of w.interval.low) z.0 z.1 (omega (arith, m)) z.2;
    high_size = λ p l. let w = h.highs p l in let z = high_is _ w.interval.high w.is in let m = within (get_or c.points p 0) w.fact w.interval w.there w.known in end_size narrow.scale _ _ (value_of w.interval.high) z.0 z.1 (omega (arith, m)) z.2;
  }

  pub all_reach : count_below (length ranges) (λ p. sum_by (reach s c narrow.scale) (facts_of s.bounds (get_or c.points p 0))) ≡ total_reach s c narrow.scale
  all_reach = counted size c.points (length ranges) (omega (arith, h.each)) ∙ ap (λ n. sum_by size (take n c.points)) h.each ∙ ap (sum_by size) (take-length c.points)

  pub narrow_size : IsNarrowSize (length ranges) narrow.scale (λ p. sum_by (reach s c narrow.scale) (facts_of s.bounds (get_or c.points p 0))) (λ p. narrow.scale)
  narrow_size =
      let total : ℕ = narrow.scale + total_reach s c narrow.scale in
      let four : 4 * (narrow.scale + total_reach s c narrow.scale) ≤ (2 * length c.points + 4) * (narrow.scale + total_reach s c narrow.scale) = mul-le-mul_right (narrow.scale + total_reach s c narrow.scale) (omega arith) in
      let many : (2 * length c.points) * narrow.scale ≤ (2 * length c.points) * (narrow.scale + total_reach s c narrow.scale) = mul-le-mul_left (2 * length c.points) (omega arith) in
      let more : (2 * length c.points) * (narrow.scale + total_reach s c narrow.scale) ≤ (2 * length c.points + 4) * (narrow.scale + total_reach s c narrow.scale) = mul-le-mul_right (narrow.scale + total_reach s c narrow.scale) (omega arith) in
      let fits = narrow.fits in
      record {
        positive = positive;
        den = omega (arith, four, fits);
        in_real = omega (arith, four, fits, all_reach);
        in_tiny = rw (same_count (length ranges) narrow.scale, h.each) (omega (arith, many, more, fits));
      }
