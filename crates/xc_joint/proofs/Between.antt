-- A pair between the ends as closed ones is a number of the interval.
use Rattle.std.proofs.Common.{◌≡◌, ℕ, ◌*◌, ℤ, pos, negsuc, neg_ℤ, ◌<◌, ◌+ℤ◌, ◌*ℤ◌, ◌<ℤ◌, sym, ap, ◌∙◌, arith, inl, inr}
use Rattle.std.proofs.lemmas.Int.{ints}
use Rattle.xc_interval.specs.Intervals.{IsAtMost, IsBefore, IsPast}
use Rattle.xc_interval.specs.Ends.{end_at}
use Rattle.xc_interval.specs.declared.ends.End.{End}
use Rattle.xc_interval.specs.declared.ends.End.TheVariants.{Closed, Open}
use Rattle.xc_joint.specs.Laws.{SmallSolves}
use Rattle.xc_joint.specs.Small.{at, low_pair, high_pair, IsPositive, KeepsOrder}
use Rattle.xc_joint.proofs.Evaluated.{at_over, keeps_less, keeps_same, number_below, over_itself, over_multiple}
use Rattle.xc_model.specs.Fraction.{Fraction, SameNumber, IsBelow, IsNumberOver, whole}
use Rattle.xc_model.specs.Parts.{Parts, SameParts, IsLess}
use Rattle.xc_model.specs.Ratio.{Ratio, fraction_of}
use Rattle.xc_model.proofs.Integers.{ring, cancel, mul_positive, neg-mul}
use Rattle.xc_model.proofs.Numbers.{below-same, below-trans, den_positive, same-refl, same-sym, same-trans}

times_one : (a : ℤ) → a *ℤ pos 1 ≡ a
times_one a = omega (arith, ints)

one_times : (a : ℤ) → pos 1 *ℤ a ≡ a
one_times a = omega (arith, ints)

minus_times : (a : ℤ) → negsuc 0 *ℤ a ≡ neg_ℤ a
minus_times a = omega (arith, ints)

-- a whole number over any denominator
whole_over : (z : ℤ) (d : Fraction) → IsNumberOver (whole z) (z *ℤ pos d.den) d.den
whole_over z d = record { positive = d.positive; cross = sym (times_one (z *ℤ pos d.den)) }

-- e and k times the small number, over one denominator
near_over : (e : Fraction) (z : ℤ) (s : Fraction) → IsNumberOver (at (record { real = e; tiny = whole z }) s) (e.num *ℤ pos s.den +ℤ (z *ℤ pos e.den) *ℤ s.num) (e.den * s.den)
near_over e z s = at_over (record { real = e; tiny = whole z }) s e.num (z *ℤ pos e.den) s.num e.den s.den (over_itself e) (whole_over z e) (over_itself s)

itself_over : (e s : Fraction) → IsNumberOver e (e.num *ℤ pos s.den) (e.den * s.den)
itself_over e s = over_multiple e e.num e.den s.den s.positive (over_itself e)

pub same_over : (x y : Fraction) (n m : ℤ) (d : ℕ) → IsNumberOver x n d → IsNumberOver y m d → n ≡ m → SameNumber x y
same_over x y n m d a b e = number_same_by x y d n (a.cross) (b.cross ∙ ap (λ z. z *ℤ pos y.den) (sym e)) a.positive
  where
    number_same_by : (x y : Fraction) (d : ℕ) (n : ℤ) → x.num *ℤ pos d ≡ n *ℤ pos x.den → y.num *ℤ pos d ≡ n *ℤ pos y.den → 0 < d → SameNumber x y
    number_same_by x y d n a b p =
        let left : pos d *ℤ (x.num *ℤ pos y.den) ≡ (x.num *ℤ pos d) *ℤ pos y.den = simp ring in
        let middle : (n *ℤ pos x.den) *ℤ pos y.den ≡ (n *ℤ pos y.den) *ℤ pos x.den = simp ring in
        let right : (y.num *ℤ pos d) *ℤ pos x.den ≡ pos d *ℤ (y.num *ℤ pos x.den) = simp ring in
        record { cross = cancel (pos d) (x.num *ℤ pos y.den) (y.num *ℤ pos x.den) (λ none. absurd (omega (arith, ints, none, p))) (left ∙ ap (λ z. z *ℤ pos y.den) a ∙ middle ∙ ap (λ z. z *ℤ pos x.den) (sym b) ∙ right) }

-- e alone
pub at_zero : (e s : Fraction) → SameNumber (at (record { real = e; tiny = whole (pos 0) }) s) e
at_zero e s = same_over _ e (e.num *ℤ pos s.den +ℤ (pos 0 *ℤ pos e.den) *ℤ s.num) (e.num *ℤ pos s.den) (e.den * s.den) (near_over e (pos 0) s) (itself_over e s) (omega (arith, ints))

positive_num : (s : Fraction) → IsPositive s → pos 0 <ℤ s.num
positive_num s h = omega (arith, ints, h.cross)

-- just above e, and just below
above : (e s : Fraction) → IsPositive s → IsBelow e (at (record { real = e; tiny = whole (pos 1) }) s)
above e s h =
    let more = mul_positive (pos e.den) s.num (den_positive e) (positive_num s h) in
    let one : (pos 1 *ℤ pos e.den) *ℤ s.num ≡ pos e.den *ℤ s.num = ap (λ z. z *ℤ s.num) (one_times (pos e.den)) in
    number_below e _ (e.num *ℤ pos s.den) (e.num *ℤ pos s.den +ℤ (pos 1 *ℤ pos e.den) *ℤ s.num) (e.den * s.den) (itself_over e s) (near_over e (pos 1) s) (omega (arith, ints, more, one))

below : (e s : Fraction) → IsPositive s → IsBelow (at (record { real = e; tiny = whole (negsuc 0) }) s) e
below e s h =
    let more = mul_positive (pos e.den) s.num (den_positive e) (positive_num s h) in
    let one : (negsuc 0 *ℤ pos e.den) *ℤ s.num ≡ neg_ℤ (pos e.den *ℤ s.num) = ap (λ z. z *ℤ s.num) (minus_times (pos e.den)) ∙ neg-mul (pos e.den) s.num in
    number_below _ e (e.num *ℤ pos s.den +ℤ (negsuc 0 *ℤ pos e.den) *ℤ s.num) (e.num *ℤ pos s.den) (e.den * s.den) (near_over e (negsuc 0) s) (itself_over e s) (omega (arith, ints, more, one))

module _ (x : Parts) (s : Fraction) (positive : IsPositive s) where
  past : (end : End Ratio) → IsAtMost IsLess SameParts (low_pair end) x → KeepsOrder (low_pair end) x s → IsPast IsBelow SameNumber (end_at (λ f. fraction_of f) end) (at x s)
  past (Closed e) (inl less) keeps = inl (below-same (at (low_pair (Closed e)) s) (at x s) (fraction_of e) (at x s) (at_zero (fraction_of e) s) (same-refl (at x s)) (keeps_less (low_pair (Closed e)) x s positive keeps less))
  past (Closed e) (inr same) keeps = inr (same-trans (fraction_of e) (at (low_pair (Closed e)) s) (at x s) (same-sym (at (low_pair (Closed e)) s) (fraction_of e) (at_zero (fraction_of e) s)) (keeps_same (low_pair (Closed e)) x s same))
  past (Open e) (inl less) keeps = below-trans (fraction_of e) (at (low_pair (Open e)) s) (at x s) (above (fraction_of e) s positive) (keeps_less (low_pair (Open e)) x s positive keeps less)
  past (Open e) (inr same) keeps = below-same (fraction_of e) (at (low_pair (Open e)) s) (fraction_of e) (at x s) (same-refl (fraction_of e)) (keeps_same (low_pair (Open e)) x s same) (above (fraction_of e) s positive)

  before : (end : End Ratio) → IsAtMost IsLess SameParts x (high_pair end) → KeepsOrder x (high_pair end) s → IsBefore IsBelow SameNumber (end_at (λ f. fraction_of f) end) (at x s)
  before (Closed e) (inl less) keeps = inl (below-same (at x s) (at (high_pair (Closed e)) s) (at x s) (fraction_of e) (same-refl (at x s)) (at_zero (fraction_of e) s) (keeps_less x (high_pair (Closed e)) s positive keeps less))
  before (Closed e) (inr same) keeps = inr (same-trans (at x s) (at (high_pair (Closed e)) s) (fraction_of e) (keeps_same x (high_pair (Closed e)) s same) (at_zero (fraction_of e) s))
  before (Open e) (inl less) keeps = below-trans (at x s) (at (high_pair (Open e)) s) (fraction_of e) (keeps_less x (high_pair (Open e)) s positive keeps less) (below (fraction_of e) s positive)
  before (Open e) (inr same) keeps = below-same (at (high_pair (Open e)) s) (fraction_of e) (at x s) (fraction_of e) (same-sym (at x s) (at (high_pair (Open e)) s) (keeps_same x (high_pair (Open e)) s same)) (same-refl (fraction_of e)) (below (fraction_of e) s positive)

pub small_solves : SmallSolves
small_solves range x s has positive small = record { low = past x s positive range.low has.low small.low; high = before x s positive range.high has.high small.high }
