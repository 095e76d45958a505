-- How great signed sums of the ends of a narrow component are over its scale.
use Rattle.std.proofs.Common.{◌≡◌, ℕ, zero, suc, ◌+◌, ◌<◌, ◌≤◌, true, false, List, [], ◌∷◌, length, get_or, map, ℤ, pos, neg_ℤ, ◌+ℤ◌, ◌≢◌, refl, sym, ap, subst, arith, ⊎_elim}
use Rattle.std.specs.Prelude.{unsigned_abs, sum_by}
use Rattle.std.proofs.lemmas.Bool.{cases_eq}
use Rattle.std.proofs.lemmas.Int.{ints}
use Rattle.std.proofs.lemmas.List.{length-map}
use Rattle.xc_forest.specs.Forests.{IsSignedSum, Choice, Neither, Plus, Minus, parts_below, worth_of, range_at as span_at, value_at as parts_at}
use Rattle.xc_forest.specs.Laws.{AreSized, count_below}
use Rattle.xc_frac.specs.declared.delta.Delta.{Delta}
use Rattle.xc_interval.specs.Ends.{value_of}
use Rattle.xc_interval.specs.declared.interval.Interval.{Interval}
use Rattle.xc_joint.specs.Laws.{NarrowForestsHaveNumbers, width_of}
use Rattle.xc_joint.specs.PointRanges.{AreRangesOf}
use Rattle.xc_joint.specs.Small.{closed_pairs, pair}
use Rattle.xc_joint.specs.Widths.{Width, AreWithin, IsWithin}
use Rattle.xc_joint.proofs.Sizes.{all_reach, are_sized, high_is, low_is, HasTiny}
use Rattle.xc_model.specs.Fraction.{Fraction, IsNumberOver, whole, neg_of, sum_of}
use Rattle.xc_model.specs.Parts.{Parts}
use Rattle.xc_model.specs.Ratio.{Ratio, fraction_of}
use Rattle.xc_model.proofs.NumbersOver.{neg_number, number_over, number_over-same, sum_number}
use Rattle.xc_system.specs.Forests.{IsNarrow, reach, total_reach}
use Rattle.xc_system.specs.Systems.{Constraints, facts_of}
use Rattle.xc_system.specs.declared.types.Component.{Component}

-- a number is whole over d, and no greater than this
pub record IsSized (d size : ℕ) (x : Fraction) : Type 0 where
  pub whole : ℤ
  pub over : IsNumberOver x whole d
  pub small : unsigned_abs whole ≤ size

pub sized_zero : (d size : ℕ) → 0 < d → IsSized d size (whole (pos 0))
sized_zero d size p = record { whole = pos 0; over = record { positive = p; cross = omega (arith, ints) }; small = omega arith }

pub sized_neg : (d size : ℕ) (x : Fraction) → IsSized d size x → IsSized d size (neg_of x)
sized_neg d size x h = let k = h.small in record { whole = neg_ℤ h.whole; over = neg_number x h.whole d h.over; small = omega (arith, ints) }

sized_sum : (d a b : ℕ) (x y : Fraction) → IsSized d a x → IsSized d b y → IsSized d (a + b) (sum_of x y)
sized_sum d a b x y h k = let l = h.small in let m = k.small in record { whole = h.whole +ℤ k.whole; over = sum_number x y h.whole k.whole d h.over k.over; small = omega (arith, ints) }

within : (d size : ℕ) (f : Ratio) → IsSized d size (fraction_of f) → IsWithin d size f
within d size f h = record { whole = h.whole; over = number_over f h.whole d h.over; small = h.small }

more : (d a b : ℕ) (x : Fraction) → a ≤ b → IsSized d a x → IsSized d b x
more d a b x l h = let k = h.small in record { whole = h.whole; over = h.over; small = omega arith }

-- ---- sums
reals_below : (n d : ℕ) (f : ℕ → Parts) (size : ℕ → ℕ) → 0 < d → ((j : ℕ) → j < n → IsSized d (size j) (f j).real) → IsSized d (count_below n size) (parts_below n f).real
reals_below zero d f size p h = sized_zero d 0 p
reals_below (suc n) d f size p h = sized_sum d (count_below n size) (size n) (parts_below n f).real (f n).real (reals_below n d f size p (λ j l. h j (omega arith))) (h n (omega arith))

tinies_below : (n d : ℕ) (f : ℕ → Parts) (size : ℕ → ℕ) → 0 < d → ((j : ℕ) → j < n → IsSized d (size j) (f j).tiny) → IsSized d (count_below n size) (parts_below n f).tiny
tinies_below zero d f size p h = sized_zero d 0 p
tinies_below (suc n) d f size p h = sized_sum d (count_below n size) (size n) (parts_below n f).tiny (f n).tiny (tinies_below n d f size p (λ j l. h j (omega arith))) (h n (omega arith))

ones_below : (n : ℕ) → count_below n (λ p. 1) ≡ n
ones_below zero = refl
ones_below (suc n) = let i = ones_below n in omega (arith, i)

-- one of the terms
one_below : (n : ℕ) (size : ℕ → ℕ) (p : ℕ) → p < n → size p ≤ count_below n size
one_below zero size p l = absurd (omega arith)
one_below (suc n) size p l = ⊎_elim (λ (e : p ≡ n). omega (arith, ap size e)) (λ (e : p ≢ n). let i = one_below n size p (omega (arith, e)) in omega (arith, i)) (cases_eq p n)

-- ---- an end with its sign
real_worth : (k : Choice) (range : Interval Parts) (d size : ℕ) → 0 < d → IsSized d size (value_of range.low).real → IsSized d size (value_of range.high).real → IsSized d size (worth_of k range).real
real_worth Neither range d size p low high = sized_zero d size p
real_worth (Plus false) range d size p low high = low
real_worth (Plus true) range d size p low high = high
real_worth (Minus false) range d size p low high = sized_neg d size (value_of range.low).real low
real_worth (Minus true) range d size p low high = sized_neg d size (value_of range.high).real high

tiny_worth : (k : Choice) (range : Interval Parts) (d size : ℕ) → 0 < d → IsSized d size (value_of range.low).tiny → IsSized d size (value_of range.high).tiny → IsSized d size (worth_of k range).tiny
tiny_worth Neither range d size p low high = sized_zero d size p
tiny_worth (Plus false) range d size p low high = low
tiny_worth (Plus true) range d size p low high = high
tiny_worth (Minus false) range d size p low high = sized_neg d size (value_of range.low).tiny low
tiny_worth (Minus true) range d size p low high = sized_neg d size (value_of range.high).tiny high

-- ---- values with the ranges of their points
record IsSizedAt (w : Width) (range : Interval Parts) (x : Parts) : Type 0 where
  pub low : IsSized w.d w.r (value_of range.low).real
  pub high : IsSized w.d w.r (value_of range.high).real
  pub real : IsSized w.d w.r x.real
  pub tiny : IsSized 1 w.n x.tiny

all_within : (w : Width) (ranges : List (Interval Ratio)) (values : List (Delta Ratio)) → ((p : ℕ) → p < length ranges → IsSizedAt w (span_at (map closed_pairs ranges) p) (parts_at (map pair values) p)) → AreWithin w ranges values
all_within w [] values h = record {}
all_within w (range ∷ ranges) [] h = record {}
all_within w (range ∷ ranges) (value ∷ values) h =
    let first = h 0 (omega arith) in (
      record {
        low = within w.d w.r (value_of range.low) first.low;
        high = within w.d w.r (value_of range.high) first.high;
        real = within w.d w.r value.real first.real;
        tiny = within 1 w.n value.tiny first.tiny;
      },
      all_within w ranges values (λ p l. h (suc p) (omega arith)),
    )

module _ (s : Constraints) (c : Component) (ranges : List (Interval Parts)) (narrow : IsNarrow s c) (h : AreRangesOf s c ranges) where
  abbrev size : ℕ → ℕ
  size p = sum_by (reach s c narrow.scale) (facts_of s.bounds (get_or c.points p 0))

  abbrev sized : AreSized narrow.scale ranges size (λ p. narrow.scale)
  sized = are_sized s c ranges narrow h

  total : (p : ℕ) → p < length ranges → size p ≤ total_reach s c narrow.scale
  total p l = let one = one_below (length ranges) size p l in let all = all_reach s c ranges narrow h in omega (arith, one, all)

  pub low_real : (p : ℕ) → p < length ranges → IsSized narrow.scale (size p) (value_of (span_at ranges p).low).real
  low_real p l = record { whole = (sized.low p).real; over = (sized.low_over p l).real; small = (sized.low_size p l).in_real }

  pub high_real : (p : ℕ) → p < length ranges → IsSized narrow.scale (size p) (value_of (span_at ranges p).high).real
  high_real p l = record { whole = (sized.high p).real; over = (sized.high_over p l).real; small = (sized.high_size p l).in_real }

  tiny_is : (x : Parts) (e : Ratio) (z : ℤ) → unsigned_abs z ≤ 1 → HasTiny x e z → IsSized 1 1 x.tiny
  tiny_is x e z l is = subst (λ (y : Parts). IsSized 1 1 y.tiny) (sym is) (record { whole = z; over = record { positive = omega arith; cross = refl }; small = l })

  low_tiny : (p : ℕ) → p < length ranges → IsSized 1 1 (value_of (span_at ranges p).low).tiny
  low_tiny p l = let w = h.lows p l in let z = low_is _ w.interval.low w.is in tiny_is _ (value_of w.interval.low) z.0 z.1 z.2

  high_tiny : (p : ℕ) → p < length ranges → IsSized 1 1 (value_of (span_at ranges p).high).tiny
  high_tiny p l = let w = h.highs p l in let z = high_is _ w.interval.high w.is in tiny_is _ (value_of w.interval.high) z.0 z.1 z.2

  module _ (x : Parts) (sum : IsSignedSum ranges x) where
    abbrev worth : ℕ → Parts
    worth p = worth_of (sum.choice p) (span_at ranges p)

    real_sum : IsSized narrow.scale (total_reach s c narrow.scale) x.real
    real_sum =
        let all = reals_below (length ranges) narrow.scale worth size narrow.is_least.positive (λ p l. real_worth (sum.choice p) (span_at ranges p) narrow.scale (size p) narrow.is_least.positive (low_real p l) (high_real p l)) in
        let few = all.small in
        let each = all_reach s c ranges narrow h in
        record { whole = all.whole; over = number_over-same (parts_below (length ranges) worth).real x.real all.whole narrow.scale sum.is.real all.over; small = omega (arith, few, each) }

    tiny_sum : IsSized 1 (length c.points) x.tiny
    tiny_sum =
        let all = tinies_below (length ranges) 1 worth (λ p. 1) (omega arith) (λ p l. tiny_worth (sum.choice p) (span_at ranges p) 1 1 (omega arith) (low_tiny p l) (high_tiny p l)) in
        let few = all.small in
        let ones = ones_below (length ranges) in
        record { whole = all.whole; over = number_over-same (parts_below (length ranges) worth).tiny x.tiny all.whole 1 sum.is.tiny all.over; small = omega (arith, few, ones, h.each) }

    at_place : (p : ℕ) → p < length ranges → IsSizedAt (width_of s c narrow) (span_at ranges p) x
    at_place p l = record {
      low = more narrow.scale (size p) _ _ (total p l) (low_real p l);
      high = more narrow.scale (size p) _ _ (total p l) (high_real p l);
      real = real_sum;
      tiny = tiny_sum;
    }

pub numbers_have_room : NarrowForestsHaveNumbers
numbers_have_room s c ranges values narrow h sums =
    let long = length-map ranges closed_pairs in (
      narrow.is_least.positive,
      narrow.fits,
      all_within (width_of s c narrow) ranges values (λ p l. at_place s c (map closed_pairs ranges) narrow h _ (sums p l) p (omega (arith, long, l))),
    )
