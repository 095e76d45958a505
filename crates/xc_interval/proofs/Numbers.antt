-- Numbers, and pairs of parts, are dense ordered groups.
use Rattle.std.proofs.Common.{◌≡◌, ℕ, ◌+◌, ◌<◌, ℤ, pos, ◌+ℤ◌, ◌*ℤ◌, ◌<ℤ◌, arith, inl, inr, ◌⊎◌}
use Rattle.std.proofs.lemmas.Int.{ints}
use Rattle.std.specs.declared.cmp.Ordering.{Ordering}
use Rattle.std.specs.declared.cmp.Ordering.TheVariants.{Less, Equal, Greater}
use Rattle.xc_model.specs.Fraction.{Fraction, SameNumber, IsBelow, whole, neg_of, sum_of}
use Rattle.xc_model.specs.Order.{Orders}
use Rattle.xc_model.proofs.Arithmetic.{sum-assoc, sum-comm, sum-zero, sum-neg, below-sum}
use Rattle.xc_model.proofs.Integers.{mul-add, add-mul}
use Rattle.xc_model.proofs.Numbers.{same-refl, same-sum}
use Rattle.xc_model.proofs.Orders.{number_order, number_total, pair_order, pair_total}
use Rattle.xc_model.specs.Parts.{Parts, SameParts, IsLess, OrdersParts, zero_parts, neg_parts, sum_parts}
use Rattle.xc_interval.proofs.Groups.{IsGroup}
use Rattle.xc_interval.proofs.Meeting.{IsDense}

-- a number between x and y: the sum of the numerators over that of the denominators
abbrev between : Fraction → Fraction → Fraction
between x y = record { num = x.num +ℤ y.num; den = x.den + y.den; positive = some x.den y.den x.positive }
  where
    some : (b d : ℕ) → 0 < b → 0 < b + d
    some b d p = omega arith

past_low : (a c : ℤ) (b d : ℕ) → (a *ℤ pos d) <ℤ (c *ℤ pos b) → (a *ℤ pos (b + d)) <ℤ ((a +ℤ c) *ℤ pos b)
past_low a c b d h =
    let den : pos (b + d) ≡ pos b +ℤ pos d = omega (arith, ints) in
    rw den (omega (arith, ints, h, mul-add a (pos b) (pos d), add-mul a c (pos b)))

before_high : (a c : ℤ) (b d : ℕ) → (a *ℤ pos d) <ℤ (c *ℤ pos b) → ((a +ℤ c) *ℤ pos d) <ℤ (c *ℤ pos (b + d))
before_high a c b d h =
    let den : pos (b + d) ≡ pos b +ℤ pos d = omega (arith, ints) in
    rw den (omega (arith, ints, h, mul-add c (pos b) (pos d), add-mul a c (pos d)))

number_between : (x y : Fraction) → IsBelow x y → (m : Fraction) × (IsBelow x m × IsBelow m y)
number_between x y h = (between x y, (record { cross = past_low x.num y.num x.den y.den h.cross }, record { cross = before_high x.num y.num x.den y.den h.cross }))

number_compare : (x y : Fraction) → IsBelow x y ⊎ (SameNumber x y ⊎ IsBelow y x)
number_compare x y = by_ordering (number_total x y)
  where
    by_ordering : ((o : Ordering) × Orders o x y) → IsBelow x y ⊎ (SameNumber x y ⊎ IsBelow y x)
    by_ordering (Less, h) = inl h
    by_ordering (Equal, h) = inr (inl h)
    by_ordering (Greater, h) = inr (inr h)

pub number_dense : IsDense IsBelow SameNumber
number_dense = record { order = number_order; compare = number_compare; between = number_between }

pub number_group : IsGroup IsBelow SameNumber sum_of neg_of (whole (pos 0))
number_group = record {
  order = number_order;
  sums = λ x y x' y' h i. same-sum x y x' y' h i;
  associative = sum-assoc;
  commutative = sum-comm;
  neutral = sum-zero;
  inverse = sum-neg;
  less = below-sum;
}

pair_between : (x y : Parts) → IsLess x y → (m : Parts) × (IsLess x m × IsLess m y)
pair_between x y (inl below) =
    let m = number_between x.real y.real below in
    (record { real = m.0; tiny = x.tiny }, (inl m.1.0, inl m.1.1))
pair_between x y (inr rest) =
    let m = number_between x.tiny y.tiny rest.1 in
    (record { real = x.real; tiny = m.0 }, (inr (same-refl x.real, m.1.0), inr (rest.0, m.1.1)))

pair_compare : (x y : Parts) → IsLess x y ⊎ (SameParts x y ⊎ IsLess y x)
pair_compare x y = by_ordering (pair_total x y)
  where
    by_ordering : ((o : Ordering) × OrdersParts o x y) → IsLess x y ⊎ (SameParts x y ⊎ IsLess y x)
    by_ordering (Less, h) = inl h
    by_ordering (Equal, h) = inr (inl h)
    by_ordering (Greater, h) = inr (inr h)

pub pair_dense : IsDense IsLess SameParts
pair_dense = record { order = pair_order; compare = pair_compare; between = pair_between }

pair_less : (z x y : Parts) → IsLess x y → IsLess (sum_parts x z) (sum_parts y z)
pair_less z x y (inl below) = inl (below-sum z.real x.real y.real below)
pair_less z x y (inr rest) = inr (same-sum x.real z.real y.real z.real rest.0 (same-refl z.real), below-sum z.tiny x.tiny y.tiny rest.1)

pub pair_group : IsGroup IsLess SameParts sum_parts neg_parts zero_parts
pair_group = record {
  order = pair_order;
  sums = λ x y x' y' h i. record { real = same-sum x.real y.real x'.real y'.real h.real i.real; tiny = same-sum x.tiny y.tiny x'.tiny y'.tiny h.tiny i.tiny };
  associative = λ x y z. record { real = sum-assoc x.real y.real z.real; tiny = sum-assoc x.tiny y.tiny z.tiny };
  commutative = λ x y. record { real = sum-comm x.real y.real; tiny = sum-comm x.tiny y.tiny };
  neutral = λ x. record { real = sum-zero x.real; tiny = sum-zero x.tiny };
  inverse = λ x. record { real = sum-neg x.real; tiny = sum-neg x.tiny };
  less = pair_less;
}
