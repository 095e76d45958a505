-- An interval in which something lies is told by its numbers.
use Rattle.std.proofs.Common.{◌≡◌, Bool, true, false, inl, inr, ◌⊎◌, refl, sym, ap, pos}
use Rattle.std.specs.Prelude.{◌↔◌}
use Rattle.xc_model.specs.Fraction.{SameNumber, IsBelow, whole}
use Rattle.xc_model.specs.Ratio.{Ratio, fraction_of}
use Rattle.xc_model.proofs.Numbers.{same-refl}
use Rattle.xc_model.specs.Laws.{HasOneLowest}
use Rattle.xc_interval.specs.Ends.{value_of, is_open, end_at}
use Rattle.xc_interval.specs.Intervals.{LiesIn, numbers_of, frac_parts}
use Rattle.xc_interval.specs.Laws.{HasOneInterval}
use Rattle.xc_interval.specs.declared.ends.End.{End}
use Rattle.xc_interval.specs.declared.ends.End.TheVariants.{Closed, Open}
use Rattle.xc_interval.specs.declared.interval.Interval.{Interval}
use Rattle.xc_interval.proofs.Emptiness.{number_in}
use Rattle.xc_interval.proofs.Meeting.{IsDense, turned, lies_past, lies_before}
use Rattle.xc_interval.proofs.Numbers.{number_dense}
use Rattle.xc_interval.proofs.Reals.{crosses_real}
use Rattle.xc_interval.proofs.Sides.{Past, Before, past_from, before_from}

-- the order turned round is dense too
dense_turned : {A : Type 0} (Less Same : A → A → Type 0) → IsDense Less Same → IsDense (λ x y. Less y x) (λ x y. Same y x)
dense_turned Less Same dense = record {
  order = turned Less Same dense.order;
  compare = λ x y. dense.compare y x;
  between = λ x y h. let m = dense.between y x h in (m.0, (m.1.1, m.1.0));
}

-- flags of which each is false where the other is
same_flags : (p q : Bool) → (p ≡ false → q ≡ false) → (q ≡ false → p ≡ false) → p ≡ q
same_flags true true h k = refl
same_flags true false h k = k refl
same_flags false true h k = sym (h refl)
same_flags false false h k = refl

-- two low ends, and a value z that is past both
module _ {A : Type 0} (Less Same : A → A → Type 0) (dense : IsDense Less Same) (a c z : A) (p r : Bool) (left : Past Less Same a p z) (right : Past Less Same c r z) where
  -- x is at most z
  abbrev UpTo : A → Type 0
  UpTo x = Less x z ⊎ Same x z

  up_to_end : (e : A) (opens : Bool) → Past Less Same e opens z → UpTo e
  up_to_end e opens (inl less) = inl less
  up_to_end e opens (inr at) = inr at.0

  below_end : (x e : A) → Less x e → UpTo e → Less x z
  below_end x e less (inl before) = dense.order.transitive x e z less before
  below_end x e less (inr at) = dense.order.alike x e x z (dense.order.same.reflexive x) at less

  -- what is below the value of an end is not past it
  not_past : (x e : A) (opens : Bool) → Less x e → Past Less Same e opens x → ⊥
  not_past x e opens less (inl past) = dense.order.irreflexive x (dense.order.transitive x e x less past)
  not_past x e opens less (inr at) = dense.order.irreflexive x (dense.order.alike x e x x (dense.order.same.reflexive x) at.0 less)

  closed_at : (x e : A) (opens : Bool) → Same e x → Past Less Same e opens x → opens ≡ false
  closed_at x e opens same (inl past) = absurd (dense.order.irreflexive x (dense.order.alike e x x x same (dense.order.same.reflexive x) past))
  closed_at x e opens same (inr at) = at.1

  -- up to z, what is past the first is past the second
  module _ (gives : (x : A) → UpTo x → Past Less Same a p x → Past Less Same c r x) where
    not_less : Less a c → ⊥
    not_less less =
        let m = dense.between a c less in
        not_past m.0 c r m.1.1 (gives m.0 (inl (below_end m.0 c m.1.1 (up_to_end c r right))) (inl m.1.0))

    closed_too : Same c a → p ≡ false → r ≡ false
    closed_too same closed = closed_at a c r same (gives a (up_to_end a p left) (inr (dense.order.same.reflexive a, closed)))

-- the same value, and open alike
pub record IsOneEnd {A : Type 0} (Same : A → A → Type 0) (a : A) (p : Bool) (c : A) (r : Bool) : Type 0 where
  pub at : Same a c
  pub opens : p ≡ r

module _ {A : Type 0} (Less Same : A → A → Type 0) (dense : IsDense Less Same) where
  -- low ends that have the same values up to one that is past both
  one_low : (a c z : A) (p r : Bool) → Past Less Same a p z → Past Less Same c r z
      → ((x : A) → Less x z ⊎ Same x z → Past Less Same a p x → Past Less Same c r x)
      → ((x : A) → Less x z ⊎ Same x z → Past Less Same c r x → Past Less Same a p x)
      → IsOneEnd Same a p c r
  one_low a c z p r left right gives back = by (dense.compare a c)
    where
      same : Same a c → IsOneEnd Same a p c r
      same at = record {
        at = at;
        opens = same_flags p r
            (closed_too Less Same dense a c z p r left right gives (dense.order.same.symmetric a c at))
            (closed_too Less Same dense c a z r p right left back at);
      }

      by : Less a c ⊎ (Same a c ⊎ Less c a) → IsOneEnd Same a p c r
      by (inl less) = absurd (not_less Less Same dense a c z p r left right gives less)
      by (inr (inl at)) = same at
      by (inr (inr above)) = absurd (not_less Less Same dense c a z r p right left back above)

  -- what is at most a value that is before a high end is before it
  before_up_to : (b z x : A) (q : Bool) → Before Less Same b q z → Less x z ⊎ Same x z → Before Less Same b q x
  before_up_to b z x q (inl less) (inl up) = inl (dense.order.transitive x z b up less)
  before_up_to b z x q (inl less) (inr at) = inl (dense.order.alike z b x b (dense.order.same.symmetric x z at) (dense.order.same.reflexive b) less)
  before_up_to b z x q (inr end) (inl up) = inl (dense.order.alike x z x b (dense.order.same.reflexive x) end.0 up)
  before_up_to b z x q (inr end) (inr at) = inr (dense.order.same.transitive x z b at end.0, end.1)

  -- between low ends and high ends lie the same values, and z does
  low_of_two : (a b c d z : A) (p q r s : Bool) → Past Less Same a p z → Before Less Same b q z → Past Less Same c r z → Before Less Same d s z
      → ((x : A) → Past Less Same a p x → Before Less Same b q x → Past Less Same c r x)
      → ((x : A) → Past Less Same c r x → Before Less Same d s x → Past Less Same a p x)
      → IsOneEnd Same a p c r
  low_of_two a b c d z p q r s a_z b_z c_z d_z gives back = one_low a c z p r a_z c_z
      (λ x up past. gives x past (before_up_to b z x q b_z up))
      (λ x up past. back x past (before_up_to d z x s d_z up))

module _ {A : Type 0} (Less Same : A → A → Type 0) (dense : IsDense Less Same) (i j : Interval A) (alike : (x : A) → LiesIn Less Same i x ↔ LiesIn Less Same j x) (z : A) (in_i : LiesIn Less Same i z) where
  in_j : LiesIn Less Same j z
  in_j = (alike z).0 in_i

  from_sides : (k : Interval A) (x : A) → Past Less Same (value_of k.low) (is_open k.low) x → Before Less Same (value_of k.high) (is_open k.high) x → LiesIn Less Same k x
  from_sides k x past before = record { low = past_from Less Same k.low x past; high = before_from Less Same k.high x before }

  pub low_ends : IsOneEnd Same (value_of i.low) (is_open i.low) (value_of j.low) (is_open j.low)
  low_ends = low_of_two Less Same dense (value_of i.low) (value_of i.high) (value_of j.low) (value_of j.high) z (is_open i.low) (is_open i.high) (is_open j.low) (is_open j.high)
      (lies_past Less Same dense i z in_i) (lies_before Less Same dense i z in_i) (lies_past Less Same dense j z in_j) (lies_before Less Same dense j z in_j)
      (λ x past before. lies_past Less Same dense j x ((alike x).0 (from_sides i x past before)))
      (λ x past before. lies_past Less Same dense i x ((alike x).1 (from_sides j x past before)))

  pub high_ends : IsOneEnd (λ x y. Same y x) (value_of i.high) (is_open i.high) (value_of j.high) (is_open j.high)
  high_ends = low_of_two (λ x y. Less y x) (λ x y. Same y x) (dense_turned Less Same dense) (value_of i.high) (value_of i.low) (value_of j.high) (value_of j.low) z (is_open i.high) (is_open i.low) (is_open j.high) (is_open j.low)
      (lies_before Less Same dense i z in_i) (lies_past Less Same dense i z in_i) (lies_before Less Same dense j z in_j) (lies_past Less Same dense j z in_j)
      (λ x before past. lies_before Less Same dense j x ((alike x).0 (from_sides i x past before)))
      (λ x before past. lies_before Less Same dense i x ((alike x).1 (from_sides j x past before)))

-- ends at the same number, open alike, are one
module _ (lowest : HasOneLowest) where
  one_end : (e f : End Ratio) → SameNumber (value_of (end_at (λ x. fraction_of x) e)) (value_of (end_at (λ x. fraction_of x) f)) → is_open (end_at (λ x. fraction_of x) e) ≡ is_open (end_at (λ x. fraction_of x) f) → e ≡ f
  one_end (Closed a) (Closed b) same opens = ap Closed (lowest a b same)
  one_end (Closed a) (Open b) same opens = absurd (cc)
  one_end (Open a) (Closed b) same opens = absurd (cc)
  one_end (Open a) (Open b) same opens = ap Open (lowest a b same)

  pub one_interval : HasOneInterval
  one_interval i j some other alike =
      let z = number_in (numbers_of i) (λ crosses. some (crosses_real frac_parts (λ e. same-refl (whole (pos 0))) i crosses)) in
      let low = low_ends IsBelow SameNumber number_dense (numbers_of i) (numbers_of j) alike z.0 z.1 in
      let high = high_ends IsBelow SameNumber number_dense (numbers_of i) (numbers_of j) alike z.0 z.1 in
      let low_same : i.low ≡ j.low = one_end i.low j.low low.at low.opens in
      let high_same : i.high ≡ j.high = one_end i.high j.high (number_dense.order.same.symmetric _ _ high.at) high.opens in
      λ k. record { low = low_same k; high = high_same k }
