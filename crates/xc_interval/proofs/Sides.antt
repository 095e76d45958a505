-- Ends as a value and a flag: how an interval lies to a value is told by these.
use Rattle.std.proofs.Common.{◌≡◌, Bool, true, false, ◌||◌, refl, inl, inr, ◌⊎◌}
use Rattle.std.specs.Prelude.{IsTrue}
use Rattle.xc_model.proofs.Orders.{IsOrder}
use Rattle.xc_interval.specs.Ends.{value_of, is_open, end_at}
use Rattle.xc_interval.specs.Intervals.{IsPast, IsBefore, Crosses}
use Rattle.xc_interval.specs.declared.ends.End.{End}
use Rattle.xc_interval.specs.declared.ends.End.TheVariants.{Closed, Open}
use Rattle.xc_interval.specs.declared.interval.Interval.{Interval}

pub value_at : {E A : Type 0} (meaning : E → A) (e : End E) → value_of (end_at meaning e) ≡ meaning (value_of e)
value_at meaning (Closed e) = refl
value_at meaning (Open e) = refl

pub open_at : {E A : Type 0} (meaning : E → A) (e : End E) → is_open (end_at meaning e) ≡ is_open e
open_at meaning (Closed e) = refl
open_at meaning (Open e) = refl

module _ {A : Type 0} (Less Same : A → A → Type 0) where
  -- x is past the low end at a, which is open or not
  abbrev pub Past : A → Bool → A → Type 0
  Past a opens x = Less a x ⊎ (Same a x × (opens ≡ false))

  -- x is before the high end at b
  abbrev pub Before : A → Bool → A → Type 0
  Before b opens x = Less x b ⊎ (Same x b × (opens ≡ false))

  -- a low end at a is not past a high end at b
  abbrev pub Reach : A → Bool → A → Bool → Type 0
  Reach a p b q = Less a b ⊎ (Same a b × ((p ≡ false) × (q ≡ false)))

  pub past_of : (e : End A) (x : A) → IsPast Less Same e x → Past (value_of e) (is_open e) x
  past_of (Closed e) x (inl less) = inl less
  past_of (Closed e) x (inr same) = inr (same, refl)
  past_of (Open e) x less = inl less

  pub past_from : (e : End A) (x : A) → Past (value_of e) (is_open e) x → IsPast Less Same e x
  past_from (Closed e) x (inl less) = inl less
  past_from (Closed e) x (inr same) = inr same.0
  past_from (Open e) x (inl less) = less
  past_from (Open e) x (inr same) = absurd (true_or_false same.1)
    where
      true_or_false : true ≡ false → ⊥
      true_or_false e = cc

  pub before_of : (e : End A) (x : A) → IsBefore Less Same e x → Before (value_of e) (is_open e) x
  before_of (Closed e) x (inl less) = inl less
  before_of (Closed e) x (inr same) = inr (same, refl)
  before_of (Open e) x less = inl less

  pub before_from : (e : End A) (x : A) → Before (value_of e) (is_open e) x → IsBefore Less Same e x
  before_from (Closed e) x (inl less) = inl less
  before_from (Closed e) x (inr same) = inr same.0
  before_from (Open e) x (inl less) = less
  before_from (Open e) x (inr same) = absurd (true_or_false same.1)
    where
      true_or_false : true ≡ false → ⊥
      true_or_false e = cc

  -- the ends of an interval reach each other
  abbrev pub Opens : Interval A → Type 0
  Opens i = Reach (value_of i.low) (is_open i.low) (value_of i.high) (is_open i.high)

  either_open : (p q : Bool) → ¬ IsTrue (p || q) → (p ≡ false) × (q ≡ false)
  either_open true true h = absurd (h refl)
  either_open true false h = absurd (h refl)
  either_open false true h = absurd (h refl)
  either_open false false h = (refl, refl)

  none_open : (p q : Bool) → p ≡ false → q ≡ false → IsTrue (p || q) → ⊥
  none_open true q e f h = cc
  none_open false true e f h = cc
  none_open false false e f h = cc

  module _ (order : IsOrder Less Same) (compare : (x y : A) → Less x y ⊎ (Same x y ⊎ Less y x)) where
    -- where they do not cross, they reach each other
    pub opens_of : (i : Interval A) → ¬ Crosses Less Same i → Opens i
    opens_of i h = elim (compare (value_of i.low) (value_of i.high)) [
      | inl less ↦ inl less
      | inr rest ↦ elim rest [
        | inl same ↦ inr (same, either_open (is_open i.low) (is_open i.high) (λ e. h (inr (same, e))))
        | inr above ↦ absurd (h (inl above))
      ]
    ]

    pub not_crosses : (i : Interval A) → Opens i → ¬ Crosses Less Same i
    not_crosses i (inl less) (inl above) = order.irreflexive _ (order.transitive _ _ _ less above)
    not_crosses i (inl less) (inr crossed) = order.irreflexive (value_of i.low) (order.alike _ _ _ _ (order.same.reflexive _) (order.same.symmetric _ _ crossed.0) less)
    not_crosses i (inr same) (inl above) = order.irreflexive (value_of i.low) (order.alike _ _ _ _ (order.same.symmetric _ _ same.0) (order.same.reflexive _) above)
    not_crosses i (inr same) (inr crossed) = none_open (is_open i.low) (is_open i.high) same.1.0 same.1.1 crossed.1

    -- where something lies, they reach each other
    pub opens_from : (a b x : A) (p q : Bool) → Past a p x → Before b q x → Reach a p b q
    opens_from a b x p q (inl left) (inl right) = inl (order.transitive a x b left right)
    opens_from a b x p q (inl left) (inr right) = inl (order.alike a x a b (order.same.reflexive a) right.0 left)
    opens_from a b x p q (inr left) (inl right) = inl (order.alike x b a b (order.same.symmetric a x left.0) (order.same.reflexive b) right)
    opens_from a b x p q (inr left) (inr right) = inr (order.same.transitive a x b left.0 right.0, (left.1, right.1))
