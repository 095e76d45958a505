-- Which of two ends is the tighter one, and what both let in.
use Rattle.std.proofs.Common.{◌≡◌, Bool, true, false, not, ◌&&◌, refl, sym, ◌∙◌, ap, subst, inl, inr, ◌⊎◌}
use Rattle.std.specs.Prelude.{◌↔◌, IsTrue}
use Rattle.xc_model.specs.Parts.{Parts, IsLess, SameParts}
use Rattle.xc_model.proofs.Orders.{IsOrder, pair_order}
use Rattle.xc_interval.specs.Ends.{value_of, is_open, end_at}
use Rattle.xc_interval.specs.Intervals.{IsPast, IsBefore}
use Rattle.xc_interval.specs.Laws.{IsTightness}
use Rattle.xc_interval.specs.Tightest.{IsTighterLow, IsTighterHigh}
use Rattle.xc_interval.specs.declared.ends.End.{End}
use Rattle.xc_interval.proofs.Meeting.{IsDense, Covers, past_covered, turned}
use Rattle.xc_interval.proofs.Numbers.{pair_dense}
use Rattle.xc_interval.proofs.Sides.{value_at, open_at, past_of, past_from, before_of, before_from}

false_true : false ≡ true → ⊥
false_true e = cc

true_false : true ≡ false → ⊥
true_false e = cc

module _ {A : Type 0} (Less Same : A → A → Type 0) (order : IsOrder Less Same) where
  -- the low end at a is tighter than the one at c
  abbrev Tighter : A → Bool → A → Bool → Type 0
  Tighter a p c r = Less c a ⊎ (Same c a × ((p ≡ true) × (r ≡ false)))

  not_both : (a c : A) → Same c a → Less c a → ⊥
  not_both a c same less = order.irreflexive a (order.alike c a a a same (order.same.reflexive a) less)

  never : (a c : A) (p r : Bool) → Less a c → Tighter a p c r → ⊥
  never a c p r less (inl above) = order.irreflexive a (order.transitive a c a less above)
  never a c p r less (inr same) = order.irreflexive a (order.alike a c a a (order.same.reflexive a) same.0 less)

  -- at one value the flags tell
  by_flags : (a c : A) (p r : Bool) → Same c a → IsTrue (p && not r) ↔ Tighter a p c r
  by_flags a c true false same = (λ e. inr (same, (refl, refl)), λ h. refl)
  by_flags a c true true same = (λ e. absurd (false_true e), λ h. elim h [ inl less ↦ absurd (not_both a c same less) | inr flags ↦ absurd (true_false flags.1.1) ])
  by_flags a c false r same = (λ e. absurd (false_true e), λ h. elim h [ inl less ↦ absurd (not_both a c same less) | inr flags ↦ absurd (false_true flags.1.0) ])

  -- what the tighter one lets in, the other does
  covers_of : (a c : A) (p r : Bool) → Tighter a p c r → Covers Less Same order c r a p
  covers_of a c p r (inl less) = inl less
  covers_of a c p r (inr same) = inr (same.0, λ e. same.1.1)

  module _ (compare : (x y : A) → Less x y ⊎ (Same x y ⊎ Less y x)) where
    closed_unless : (a c : A) (p r : Bool) → Same a c → ¬ Tighter a p c r → r ≡ false → p ≡ false
    closed_unless a c true r same h closed = absurd (h (inr (order.same.symmetric a c same, (refl, closed))))
    closed_unless a c false r same h closed = refl

    covers_not : (a c : A) (p r : Bool) → ¬ Tighter a p c r → Covers Less Same order a p c r
    covers_not a c p r h = elim (compare a c) [
      | inl less ↦ inl less
      | inr rest ↦ elim rest [
        | inl same ↦ inr (same, closed_unless a c p r same h)
        | inr above ↦ absurd (h (inl above))
      ]
    ]

    not_turned : (a c : A) (p r : Bool) → Tighter a p c r → Tighter c r a p → ⊥
    not_turned a c p r (inl less) h = never c a r p less h
    not_turned a c p r (inr same) (inl less) = not_both c a (order.same.symmetric c a same.0) less
    not_turned a c p r (inr same) (inr other) = true_false (sym same.1.0 ∙ other.1.1)

    beside : (a b c : A) (p q r : Bool) → Same b c → Same c a → p ≡ true → r ≡ false → Tighter a p b q ⊎ Tighter b q c r
    beside a b c p true r left right opens closed = inr (inr (order.same.symmetric b c left, (refl, closed)))
    beside a b c p false r left right opens closed = inl (inr (order.same.transitive b c a left right, (opens, refl)))

    either_tighter : (a b c : A) (p q r : Bool) → Tighter a p c r → Tighter a p b q ⊎ Tighter b q c r
    either_tighter a b c p q r h = elim (compare b c) [
      | inl below ↦ elim h [
        | inl less ↦ inl (inl (order.transitive b c a below less))
        | inr same ↦ inl (inl (order.alike b c b a (order.same.reflexive b) same.0 below))
      ]
      | inr rest ↦ elim rest [
        | inl at ↦ elim h [
          | inl less ↦ inl (inl (order.alike c a b a (order.same.symmetric b c at) (order.same.reflexive a) less))
          | inr same ↦ beside a b c p q r at same.0 same.1.0 same.1.1
        ]
        | inr above ↦ inr (inl above)
      ]
    ]

module _ {A : Type 0} (Less Same : A → A → Type 0) (dense : IsDense Less Same) where
  abbrev More : A → A → Type 0
  More x y = Less y x

  abbrev Equal : A → A → Type 0
  Equal x y = Same y x

  abbrev order_turned : IsOrder More Equal
  order_turned = turned Less Same dense.order

  compare_turned : (x y : A) → More x y ⊎ (Equal x y ⊎ More y x)
  compare_turned x y = dense.compare y x

  -- a low end lets in what the tighter one does, and a tighter one what one that is none does
  past_other : (e f : End A) → IsTighterLow Less Same e f → (x : A) → IsPast Less Same e x → IsPast Less Same f x
  past_other e f h x past = past_from Less Same f x (past_covered Less Same dense.order (value_of f) (value_of e) x (is_open f) (is_open e)
      (covers_of Less Same dense.order (value_of e) (value_of f) (is_open e) (is_open f) h) (past_of Less Same e x past))

  past_unless : (e f : End A) → ¬ IsTighterLow Less Same e f → (x : A) → IsPast Less Same f x → IsPast Less Same e x
  past_unless e f h x past = past_from Less Same e x (past_covered Less Same dense.order (value_of e) (value_of f) x (is_open e) (is_open f)
      (covers_not Less Same dense.order dense.compare (value_of e) (value_of f) (is_open e) (is_open f) h) (past_of Less Same f x past))

  before_other : (e f : End A) → IsTighterHigh Less Same e f → (x : A) → IsBefore Less Same e x → IsBefore Less Same f x
  before_other e f h x past = before_from Less Same f x (past_covered More Equal order_turned (value_of f) (value_of e) x (is_open f) (is_open e)
      (covers_of More Equal order_turned (value_of e) (value_of f) (is_open e) (is_open f) h) (before_of Less Same e x past))

  before_unless : (e f : End A) → ¬ IsTighterHigh Less Same e f → (x : A) → IsBefore Less Same f x → IsBefore Less Same e x
  before_unless e f h x past = before_from Less Same e x (past_covered More Equal order_turned (value_of e) (value_of f) x (is_open e) (is_open f)
      (covers_not More Equal order_turned compare_turned (value_of e) (value_of f) (is_open e) (is_open f) h) (before_of Less Same f x past))

  pub low_tightness : IsTightness (IsTighterLow Less Same) (IsPast Less Same)
  low_tightness = record {
    asymmetric = λ e f. not_turned Less Same dense.order dense.compare (value_of e) (value_of f) (is_open e) (is_open f);
    either = λ e f g. either_tighter Less Same dense.order dense.compare (value_of e) (value_of f) (value_of g) (is_open e) (is_open f) (is_open g);
    lets = past_other;
    keeps = past_unless;
  }

  pub high_tightness : IsTightness (IsTighterHigh Less Same) (IsBefore Less Same)
  high_tightness = record {
    asymmetric = λ e f. not_turned More Equal order_turned compare_turned (value_of e) (value_of f) (is_open e) (is_open f);
    either = λ e f g. either_tighter More Equal order_turned compare_turned (value_of e) (value_of f) (value_of g) (is_open e) (is_open f) (is_open g);
    lets = before_other;
    keeps = before_unless;
  }

-- the tighter one of two lets in what both do
pub both_where : {A : Type 0} {Tighter : End A → End A → Type 0} {Admits : End A → A → Type 0} → IsTightness Tighter Admits
    → (one other : End A) → Tighter other one → (x : A) → Admits other x ↔ (Admits one x × Admits other x)
both_where tight one other h x = (λ in_other. (tight.lets other one h x in_other, in_other), λ both. both.1)

pub both_unless : {A : Type 0} {Tighter : End A → End A → Type 0} {Admits : End A → A → Type 0} → IsTightness Tighter Admits
    → (one other : End A) → ¬ Tighter other one → (x : A) → Admits one x ↔ (Admits one x × Admits other x)
both_unless tight one other h x = (λ in_one. (in_one, tight.keeps other one h x in_one), λ both. both.0)

-- as the values at the ends compare
module _ {E : Type 0} (parts : E → Parts) (e f : End E) (v w : E) (left : v ≡ value_of e) (right : w ≡ value_of f) where
  at_left : parts v ≡ value_of (end_at parts e)
  at_left = ap parts left ∙ sym (value_at parts e)

  at_right : parts w ≡ value_of (end_at parts f)
  at_right = ap parts right ∙ sym (value_at parts f)

  less_ends : IsLess (parts v) (parts w) → IsLess (value_of (end_at parts e)) (value_of (end_at parts f))
  less_ends h = subst (λ z. IsLess z (value_of (end_at parts f))) at_left (subst (λ z. IsLess (parts v) z) at_right h)

  more_ends : IsLess (parts w) (parts v) → IsLess (value_of (end_at parts f)) (value_of (end_at parts e))
  more_ends h = subst (λ z. IsLess (value_of (end_at parts f)) z) at_left (subst (λ z. IsLess z (parts v)) at_right h)

  same_ends : SameParts (parts v) (parts w) → SameParts (value_of (end_at parts e)) (value_of (end_at parts f))
  same_ends h = subst (λ z. SameParts z (value_of (end_at parts f))) at_left (subst (λ z. SameParts (parts v) z) at_right h)

  flags : (b : Bool) → b ≡ (is_open e && not (is_open f)) → b ≡ (is_open (end_at parts e) && not (is_open (end_at parts f)))
  flags b is = is ∙ (λ i. sym (open_at parts e) i && not (sym (open_at parts f) i))

  abbrev Low : Type 0
  Low = IsTighterLow IsLess SameParts (end_at parts e) (end_at parts f)

  abbrev High : Type 0
  High = IsTighterHigh IsLess SameParts (end_at parts e) (end_at parts f)

  pub low_less : IsLess (parts v) (parts w) → IsTrue false ↔ Low
  low_less h = (λ t. absurd (false_true t), λ low. absurd (never IsLess SameParts pair_order _ _ _ _ (less_ends h) low))

  pub low_more : IsLess (parts w) (parts v) → IsTrue true ↔ Low
  low_more h = (λ t. inl (more_ends h), λ low. refl)

  pub low_same : SameParts (parts v) (parts w) → (b : Bool) → b ≡ (is_open e && not (is_open f)) → IsTrue b ↔ Low
  low_same h b is = subst (λ t. IsTrue t ↔ Low) (sym (flags b is)) (by_flags IsLess SameParts pair_order _ _ _ _ (pair_order.same.symmetric _ _ (same_ends h)))

  pub high_less : IsLess (parts v) (parts w) → IsTrue true ↔ High
  high_less h = (λ t. inl (less_ends h), λ high. refl)

  pub high_more : IsLess (parts w) (parts v) → IsTrue false ↔ High
  high_more h = (λ t. absurd (false_true t), λ high. absurd (never (More IsLess SameParts pair_dense) (Equal IsLess SameParts pair_dense) (order_turned IsLess SameParts pair_dense) _ _ _ _ (more_ends h) high))

  pub high_same : SameParts (parts v) (parts w) → (b : Bool) → b ≡ (is_open e && not (is_open f)) → IsTrue b ↔ High
  high_same h b is = subst (λ t. IsTrue t ↔ High) (sym (flags b is)) (by_flags (More IsLess SameParts pair_dense) (Equal IsLess SameParts pair_dense) (order_turned IsLess SameParts pair_dense) _ _ _ _ (same_ends' h))
    where
      same_ends' : SameParts (parts v) (parts w) → SameParts (value_of (end_at parts e)) (value_of (end_at parts f))
      same_ends' = same_ends
