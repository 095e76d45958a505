-- Two intervals have a value in common where each low end reaches each high end.
use Rattle.std.proofs.Common.{◌≡◌, Bool, true, false, inl, inr, ◌⊎◌}
use Rattle.std.proofs.lemmas.Bool.{cases_Bool}
use Rattle.xc_model.proofs.Orders.{IsOrder}
use Rattle.xc_interval.specs.Ends.{value_of, is_open}
use Rattle.xc_interval.specs.Intervals.{LiesIn}
use Rattle.xc_interval.specs.Laws.{EndsTell}
use Rattle.xc_interval.specs.declared.interval.Interval.{Interval}
use Rattle.xc_interval.proofs.Sides.{Past, Before, Reach, Opens, past_of, past_from, before_of, before_from, opens_of, not_crosses, opens_from}

-- any two compare, and between two that differ there is another
pub record IsDense {A : Type 0} (Less Same : A → A → Type 0) : Type 0 where
  pub order : IsOrder Less Same
  pub compare : (x y : A) → Less x y ⊎ (Same x y ⊎ Less y x)
  pub between : (x y : A) → Less x y → (m : A) × (Less x m × Less m y)

-- the order turned round
pub turned : {A : Type 0} (Less Same : A → A → Type 0) → IsOrder Less Same → IsOrder (λ x y. Less y x) (λ x y. Same y x)
turned Less Same order = record {
  same = record {
    reflexive = order.same.reflexive;
    symmetric = λ x y h. order.same.symmetric y x h;
    transitive = λ x y z h i. order.same.transitive z y x i h;
  };
  irreflexive = order.irreflexive;
  transitive = λ x y z h i. order.transitive z y x i h;
  alike = λ x y x' y' left right h. order.alike y x y' x' (order.same.symmetric y' y right) (order.same.symmetric x' x left) h;
}

module _ {A : Type 0} (Less Same : A → A → Type 0) (order : IsOrder Less Same) where
  -- the low end at c is as tight as the one at a
  abbrev pub Covers : A → Bool → A → Bool → Type 0
  Covers a p c r = Less a c ⊎ (Same a c × (r ≡ false → p ≡ false))

  pub past_covered : (a c x : A) (p r : Bool) → Covers a p c r → Past Less Same c r x → Past Less Same a p x
  past_covered a c x p r (inl less) (inl past) = inl (order.transitive a c x less past)
  past_covered a c x p r (inl less) (inr at) = inl (order.alike a c a x (order.same.reflexive a) at.0 less)
  past_covered a c x p r (inr same) (inl past) = inl (order.alike c x a x (order.same.symmetric a c same.0) (order.same.reflexive x) past)
  past_covered a c x p r (inr same) (inr at) = inr (order.same.transitive a c x same.0 at.0, same.1 at.1)

  -- the tighter of two low ends
  pub record Tighter (a : A) (p : Bool) (c : A) (r : Bool) : Type 0 where
    at : A
    opens : Bool
    left : Covers a p at opens
    right : Covers c r at opens
    reach : (b : A) (q : Bool) → Reach Less Same a p b q → Reach Less Same c r b q → Reach Less Same at opens b q

  pub tighter : (compare : (x y : A) → Less x y ⊎ (Same x y ⊎ Less y x)) (a : A) (p : Bool) (c : A) (r : Bool) → Tighter a p c r
  tighter compare a p c r = elim (compare a c) [
    | inl less ↦ record { at = c; opens = r; left = inl less; right = inr (order.same.reflexive c, λ e. e); reach = λ b q h i. i }
    | inr rest ↦ elim rest [
      | inl same ↦ elim (cases_Bool p) [
        | inl open_ ↦ record { at = a; opens = p; left = inr (order.same.reflexive a, λ e. e); right = inr (order.same.symmetric a c same, λ e. absurd (both p open_ e)); reach = λ b q h i. h }
        | inr closed ↦ record { at = c; opens = r; left = inr (same, λ e. closed); right = inr (order.same.reflexive c, λ e. e); reach = λ b q h i. i }
      ]
      | inr above ↦ record { at = a; opens = p; left = inr (order.same.reflexive a, λ e. e); right = inl above; reach = λ b q h i. h }
    ]
  ]
    where
      both : (p : Bool) → p ≡ true → p ≡ false → ⊥
      both p e f = cc

module _ {A : Type 0} (Less Same : A → A → Type 0) (dense : IsDense Less Same) where
  -- a value between ends that reach each other
  pub record Within (a : A) (p : Bool) (b : A) (q : Bool) : Type 0 where
    pub at : A
    pub past : Past Less Same a p at
    pub before : Before Less Same b q at

  pub within : (a : A) (p : Bool) (b : A) (q : Bool) → Reach Less Same a p b q → Within a p b q
  within a p b q (inl less) = let m = dense.between a b less in record { at = m.0; past = inl m.1.0; before = inl m.1.1 }
  within a p b q (inr same) = record { at = a; past = inr (dense.order.same.reflexive a, same.1.0); before = inr (same.0, same.1.1) }

  turn_reach : (a b : A) (p q : Bool) → Reach Less Same a p b q → Reach (λ x y. Less y x) (λ x y. Same y x) b q a p
  turn_reach a b p q (inl less) = inl less
  turn_reach a b p q (inr same) = inr (same.0, (same.1.1, same.1.0))

  turn_back : (a b : A) (p q : Bool) → Reach (λ x y. Less y x) (λ x y. Same y x) b q a p → Reach Less Same a p b q
  turn_back a b p q (inl less) = inl less
  turn_back a b p q (inr same) = inr (same.0, (same.1.1, same.1.0))

  compare_turned : (x y : A) → Less y x ⊎ (Same y x ⊎ Less x y)
  compare_turned x y = dense.compare y x

  -- a value between both pairs of ends
  pub record Common (a : A) (p : Bool) (b : A) (q : Bool) (c : A) (r : Bool) (d : A) (s : Bool) : Type 0 where
    pub at : A
    pub past : Past Less Same a p at
    pub before : Before Less Same b q at
    pub other_past : Past Less Same c r at
    pub other_before : Before Less Same d s at

  pub common : (a : A) (p : Bool) (b : A) (q : Bool) (c : A) (r : Bool) (d : A) (s : Bool)
      → Reach Less Same a p b q → Reach Less Same c r d s → Reach Less Same a p d s → Reach Less Same c r b q → Common a p b q c r d s
  common a p b q c r d s ab cd ad cb =
      let low = tighter Less Same dense.order dense.compare a p c r in
      let high = tighter (λ x y. Less y x) (λ x y. Same y x) (turned Less Same dense.order) compare_turned b q d s in
      let to_b = low.reach b q ab cb in
      let to_d = low.reach d s ad cd in
      let reach = high.reach low.at low.opens (turn_reach low.at b low.opens q to_b) (turn_reach low.at d low.opens s to_d) in
      let x = within low.at low.opens high.at high.opens (turn_back low.at high.at low.opens high.opens reach) in
      record {
        at = x.at;
        past = past_covered Less Same dense.order a low.at x.at p low.opens low.left x.past;
        other_past = past_covered Less Same dense.order c low.at x.at r low.opens low.right x.past;
        before = past_covered (λ x y. Less y x) (λ x y. Same y x) (turned Less Same dense.order) b high.at x.at q high.opens high.left x.before;
        other_before = past_covered (λ x y. Less y x) (λ x y. Same y x) (turned Less Same dense.order) d high.at x.at s high.opens high.right x.before;
      }

  -- something lies in an interval exactly where its ends do not cross
  pub lies_past : (i : Interval A) (x : A) → LiesIn Less Same i x → Past Less Same (value_of i.low) (is_open i.low) x
  lies_past i x h = past_of Less Same i.low x h.low

  pub lies_before : (i : Interval A) (x : A) → LiesIn Less Same i x → Before Less Same (value_of i.high) (is_open i.high) x
  lies_before i x h = before_of Less Same i.high x h.high

  pub opens_where : (i : Interval A) (x : A) → LiesIn Less Same i x → Opens Less Same i
  opens_where i x h = opens_from Less Same dense.order dense.compare _ _ x _ _ (lies_past i x h) (lies_before i x h)

  pub ends_tell : EndsTell Less Same
  ends_tell i = (
    λ crosses x h. not_crosses Less Same dense.order dense.compare i (opens_where i x h) crosses,
    λ not.
        let x = within (value_of i.low) (is_open i.low) (value_of i.high) (is_open i.high) (opens_of Less Same dense.order dense.compare i not) in
        (x.at, record { low = past_from Less Same i.low x.at x.past; high = before_from Less Same i.high x.at x.before }),
  )
