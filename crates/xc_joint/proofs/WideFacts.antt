-- The least wide fact.
use Rattle.std.proofs.Common.{◌≡◌, ◌<◌, ◌≤◌, ◌+◌, ◌⊎◌, ℕ, List, length, map, get_or, slice_index, min, Option, Some, None, inl, inr, sym, ap, subst, ◌∙◌, arith}
use Rattle.std.proofs.lemmas.List.{length-map}
use Rattle.std.specs.Prelude.{IsTrue}
use Rattle.xc_joint.proofs.Placed.{owner}
use Rattle.xc_joint.proofs.EmptyPoints.{before_first, none_in}
use Rattle.xc_joint.specs.Causes.{IsWideOf}
use Rattle.xc_joint.specs.Steps.Wides.{IsLeastIn, IsWideAt, IsWideBefore}
use Rattle.xc_lists.specs.Places.{least}
use Rattle.xc_lists.proofs.Members.{in_places, is_in_at, place_of, places_ascend, places_in}
use Rattle.xc_lists.specs.Members.{IsIn}
use Rattle.xc_system.specs.Spots.{is_wide_fact}
use Rattle.xc_system.specs.Systems.{Constraints, facts_of, point_at}
use Rattle.xc_system.specs.declared.types.Bound.{Bound}
use Rattle.xc_system.specs.declared.types.Component.{Component}

-- the least of two lists
pub least_more : (P Q R : ℕ → Type 0) (a b : Option ℕ) → IsLeastIn P a → IsLeastIn Q b → ((k : ℕ) → R k → P k ⊎ Q k) → ((k : ℕ) → P k → R k) → ((k : ℕ) → Q k → R k) → IsLeastIn R (least a b)
least_more P Q R None None h g split p q = λ j r. elim (split j r) [ inl x ↦ h j x | inr y ↦ g j y ]
least_more P Q R None (Some k) h g split p q = (q k g.0, λ j l r. elim (split j r) [ inl x ↦ h j x | inr y ↦ g.1 j l y ])
least_more P Q R (Some k) None h g split p q = (p k h.0, λ j l r. elim (split j r) [ inl x ↦ h.1 j l x | inr y ↦ g j y ])
least_more P Q R (Some k) (Some m) h g split p q = (go (order k m), λ j l r. elim (split j r) [ inl x ↦ h.1 j (omega (arith, l)) x | inr y ↦ g.1 j (omega (arith, l)) y ])
  where
    order : (a b : ℕ) → (a ≤ b) ⊎ (b ≤ a)
    order a b = grind arith

    go : (k ≤ m) ⊎ (m ≤ k) → R (min k m)
    go (inl l) = let e : k ≡ min k m = omega (arith, l) in subst R e (p k h.0)
    go (inr l) = let e : m ≡ min k m = omega (arith, l) in subst R e (q m g.0)

pub least_same : (P Q : ℕ → Type 0) (o : Option ℕ) → ((k : ℕ) → P k → Q k) → ((k : ℕ) → Q k → P k) → IsLeastIn P o → IsLeastIn Q o
least_same P Q None f g h = λ j q. h j (g j q)
least_same P Q (Some k) f g h = (f k h.0, λ j l q. h.1 j l (g j q))

-- the first wide fact of a point is the least
pub first_wide : (s : Constraints) (p : ℕ) (now : List ℕ) → now ≡ facts_of s.bounds p → (n : ℕ) → n < length now → ((i : ℕ) → i < n → IsTrue (is_wide_fact s.bounds (slice_index (facts_of s.bounds p) i)) → ⊥) → IsTrue (is_wide_fact s.bounds (get_or now n 0)) → IsLeastIn (IsWideAt s p) (Some (get_or now n 0))
first_wide s p now is n l none wide = subst (λ (ks : List ℕ). IsLeastIn (IsWideAt s p) (Some (get_or ks n 0))) (sym is) (
  (is_in_at (facts_of s.bounds p) n within, subst (λ (ks : List ℕ). IsTrue (is_wide_fact s.bounds (get_or ks n 0))) is wide),
  λ j less w. before_first (λ k. IsTrue (is_wide_fact s.bounds k)) (facts_of s.bounds p) (places_ascend (map (λ b. b.point) s.bounds) p) n within none j w.0 less w.1,
)
  where
    within : n < length (facts_of s.bounds p)
    within = subst (λ (ks : List ℕ). n < length ks) is l

-- no fact of the point is wide
pub none_wide : (s : Constraints) (p : ℕ) → ((i : ℕ) → i < length (facts_of s.bounds p) → IsTrue (is_wide_fact s.bounds (slice_index (facts_of s.bounds p) i)) → ⊥) → IsLeastIn (IsWideAt s p) None
none_wide s p none = λ j w. none_in (λ k. IsTrue (is_wide_fact s.bounds k)) (facts_of s.bounds p) none j w.0 w.1

-- one point more
pub wide_more : (s : Constraints) (c : Component) (n p : ℕ) (a b o : Option ℕ) → p ≡ slice_index c.points n → o ≡ least a b → IsLeastIn (IsWideBefore s c n) a → IsLeastIn (IsWideAt s p) b → IsLeastIn (IsWideBefore s c (n + 1)) o
wide_more s c n p a b o is e h g = subst (λ (m : Option ℕ). IsLeastIn (IsWideBefore s c (n + 1)) m) (sym e)
    (least_more (IsWideBefore s c n) (IsWideAt s p) (IsWideBefore s c (n + 1)) a b h g (λ k r. split k r (order r.0 n))
    (λ k r. let l = r.1 in (r.0, omega arith, r.2)) (λ k w. (n, omega arith, subst (λ (q : ℕ). IsWideAt s q k) is w)))
  where
    order : (i n : ℕ) → (i < n) ⊎ (n ≤ i)
    order i n = grind arith

    split : (k : ℕ) → (r : IsWideBefore s c (n + 1) k) → (r.0 < n) ⊎ (n ≤ r.0) → IsWideBefore s c n k ⊎ IsWideAt s p k
    split k r (inl l) = inl (r.0, l, r.2)
    split k r (inr l) = let m = r.1 in let same : r.0 ≡ n = omega arith in inr (subst (λ (q : ℕ). IsWideAt s q k) (ap (λ (i : ℕ). slice_index c.points i) same ∙ sym is) r.2)

-- that of all points of the component
pub wide_of_all : (s : Constraints) (c : Component) (n : ℕ) (o : Option ℕ) → length c.points ≤ n → n ≤ length c.points → IsLeastIn (IsWideBefore s c n) o → IsLeastIn (IsWideOf s c) o
wide_of_all s c n o low high = least_same (IsWideBefore s c n) (IsWideOf s c) o of before
  where
    of : (k : ℕ) → IsWideBefore s c n k → IsWideOf s c k
    of k (i, l, w) =
        let at = in_places (map (λ b. b.point) s.bounds) (slice_index c.points i) k w.0 in
        let there : k < length s.bounds = omega (arith, at.0, length-map s.bounds (λ (b : Bound). b.point)) in
        record { there = there; own = subst (λ (p : ℕ). IsIn p c.points) (sym at.1 ∙ owner s.bounds k there) (is_in_at c.points i (omega (arith, l, high))); wide = w.1 }

    before : (k : ℕ) → IsWideOf s c k → IsWideBefore s c n k
    before k w =
        let place = place_of (point_at s.bounds k) c.points w.own in
        (place.0, omega (arith, place.1, low), (places_in (map (λ b. b.point) s.bounds) (slice_index c.points place.0) k (omega (arith, w.there, length-map s.bounds (λ (b : Bound). b.point))) (owner s.bounds k w.there ∙ sym place.2), w.wide))
