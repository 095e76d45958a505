-- The facts of a point.
use Rattle.std.proofs.Common.{◌≡◌, ◌≢◌, ◌==◌, ◌||◌, ◌+◌, ℕ, zero, suc, ◌<◌, Bool, true, false, List, [], ◌∷◌, length, get_or, map, inl, inr, refl, sym, ap, subst, ◌∙◌, arith}
use Rattle.std.proofs.lemmas.Bool.{eqb-true}
use Rattle.std.proofs.lemmas.List.{length-map}
use Rattle.std.proofs.lemmas.List.FromFn.{length-map-range_with_len, get_or-map-range_with_len}
use Rattle.std.specs.Prelude.{All}
use Rattle.std.specs.List.{list_any}
use Rattle.xc_lists.proofs.Members.{in_places, places_in}
use Rattle.xc_lists.specs.Members.{IsIn}
use Rattle.xc_system.specs.Steps.Indexed.{IsIndexOf}
use Rattle.xc_system.specs.Systems.{HasBound, facts_of}
use Rattle.xc_system.specs.declared.types.Bound.{Bound}

-- what stands in the index for a point
pub index_length : (facts : List (List ℕ)) (n : ℕ) (bounds : List Bound) → IsIndexOf facts n bounds → length facts ≡ n
index_length facts n bounds is = ap length is ∙ length-map-range_with_len (facts_of bounds) 0 n

pub index_at : (facts : List (List ℕ)) (n p : ℕ) (bounds : List Bound) (d : List ℕ) → IsIndexOf facts n bounds → p < n → get_or facts p d ≡ facts_of bounds p
index_at facts n p bounds d is h = ap (λ l. get_or l p d) is ∙ get_or-map-range_with_len (facts_of bounds) 0 n p p d h (zero_plus p)
  where
    zero_plus : (p : ℕ) → 0 + p ≡ p
    zero_plus p = omega arith

-- they are facts
pub facts_known : (bounds : List Bound) (p : ℕ) → All (λ k. k < length bounds) (facts_of bounds p)
facts_known bounds p j d h = subst (λ (n : ℕ). get_or (facts_of bounds p) j d < n) (length-map bounds (λ b. b.point)) (in_places (map (λ b. b.point) bounds) p _ (member (facts_of bounds p) j d h)).0
  where
    member : (xs : List ℕ) (j d : ℕ) → j < length xs → IsIn (get_or xs j d) xs
    member [] j d h = absurd (omega arith)
    member (x ∷ xs) zero d h = inl refl
    member (x ∷ xs) (suc j) d h = inr (member xs j d (omega arith))

-- and there is one
has_place : (bounds : List Bound) (p : ℕ) → list_any (λ b. b.point == p) bounds ≡ true → (i : ℕ) × (i < length bounds) × (get_or (map (λ b. b.point) bounds) i 0 ≡ p)
has_place [] p h = absurd (by h)
  where
    by : false ≡ true → ⊥
    by e = cc
has_place (b ∷ bs) p h = go (b.point == p) refl h (has_place bs p)
  where
    go : (t : Bool) → (b.point == p) ≡ t → (t || list_any (λ b. b.point == p) bs) ≡ true → (list_any (λ b. b.point == p) bs ≡ true → (i : ℕ) × (i < length bs) × (get_or (map (λ b. b.point) bs) i 0 ≡ p)) → (i : ℕ) × (i < length (b ∷ bs)) × (get_or (map (λ b. b.point) (b ∷ bs)) i 0 ≡ p)
    go true e k r = (0, omega arith, eqb-true b.point p e)
    go false e k r = let s = r k in let l = s.1 in (suc s.0, omega arith, s.2)

pub facts_some : (bounds : List Bound) (p : ℕ) → HasBound bounds p → facts_of bounds p ≢ []
facts_some bounds p h none = go (has_place bounds p h)
  where
    go : ((i : ℕ) × (i < length bounds) × (get_or (map (λ b. b.point) bounds) i 0 ≡ p)) → ⊥
    go (i, l, e) = subst (IsIn i) none (places_in (map (λ b. b.point) bounds) p i (subst (λ (n : ℕ). i < n) (sym (length-map bounds (λ b. b.point))) l) e)
