-- The point of a fact.
use Rattle.std.proofs.Common.{◌≡◌, ◌<◌, ◌≤◌, ◌⊎◌, ℕ, List, length, map, get_or, Option, Some, None, inl, inr, sym, ap, ◌∙◌, arith}
use Rattle.std.proofs.lemmas.List.{get_or-map, length-map}
use Rattle.std.proofs.lemmas.Option.{slice_get_cases}
use Rattle.std.specs.Option.{option_map_or}
use Rattle.std.specs.Prelude.{slice_get}
use Rattle.xc_lists.proofs.Members.{in_places}
use Rattle.xc_lists.specs.Members.{IsIn}
use Rattle.xc_system.specs.Systems.{Constraints, facts_of, point_at}
use Rattle.xc_system.specs.declared.types.Bound.{Bound}

-- the point that the list of points gives a fact
pub owner : (bounds : List Bound) (k : ℕ) → k < length bounds → get_or (map (λ b. b.point) bounds) k 0 ≡ point_at bounds k
owner bounds k l = go (slice_get_cases bounds k).1
  where
    go : ((b : Bound) × (k < length bounds) × (slice_get bounds k ≡ Some b) × (get_or bounds k b ≡ b)) ⊎ ((length bounds ≤ k) × (slice_get bounds k ≡ None)) → get_or (map (λ b. b.point) bounds) k 0 ≡ point_at bounds k
    go (inl (b, m, there, at)) = get_or-map (λ (x : Bound). x.point) bounds k b 0 l ∙ ap (λ (x : Bound). x.point) at ∙ ap (λ (o : Option Bound). option_map_or (λ x. x.point) o 0) (sym there)
    go (inr (past, none)) = absurd (omega (arith, past, l))

-- a fact of a point is of this point
pub placed_in : (s : Constraints) (p k : ℕ) → IsIn k (facts_of s.bounds p) → point_at s.bounds k ≡ p
placed_in s p k h =
    let at = in_places (map (λ b. b.point) s.bounds) p k h in
    sym (owner s.bounds k (omega (arith, at.0, length-map s.bounds (λ (b : Bound). b.point)))) ∙ at.1
