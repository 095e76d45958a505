-- Where no range is wide and none empty, each has a number.
use Rattle.std.proofs.Common.{◌≡◌, ℕ, ◌<◌, List, [], ◌∷◌, map, length, inl, inr, refl, sym, ◌∙◌, true, false, Bool}
use Rattle.std.specs.Prelude.{◌↔◌, IsTrue, All}
use Rattle.std.proofs.lemmas.List.Elements.{All-head, All-tail}
use Rattle.xc_bind.specs.declared.types.Term.{Term}
use Rattle.xc_interval.specs.declared.range.Range.{Range}
use Rattle.xc_interval.specs.declared.range.Range.TheVariants as range
use Rattle.xc_points.specs.declared.types.Point.{Point}
use Rattle.xc_bind.specs.Placed.{IsInside}
use Rattle.xc_verdict.specs.Ranges.{point_of, range_at}
use Rattle.xc_verdict.specs.Steps.Sums.{IsWideRange, IsEmptyRange, IsMetRange, IsKeptRange, AllAreMet, SomeIsWide, SomeIsEmpty}

pub met_range : (r : Range) → IsKeptRange r → ¬ IsWideRange r → ¬ IsEmptyRange r → IsMetRange r
met_range range.Wide kept wide empty = wide refl
met_range range.Empty kept wide empty = empty refl
met_range (range.Meets i) kept wide empty = kept

pub met_terms : (points : List Point) (terms : List Term) → ((k : ℕ) → k < length points → IsKeptRange (range_at points k)) → All (IsInside points) terms
    → ¬ SomeIsWide points (map point_of terms) → ¬ SomeIsEmpty points (map point_of terms) → AllAreMet points (map point_of terms)
met_terms points [] kept inside wide empty = tt
met_terms points (term ∷ terms) kept inside wide empty = (
  met_range (range_at points term.point) (kept term.point (All-head (IsInside points) term terms inside)) (λ w. wide (inl w)) (λ e. empty (inl e)),
  met_terms points terms kept (All-tail (IsInside points) term terms inside) (λ w. wide (inr w)) (λ e. empty (inr e)),
)

-- what is not answered does not hold
pub not_so : (P : Type 0) (b : Bool) → IsTrue b ↔ P → b ≡ false → ¬ P
not_so P b tells no_ p = let yes : b ≡ true = tells.1 p in absurd (cc)

-- what is answered by a test
pub not_true : (b c : Bool) → b ≡ c → b ≡ false → ¬ IsTrue c
not_true b c is no_ told = let e : false ≡ true = sym no_ ∙ is ∙ told in absurd (cc)
