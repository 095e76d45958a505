-- When a binding is narrow: its numbers, over one denominator, leave room for its sums (the widths are this project's own).
use Rattle.std.specs.Prelude.{ℕ, ◌+◌, ◌-◌, ◌*◌, ◌^◌, ◌≤◌, unsigned_abs, List, [], ◌∷◌, map}
use Prim.Native.Nat.{◌∣◌}
use Rattle.xc_bind.specs.Equation.{most_places}
use Rattle.xc_bind.specs.declared.types.Binding.{Binding}
use Rattle.xc_bind.specs.declared.types.Term.{Term}
use Rattle.xc_decimal.specs.Shortest.{Shortest}
use Rattle.xc_interval.specs.Scales.{AreOnScale, greatest}
use Rattle.xc_points.specs.declared.types.Point.{Point}
use Rattle.xc_verdict.specs.Ranges.{named_points, range_at, EachHas}

-- d is a common multiple of the denominators of all ends of the points that the binding names
abbrev pub IsCommonScale : List Point → Binding → ℕ → Type 0
IsCommonScale points binding d = EachHas (λ k. AreOnScale d (range_at points k)) (named_points binding)

-- the least of them
pub record IsLeastScale (points : List Point) (binding : Binding) (d : ℕ) : Type 0 where
  pub common : IsCommonScale points binding d
  pub least : (m : ℕ) → IsCommonScale points binding m → d ∣ m

-- the magnitude of a weight, times 10 ^ places
abbrev pub weight_size : ℕ → Shortest → ℕ
weight_size places weight = unsigned_abs weight.digits * 10 ^ (places - weight.places)

-- the points of terms, each with the magnitude of the term's weight times 10 ^ places
abbrev pub weighted_terms : ℕ → List Term → List (ℕ × ℕ)
weighted_terms places terms = map (λ term. (weight_size places term.weight, term.point)) terms

-- the weighted points of a binding: its total with the weight 1, and its terms with theirs, all times 10 ^ places
abbrev pub weighted_points : ℕ → Binding → List (ℕ × ℕ)
weighted_points places binding = (10 ^ places, binding.total) ∷ weighted_terms places binding.terms

-- the sum over weighted points of the weight times the greater magnitude of the ends of the point's range, times d
abbrev pub weighted_size : List Point → ℕ → List (ℕ × ℕ) → ℕ
weighted_size points d [] = 0
weighted_size points d (weighted ∷ rest) = weighted.0 * greatest d (range_at points weighted.1) + weighted_size points d rest

-- what terms add to that sum
abbrev pub terms_size : List Point → (places d : ℕ) → List Term → ℕ
terms_size points places d terms = weighted_size points d (weighted_terms places terms)

-- the width over the denominator d: d * 10^Q, and that sum over the weighted points, where Q is the greatest number of places of a weight
abbrev pub width : List Point → Binding → ℕ → ℕ
width points binding d = d * 10 ^ most_places binding.terms + weighted_size points d (weighted_points (most_places binding.terms) binding)

-- the binding is narrow: over the least common denominator of all ends its width is at most 2^126
pub record IsNarrowBinding (points : List Point) (binding : Binding) : Type 0 where
  pub scale : ℕ
  pub least : IsLeastScale points binding scale
  pub fits : width points binding scale ≤ 2 ^ 126
