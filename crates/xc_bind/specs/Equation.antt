-- The equation of a binding (Calculations 1.1: the total is the sum of its contributors, each times its weight), over whole numbers.
use Rattle.std.specs.Prelude.{◌≡◌, ℕ, ℤ, pos, ◌+ℤ◌, ◌*ℤ◌, ◌-◌, ◌^◌, max, List, [], ◌∷◌}
use Rattle.xc_bind.specs.declared.types.Binding.{Binding}
use Rattle.xc_bind.specs.declared.types.Term.{Term}
use Rattle.xc_decimal.specs.Shortest.{Shortest}

-- the greatest number of places of a weight
abbrev pub most_places : List Term → ℕ
most_places [] = 0
most_places (term ∷ terms) = max term.weight.places (most_places terms)

-- a weight times 10 ^ places, which is a whole number where the weight has no more places
abbrev pub whole_weight : ℕ → Shortest → ℤ
whole_weight places weight = weight.digits *ℤ pos (10 ^ (places - weight.places))

-- the sum of the terms' numbers, each times its weight times 10 ^ places
abbrev pub weighted_sum : ℕ → List Term → List ℤ → ℤ
weighted_sum places [] ps = pos 0
weighted_sum places (term ∷ terms) [] = pos 0
weighted_sum places (term ∷ terms) (p ∷ ps) = whole_weight places term.weight *ℤ p +ℤ weighted_sum places terms ps

-- the total is the sum of the terms' numbers, each times its weight: of numbers that are whole over one positive number, one for the
-- total and one for each term
abbrev pub AddsUp : Binding → ℤ → List ℤ → Type 0
AddsUp binding total values = pos (10 ^ most_places binding.terms) *ℤ total ≡ weighted_sum (most_places binding.terms) binding.terms values
