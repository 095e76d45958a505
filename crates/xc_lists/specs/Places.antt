-- Numbers of nodes, and what is found or repeated among them.
use Rattle.std.specs.Prelude.{◌==◌, ◌++◌, ℕ, Bool, false, List, [], ◌∷◌, length, Option, Some, None, filter_map, min, if◌then◌else◌}
use Rattle.std.specs.List.{list_any, range_with_len}
use Rattle.std.specs.Option.{option_or, option_map_or}

-- the places of a list, in order
abbrev pub places : {X : Type 0} → List X → List ℕ
places xs = range_with_len 0 (length xs)

-- the places before one
abbrev pub before : ℕ → List ℕ
before at = range_with_len 0 at

-- the place is this one
abbrev pub is_place : ℕ → Option ℕ → Bool
is_place at place = option_map_or (λ p. p == at) place false

-- what is given first
abbrev pub first_given : {K X : Type 0} → (K → Option X) → List K → Option X
first_given given [] = None
first_given given (k ∷ ks) = option_or (given k) (first_given given ks)

-- the place, where the test holds of it
abbrev pub place_where : (ℕ → Bool) → ℕ → Option ℕ
place_where test at = if test at then Some at else None

-- the first of these places of which the test holds
abbrev pub first_place : (ℕ → Bool) → List ℕ → Option ℕ
first_place test ks = first_given (place_where test) ks

-- what is given at this place is the same as one of these, or as what is given at an earlier place
abbrev pub is_repeated : {X : Type 0} → (X → X → Bool) → List X → (ℕ → Option X) → ℕ → Bool
is_repeated same others given at = option_map_or (λ x. list_any (same x) (others ++ filter_map given (before at))) (given at) false

-- the lesser of two places
abbrev pub least : Option ℕ → Option ℕ → Option ℕ
least None other = other
least (Some one) None = Some one
least (Some one) (Some other) = Some (min one other)
