-- What is in a list, and where.
use Rattle.std.specs.Prelude.{◌≡◌, ◌≢◌, ◌⊎◌, ◌==◌, ℕ, List, [], ◌∷◌, filter, slice_index}
use Rattle.std.specs.List.{AllByRecursion}
use Rattle.xc_lists.specs.Places.{places}

-- x is one of the list
abbrev pub IsIn : {X : Type 0} → X → List X → Type 0
IsIn x [] = ⊥
IsIn x (y ∷ ys) = (x ≡ y) ⊎ IsIn x ys

-- no two of the list are the same
abbrev pub IsOnce : {X : Type 0} → List X → Type 0
IsOnce [] = Unit {0}
IsOnce (x ∷ xs) = (¬ IsIn x xs) × IsOnce xs

-- the places of a list at which a number stands, ascending
abbrev pub places_with : List ℕ → ℕ → List ℕ
places_with numbers k = filter (λ i. slice_index numbers i == k) (places numbers)

-- the byte does not stand in the text
abbrev pub Lacks : ℕ → List ℕ → Type 0
Lacks byte text = AllByRecursion (λ b. b ≢ byte) text
