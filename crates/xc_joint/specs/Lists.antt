-- Lists that belong together place by place.
use Rattle.std.specs.Prelude.{◌≡◌, ℕ, List, [], ◌∷◌, Some, slice_get}
use Rattle.xc_model.specs.Ratio.{Ratio}

-- the two lists are equally long, and what stands at one place of them is related
abbrev pub AreEach : {A B : Type 0} → (A → B → Type 0) → List A → List B → Type 0
AreEach R [] [] = Unit {0}
AreEach R [] (y ∷ ys) = ⊥
AreEach R (x ∷ xs) [] = ⊥
AreEach R (x ∷ xs) (y ∷ ys) = R x y × AreEach R xs ys

-- these values of these points, in order, stand among those of all points
abbrev pub AreAmong : List ℕ → List Ratio → List Ratio → Type 0
AreAmong points values all = (i p : ℕ) (x : Ratio) → slice_get points i ≡ Some p → slice_get values i ≡ Some x → slice_get all p ≡ Some x
