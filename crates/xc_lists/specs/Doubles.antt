-- Lists in which two are equal.
use Rattle.std.specs.Prelude.{ℕ, ◌&&◌, ◌||◌, Bool, false, List, [], ◌∷◌}
use Rattle.std.specs.List.{list_any}
use Rattle.std.specs.Ordering.{is_eq}
use Rattle.std.specs.Str.{bytes_eq}
use Rattle.std.specs.declared.cmp.Ordering.{Ordering}
use Rattle.xc_lists.specs.declared.doubles.TextPair.{TextPair}

-- two of the list are the same by this test
abbrev pub has_same : {A : Type 0} → (A → A → Bool) → List A → Bool
has_same same [] = false
has_same same (x ∷ xs) = list_any (same x) xs || has_same same xs

-- two of the list are equal in this order
abbrev pub has_equal : {K : Type 0} → (K → K → Ordering) → List K → Bool
has_equal cmp keys = has_same (λ x y. is_eq (cmp x y)) keys

-- the texts of a pair
abbrev pub lent_texts : TextPair → List ℕ × List ℕ
lent_texts pair = (pair.first.now, pair.second.now)

-- both texts are the same
abbrev pub are_same_texts : List ℕ × List ℕ → List ℕ × List ℕ → Bool
are_same_texts a b = bytes_eq a.0 b.0 && bytes_eq a.1 b.1
