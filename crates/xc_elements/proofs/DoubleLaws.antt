-- Attributes of which two have one expanded name.
use Rattle.std.proofs.Common.{◌≡◌, ℕ, Bool, true, false, ◌&&◌, ◌||◌, List, [], ◌∷◌, refl, sym, ap, ◌∙◌}
use Rattle.std.specs.Prelude.{map, is_some, option_map, find}
use Rattle.std.specs.List.{list_any}
use Rattle.std.specs.Str.{bytes_eq}
use Rattle.std.proofs.lemmas.Slice.Eq.{bytes_eq-Decides}
use Rattle.std.proofs.lemmas.Bool.Decides.{Decides-like, same_from_decides}
use Rattle.xc_elements.specs.Steps.Doubles.{name_parts}
use Rattle.xc_elements.specs.Namespaces.{has_double}
use Rattle.xc_elements.specs.Trees.{is_named}
use Rattle.xc_elements.specs.declared.nodes.Attribute.{Attribute}
use Rattle.xc_lists.specs.Doubles.{has_same, are_same_texts}
use Rattle.xc_lists.proofs.ListsOfImages.{any_changed}

bytes_eq-symm : (a b : List ℕ) → bytes_eq a b ≡ bytes_eq b a
bytes_eq-symm a b = same_from_decides (bytes_eq a b) (bytes_eq b a) (bytes_eq-Decides a b) (Decides-like (bytes_eq b a) (λ e. sym e) (λ e. sym e) (bytes_eq-Decides b a))

found_first : (t : Attribute → Bool) (x : Attribute) (xs : List Attribute) (b : Bool) → t x ≡ b → is_some (option_map (λ a. a.value) (find t xs)) ≡ list_any t xs → is_some (option_map (λ a. a.value) (find t (x ∷ xs))) ≡ list_any t (x ∷ xs)
found_first t x xs true e h = rw e refl
found_first t x xs false e h = rw e h

found_some : (t : Attribute → Bool) (xs : List Attribute) → is_some (option_map (λ a. a.value) (find t xs)) ≡ list_any t xs
found_some t [] = refl
found_some t (x ∷ xs) = found_first t x xs (t x) refl (found_some t xs)

named_parts : (a b : Attribute) → is_named a.space a.local b ≡ are_same_texts (name_parts a) (name_parts b)
named_parts a b = ap (λ t. t && bytes_eq b.local a.local) (bytes_eq-symm b.space a.space) ∙ ap (λ t. bytes_eq a.space b.space && t) (bytes_eq-symm b.local a.local)

-- attributes have a double where two of their names are equal
pub double_parts : (attributes : List Attribute) → has_double attributes ≡ has_same are_same_texts (map name_parts attributes)
double_parts [] = refl
double_parts (a ∷ others) =
    ap (λ t. t || has_double others) (found_some (is_named a.space a.local) others ∙ sym (any_changed name_parts (are_same_texts (name_parts a)) (is_named a.space a.local) (λ b. sym (named_parts a b)) others))
    ∙ ap (λ t. list_any (are_same_texts (name_parts a)) (map name_parts others) || t) (double_parts others)
