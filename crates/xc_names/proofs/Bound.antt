-- What a prefix stands for in a list of bindings, and after one is set.
use Rattle.std.proofs.Common.{◌≡◌, ℕ, List, [], ◌∷◌, map, Option, Some, Bool, true, false, cond, refl, sym, ap, ◌∙◌, String, string_bytes, option_map}
use Rattle.std.proofs.lemmas.Cmp.{nat_list_cmp_total, nat_list_eq_equiv}
use Rattle.std.proofs.lemmas.Map.Text.{hash_map_updates_text, is_eq-slice_cmp}
use Rattle.std.specs.Cmp.Lexicographic.{slice_cmp}
use Rattle.std.specs.FinMap.{find, get, insert, get-from_entries, get-insert, same_map, nat_cmp-IsAntisymmetric, slice_cmp-IsAntisymmetric}
use Rattle.std.specs.HashMap.{HashMap, UpdatesBy, get_by_text}
use Rattle.std.specs.Map.{lookup}
use Rattle.std.specs.Ordering.{nat_cmp, is_eq}
use Rattle.std.specs.Str.{bytes_eq}
use Rattle.std.specs.String.{string_eq}
use Rattle.xc_names.specs.Prefixes.{bindings_of}

chosen : {X Z : Type 0} (f : X → Z) (b : Bool) (x : X) (o : Option X) → cond b (Some (f x)) (option_map f o) ≡ option_map f (cond b (Some x) o)
chosen f true x o = refl
chosen f false x o = refl

find_text : {Y Z : Type 0} (entries : List (String Y × String Z)) (prefix : List ℕ)
    → find (slice_cmp nat_cmp) prefix (map (λ entry. (string_bytes entry.0, string_bytes entry.1)) entries) ≡ option_map string_bytes (lookup (λ k. bytes_eq prefix (string_bytes k)) entries)
find_text [] prefix = refl
find_text (e ∷ es) prefix =
    ap (λ b. cond b (Some (string_bytes e.1)) (find (slice_cmp nat_cmp) prefix (map (λ entry. (string_bytes entry.0, string_bytes entry.1)) es))) (is_eq-slice_cmp prefix (string_bytes e.0))
    ∙ ap (cond (bytes_eq prefix (string_bytes e.0)) (Some (string_bytes e.1))) (find_text es prefix)
    ∙ chosen string_bytes (bytes_eq prefix (string_bytes e.0)) e.1 (lookup (λ k. bytes_eq prefix (string_bytes k)) es)

-- what a prefix stands for
pub get_bound : {Y Z : Type 0} (entries : List (String Y × String Z)) (prefix : List ℕ)
    → get (bindings_of entries) prefix ≡ option_map string_bytes (lookup (λ k. bytes_eq prefix (string_bytes k)) entries)
get_bound entries prefix = get-from_entries nat_list_cmp_total (map (λ entry. (string_bytes entry.0, string_bytes entry.1)) entries) prefix ∙ find_text entries prefix

-- the bindings after one is set
pub set_bound : {Y Z S : Type 0} (m n : HashMap (String Y) (String Z) S) (prefix uri : List ℕ) (value : String Z) → string_bytes value ≡ uri
    → UpdatesBy string_eq (λ k. bytes_eq prefix (string_bytes k)) m n (Some value) → bindings_of n.entries ≡ insert (bindings_of m.entries) prefix uri
set_bound m n prefix uri value is updates = same_map nat_list_cmp_total (slice_cmp-IsAntisymmetric nat_cmp-IsAntisymmetric) _ _ (λ q.
    get_bound n.entries q
    ∙ ap (option_map string_bytes) (hash_map_updates_text prefix m n (Some value) updates q)
    ∙ sym (chosen string_bytes (bytes_eq prefix q) value (get_by_text m q))
    ∙ ap (λ u. cond (bytes_eq prefix q) (Some u) (option_map string_bytes (get_by_text m q))) is
    ∙ ap (λ b. cond b (Some uri) (option_map string_bytes (get_by_text m q))) (nat_list_eq_equiv.symm prefix q ∙ sym (is_eq-slice_cmp q prefix))
    ∙ ap (cond (is_eq (slice_cmp nat_cmp q prefix)) (Some uri)) (sym (get_bound m.entries q))
    ∙ sym (get-insert nat_list_cmp_total (bindings_of m.entries) prefix uri q))
