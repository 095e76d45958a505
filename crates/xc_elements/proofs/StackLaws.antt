-- Vectors that are seen from their last element on.
use Rattle.std.proofs.Common.{◌≡◌, ℕ, ◌-◌, List, [], ◌∷◌, ◌++◌, length, take, drop, sym, ap, ◌∙◌}
use Rattle.std.specs.Prelude.{map, reverse}
use Rattle.std.proofs.lemmas.List.{map-append, reverse-append, length-reverse, length-map, length-drop, take-append-drop, drop_at}

-- one more element is the first
pub backward_more : {A B : Type 0} (view : A → B) (xs : List A) (x : A) → reverse (map view (xs ++ x ∷ [])) ≡ view x ∷ reverse (map view xs)
backward_more view xs x = ap reverse (map-append view xs (x ∷ [])) ∙ reverse-append (map view xs) (view x ∷ [])

pub backward_less : {A B : Type 0} (view : A → B) (xs ys : List A) (x : A) → xs ≡ ys ++ x ∷ [] → reverse (map view xs) ≡ view x ∷ reverse (map view ys)
backward_less view xs ys x e = ap (λ zs. reverse (map view zs)) e ∙ backward_more view ys x

-- the first so many elements are the last so many
pub backward_take : {A B : Type 0} (view : A → B) (xs : List A) (n : ℕ) → reverse (map view (take n xs)) ≡ drop (length (reverse (map view xs)) - n) (reverse (map view xs))
backward_take view xs n =
    let parts : reverse (map view xs) ≡ reverse (map view (drop n xs)) ++ reverse (map view (take n xs)) =
    ap (λ zs. reverse (map view zs)) (sym (take-append-drop n xs)) ∙ ap reverse (map-append view (take n xs) (drop n xs)) ∙ reverse-append (map view (take n xs)) (map view (drop n xs))
    in
    let long : length (reverse (map view xs)) ≡ length xs = length-reverse (map view xs) ∙ length-map xs view in
    let short : length (reverse (map view (drop n xs))) ≡ length xs - n = length-reverse (map view (drop n xs)) ∙ length-map (drop n xs) view ∙ length-drop n xs in
    sym (drop_at (reverse (map view (drop n xs))) (reverse (map view (take n xs))) (length (reverse (map view xs)) - n) (short ∙ ap (λ k. k - n) (sym long)))
    ∙ ap (λ zs. drop (length (reverse (map view xs)) - n) zs) (sym parts)
