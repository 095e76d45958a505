-- What some documents give, one document after another.
use Rattle.std.proofs.Common.{◌≡◌, ◌∙◌, List, [], ◌∷◌, ◌++◌, Option, Some, None, filter_map, option_to_list, refl, sym, ap, append_assoc, append-nil}
use Rattle.std.proofs.lemmas.List.Elements.{filter_map-append}
use Rattle.std.specs.List.{cons_option}

-- what there is, in front of nothing
listed : {X : Type 0} (part : Option X) → cons_option part [] ≡ option_to_list part
listed None = refl
listed (Some x) = refl

-- one more document is put last
pub put_last : {X Y : Type 0} (f : X → Option Y) (xs : List X) (x : X) → filter_map f (xs ++ x ∷ []) ≡ filter_map f xs ++ option_to_list (f x)
put_last f xs x = filter_map-append f xs (x ∷ []) ∙ ap (λ ys. filter_map f xs ++ ys) (listed (f x))

-- what is kept so far is all with what is left: so it is with what the next document gives
pub kept_more : {X : Type 0} (all left after : List X) (part : Option X) (so_far now : List X)
    → left ≡ cons_option part after → now ≡ so_far ++ option_to_list part → so_far ++ left ≡ all → now ++ after ≡ all
kept_more all left after None so_far now e is h = ap (λ xs. xs ++ after) (is ∙ append-nil so_far) ∙ ap (λ xs. so_far ++ xs) (sym e) ∙ h
kept_more all left after (Some x) so_far now e is h = ap (λ xs. xs ++ after) is ∙ append_assoc so_far (x ∷ []) after ∙ ap (λ xs. so_far ++ xs) (sym e) ∙ h

-- nothing is left
pub kept_all : {X : Type 0} (all left so_far : List X) → left ≡ [] → so_far ++ left ≡ all → so_far ≡ all
kept_all all left so_far e h = sym (append-nil so_far) ∙ ap (λ xs. so_far ++ xs) (sym e) ∙ h
