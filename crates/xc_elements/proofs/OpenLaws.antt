-- The open elements as the reader keeps them, with the innermost last.
use Rattle.std.proofs.Common.{◌≡◌, ℕ, suc, Bool, List, [], ◌∷◌, ◌++◌, length, get_or, take, set, refl, sym, ap, ◌∙◌, append_assoc, arith}
use Rattle.std.specs.Prelude.{◌==◌, map, reverse, encode_utf8_all, String, string_bytes}
use Rattle.std.specs.declared.alloc.Global.{Global}
use Rattle.std.proofs.Math.Seq.{take-suc}
use Rattle.std.proofs.lemmas.List.{take_all, length-take-le, set_at, append-nil}
use Rattle.std.proofs.lemmas.Str.{encodes-append}
use Rattle.xc_elements.specs.Elements.{line_character, section_text}
use Rattle.xc_elements.specs.Steps.Kept.{Kept, kept_of, with_text}
use Rattle.xc_elements.specs.declared.opens.OpenElement.{OpenElement}
use Rattle.xc_elements.proofs.StackLaws.{backward_more}

abbrev pub opens_of : List OpenElement → List Kept
opens_of elements = reverse (map kept_of elements)

-- a list by its last element
last_of : {A : Type 0} (xs : List A) (n : ℕ) (x : A) → suc n ≡ length xs → x ≡ get_or xs n x → xs ≡ take n xs ++ x ∷ []
last_of xs n x e is =
    sym (take_all (suc n) xs (omega arith)) ∙ take-suc xs n x (omega arith) ∙ ap (λ y. take n xs ++ y ∷ []) (sym is)

abbrev with_string : OpenElement → String Global → OpenElement
with_string x t = record { number = x.number; name = x.name; outside = x.outside; text = t }

abbrev more_kept : Kept → List ℕ → Kept
more_kept k t = record { number = k.number; name = k.name; outside = k.outside; text = t }

-- the last element has more text
pub last_with : (xs : List OpenElement) (n : ℕ) (x : OpenElement) (t : String Global) (text : List ℕ) → suc n ≡ length xs → x ≡ get_or xs n x → string_bytes t ≡ string_bytes x.text ++ text → opens_of (set xs n (with_string x t)) ≡ with_text text (opens_of xs)
last_with xs n x t text e is same =
    let split = last_of xs n x e is in
    ap (λ (zs : List OpenElement). opens_of (set zs n (with_string x t))) split
    ∙ ap (λ (zs : List OpenElement). opens_of zs) (set_at (take n xs) x [] (with_string x t) n (length-take-le n xs (omega arith)))
    ∙ backward_more kept_of (take n xs) (with_string x t)
    ∙ ap (λ (bs : List ℕ). more_kept (kept_of x) bs ∷ opens_of (take n xs)) same
    ∙ ap (λ ks. with_text text ks) (sym (ap (λ (zs : List OpenElement). opens_of zs) split ∙ backward_more kept_of (take n xs) x))

-- ---- texts in pieces

pub with_texts : (one other : List ℕ) (ks : List Kept) → with_text other (with_text one ks) ≡ with_text (one ++ other) ks
with_texts one other [] = refl
with_texts one other (k ∷ ks) = ap (λ (t : List ℕ). record { number = k.number; name = k.name; outside = k.outside; text = t } ∷ ks) (append_assoc k.text one other)

pub with_nothing : (ks : List Kept) → with_text [] ks ≡ ks
with_nothing [] = refl
with_nothing (k ∷ ks) = ap (λ (t : List ℕ). record { number = k.number; name = k.name; outside = k.outside; text = t } ∷ ks) (append-nil k.text)

-- the text of a section, of which the characters that are left follow these
pub section_more : (before : Bool) (c : ℕ) (cs : List ℕ) (old now new : List Kept) (all : List ℕ) →
    with_text (encode_utf8_all all) old ≡ with_text (encode_utf8_all (section_text before (c ∷ cs))) now →
    new ≡ with_text (encode_utf8_all (line_character before c)) now →
    with_text (encode_utf8_all all) old ≡ with_text (encode_utf8_all (section_text (c == 13) cs)) new
section_more before c cs old now new all left e =
    left
    ∙ ap (λ (t : List ℕ). with_text t now) (encodes-append (line_character before c) (section_text (c == 13) cs))
    ∙ sym (with_texts (encode_utf8_all (line_character before c)) (encode_utf8_all (section_text (c == 13) cs)) now)
    ∙ ap (λ ks. with_text (encode_utf8_all (section_text (c == 13) cs)) ks) (sym e)
