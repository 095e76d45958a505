-- The characters of a text that is lent, and of its parts.
use Rattle.std.proofs.Common.{◌≡◌, ℕ, ◌-◌, List, [], ◌∷◌, ◌++◌, length, take, Some, None, refl, sym, ap, ◌∙◌, arith}
use Rattle.std.specs.Prelude.{encode_utf8, encode_utf8_all}
use Rattle.std.specs.List.{slice_range}
use Rattle.std.specs.Str.{chars, IsUtf8, IsCharBoundary}
use Rattle.std.proofs.lemmas.Str.{chars_past_char, chars-nil, encodes-chars, encodes-append, chars-append, IsCharBoundary-at_seam}
use Rattle.std.proofs.lemmas.List.{length-append, take_at, append_cancel_right}
use Rattle.xc_elements.specs.Fronts.{one}

pub one_of_text : (text rest : List ℕ) (c : ℕ) → IsUtf8 text → text ≡ encode_utf8 c ++ rest → Some (c, chars rest) ≡ one (chars text)
unfolding one
one_of_text text rest c utf8 e = rw (chars_past_char text rest c utf8 e) refl

pub none_of_text : (text : List ℕ) → length text ≡ 0 → None ≡ one (chars text)
unfolding one
none_of_text [] e = rw chars-nil refl
none_of_text (c ∷ cs) e = absurd (omega arith)

-- the bytes of a text whose characters end with those of another
pub bytes_before : (text rest front : List ℕ) → IsUtf8 text → IsUtf8 rest → chars text ≡ front ++ chars rest → text ≡ encode_utf8_all front ++ rest
bytes_before text rest front t r e =
    sym (encodes-chars text t) ∙ ap (λ (cs : List ℕ). encode_utf8_all cs) e ∙ encodes-append front (chars rest) ∙ ap (λ (bs : List ℕ). encode_utf8_all front ++ bs) (encodes-chars rest r)

-- the part before a rest, by its length in bytes
pub cut_before : (text rest front : List ℕ) → IsUtf8 text → IsUtf8 rest → chars text ≡ front ++ chars rest → IsCharBoundary text (length text - length rest)
cut_before text rest front t r e =
    let bytes = bytes_before text rest front t r e in
    let len : length (encode_utf8_all front) ≡ length text - length rest = omega (arith, ap length bytes, length-append (encode_utf8_all front) rest) in
    rw len at (IsCharBoundary-at_seam text (encode_utf8_all front) rest bytes r)

pub part_before : (text rest part front : List ℕ) → IsUtf8 text → IsUtf8 rest → IsUtf8 part → part ≡ take (length text - length rest) text → chars text ≡ front ++ chars rest → chars part ≡ front
part_before text rest part front t r p is e =
    let bytes = bytes_before text rest front t r e in
    let len : length (encode_utf8_all front) ≡ length text - length rest = omega (arith, ap length bytes, length-append (encode_utf8_all front) rest) in
    let taken : part ≡ encode_utf8_all front = is ∙ ap (λ (bs : List ℕ). take (length text - length rest) bs) bytes ∙ take_at (encode_utf8_all front) rest (length text - length rest) len in
    let joined_texts : part ++ rest ≡ text = ap (λ (bs : List ℕ). bs ++ rest) taken ∙ sym bytes in
    append_cancel_right (chars part) front (chars rest) (sym (chars-append part rest p) ∙ ap chars joined_texts ∙ e)

pub take_of_range : (xs : List ℕ) (n : ℕ) → slice_range xs 0 n ≡ take n xs
take_of_range xs n = grind arith

-- an empty text has no characters
pub no_text : chars [] ≡ []
no_text = chars-nil
