-- What is printed of texts: the bytes of a word, and other bytes for another text.
use Rattle.std.proofs.Common.{◌≡◌, ◌≢◌, ◌+◌, ◌/◌, ◌%◌, ◌<◌, ◌≤◌, ℕ, Bool, true, false, cond, List, [], ◌∷◌, ◌++◌, length, length-append, get_or, drop, refl, sym, ap, ◌∙◌, subst, arith, All, if◌then◌else◌, nat_lt}
use Rattle.std.proofs.lemmas.Bool.{or_parts, leb-false, eqb-false}
use Rattle.std.proofs.lemmas.List.Elements.{All-nil, All-cons, All-append}
use Rattle.std.proofs.lemmas.Str.{chars-encodes, encode_same, char_from_byte, length-encode, len_utf8_bounds}
use Rattle.std.specs.List.{flat_map}
use Rattle.std.specs.Str.{IsUtf8, chars}
use Rattle.xc_lines.specs.Laws.{IsOfWord, PrintsOneWord, PrintsApart}
use Rattle.xc_lines.specs.Lines.{is_escaped, hex_digit, printed_text, printed_char}
use lib.Utf8.{encode, encodes, next}

-- ---- one character

kept_apart : (c : ℕ) → is_escaped c ≡ false → (32 < c) × (c ≢ 37) × (c ≢ 127)
kept_apart c h =
    let p = or_parts _ _ h in
    let q = or_parts _ _ p.0 in
    (leb-false c 32 q.0, eqb-false c 37 q.1, eqb-false c 127 p.1)

escaped_small : (c : ℕ) → is_escaped c ≡ true → c < 128
escaped_small c h = grind arith

digit_by : (d : ℕ) (small : Bool) → d < 16 → IsOfWord (if small then 48 + d else 55 + d)
digit_by d true h = (omega arith, omega arith)
digit_by d false h = (omega arith, omega arith)

digit_same : (d e : ℕ) → d < 16 → e < 16 → hex_digit d ≡ hex_digit e → d ≡ e
digit_same d e h k same = grind arith

more : (b : ℕ) (bs : List ℕ) → IsOfWord b → All IsOfWord bs → All IsOfWord (b ∷ bs)
more b bs first rest = All-cons IsOfWord b bs first rest

high : (b : ℕ) → 128 ≤ b → IsOfWord b
high b h = (omega arith, omega arith)

encoded_by : (c : ℕ) (one two three : Bool) → IsOfWord c → All IsOfWord (cond one (c ∷ []) (cond two ((192 + c / 64) ∷ next c ∷ []) (cond three ((224 + c / 4096) ∷ next (c / 64) ∷ next c ∷ []) ((240 + c / 262144) ∷ next (c / 4096) ∷ next (c / 64) ∷ next c ∷ []))))
encoded_by c true two three h = more c [] h (All-nil IsOfWord)
encoded_by c false true three h = more (192 + c / 64) (next c ∷ []) (high (192 + c / 64) (omega arith)) (more (next c) [] (high (next c) (omega arith)) (All-nil IsOfWord))
encoded_by c false false true h = more (224 + c / 4096) (next (c / 64) ∷ next c ∷ []) (high (224 + c / 4096) (omega arith)) (more (next (c / 64)) (next c ∷ []) (high (next (c / 64)) (omega arith)) (more (next c) [] (high (next c) (omega arith)) (All-nil IsOfWord)))
encoded_by c false false false h = more (240 + c / 262144) (next (c / 4096) ∷ next (c / 64) ∷ next c ∷ []) (high (240 + c / 262144) (omega arith)) (more (next (c / 4096)) (next (c / 64) ∷ next c ∷ []) (high (next (c / 4096)) (omega arith)) (more (next (c / 64)) (next c ∷ []) (high (next (c / 64)) (omega arith)) (more (next c) [] (high (next c) (omega arith)) (All-nil IsOfWord))))

encoded : (c : ℕ) → IsOfWord c → All IsOfWord (encode c)
unfolding encode
encoded c h = encoded_by c _ _ _ h

piece_by : (c : ℕ) (escaped : Bool) → is_escaped c ≡ escaped → All IsOfWord (if escaped then 37 ∷ hex_digit (c / 16) ∷ hex_digit (c % 16) ∷ [] else encode c)
piece_by c true is =
    let small = escaped_small c is in
    let lower = more (hex_digit (c % 16)) [] (digit_by (c % 16) (nat_lt (c % 16) 10) (omega arith)) (All-nil IsOfWord) in
    let digits = more (hex_digit (c / 16)) (hex_digit (c % 16) ∷ []) (digit_by (c / 16) (nat_lt (c / 16) 10) (omega (arith, small))) lower in
    more 37 (hex_digit (c / 16) ∷ hex_digit (c % 16) ∷ []) (omega arith, omega arith) digits
piece_by c false is = let k = kept_apart c is in encoded c (k.0, k.2)

piece_some_by : (c : ℕ) (escaped : Bool) → 0 < length (if escaped then 37 ∷ hex_digit (c / 16) ∷ hex_digit (c % 16) ∷ [] else encode c)
piece_some_by c true = omega arith
piece_some_by c false = omega (arith, length-encode c, len_utf8_bounds c)

piece_some : (c : ℕ) → 0 < length (printed_char c)
piece_some c = piece_some_by c (is_escaped c)

-- what begins with an escaped character does not begin with one that is not
apart_by : (d : ℕ) (rest t : List ℕ) → is_escaped d ≡ false → 37 ∷ rest ≡ encode d ++ t → ⊥
apart_by d rest t is e = (kept_apart d is).1 (char_from_byte (37 ∷ rest) t d e (omega arith) (omega arith))

same_by : (c d : ℕ) (s u : Bool) → is_escaped c ≡ s → is_escaped d ≡ u → (r t : List ℕ)
    → (if s then 37 ∷ hex_digit (c / 16) ∷ hex_digit (c % 16) ∷ [] else encode c) ++ r ≡ (if u then 37 ∷ hex_digit (d / 16) ∷ hex_digit (d % 16) ∷ [] else encode d) ++ t
    → (c ≡ d) × (r ≡ t)
same_by c d true true is_c is_d r t e =
    let small_c = escaped_small c is_c in
    let small_d = escaped_small d is_d in
    let upper : c / 16 ≡ d / 16 = digit_same (c / 16) (d / 16) (omega (arith, small_c)) (omega (arith, small_d)) (ap (λ xs. get_or xs 1 0) e) in
    let lower : c % 16 ≡ d % 16 = digit_same (c % 16) (d % 16) (omega arith) (omega arith) (ap (λ xs. get_or xs 2 0) e) in
    (omega (arith, upper, lower), ap (λ xs. drop 3 xs) e)
same_by c d true false is_c is_d r t e = absurd (apart_by d _ t is_d e)
same_by c d false true is_c is_d r t e = absurd (apart_by c _ r is_c (sym e))
same_by c d false false is_c is_d r t e = encode_same c d r t e

-- ---- texts

pieces : (cs : List ℕ) → All IsOfWord (flat_map printed_char cs)
pieces [] = All-nil IsOfWord
pieces (c ∷ cs) = All-append IsOfWord (printed_char c) (flat_map printed_char cs) (piece_by c (is_escaped c) refl) (pieces cs)

-- what is printed is made of bytes of words
pub of_words : (text : List ℕ) → All IsOfWord (printed_text text)
of_words [] = more 37 [] (omega arith, omega arith) (All-nil IsOfWord)
of_words (byte ∷ bytes) = pieces (chars (byte ∷ bytes))

no_pieces : (cs : List ℕ) → flat_map printed_char cs ≡ [] → cs ≡ []
no_pieces [] e = refl
no_pieces (c ∷ cs) e = absurd (omega (arith, piece_some c, length-append (printed_char c) (flat_map printed_char cs), ap length e))

same_pieces : (cs ds : List ℕ) → flat_map printed_char cs ≡ flat_map printed_char ds → cs ≡ ds
same_pieces [] ds e = sym (no_pieces ds (sym e))
same_pieces (c ∷ cs) [] e = no_pieces (c ∷ cs) e
same_pieces (c ∷ cs) (d ∷ ds) e =
    let s = same_by c d (is_escaped c) (is_escaped d) refl refl (flat_map printed_char cs) (flat_map printed_char ds) e in
    ap (λ x. x ∷ cs) s.0 ∙ ap (λ xs. d ∷ xs) (same_pieces cs ds s.1)

lone_by : (c : ℕ) (escaped : Bool) → is_escaped c ≡ escaped → (r : List ℕ) → 37 ∷ [] ≡ (if escaped then 37 ∷ hex_digit (c / 16) ∷ hex_digit (c % 16) ∷ [] else encode c) ++ r → ⊥
lone_by c true is r e = let l = ap length e in omega (arith, l)
lone_by c false is r e = apart_by c [] r is e

-- a text that is printed `%` is empty
lone : (cs : List ℕ) → 37 ∷ [] ≡ flat_map printed_char cs → ⊥
lone [] e = let l = ap length e in omega (arith, l)
lone (c ∷ cs) e = lone_by c (is_escaped c) refl (flat_map printed_char cs) e

spelled : (text : List ℕ) → IsUtf8 text → encodes (chars text) ≡ text
spelled text u = subst (λ b. encodes (chars b) ≡ b) u.1.1 (ap encodes (chars-encodes u.0 u.1.0))

pub one_word : PrintsOneWord
one_word [] u = (λ e. let l = ap length e in omega (arith, l), of_words [])
one_word (byte ∷ bytes) u = (λ e. let l = ap length (sym (spelled (byte ∷ bytes) u) ∙ ap encodes (no_pieces (chars (byte ∷ bytes)) e)) in omega (arith, l), of_words (byte ∷ bytes))

pub apart : PrintsApart
apart [] [] u v e = refl
apart [] (y ∷ b) u v e = absurd (lone (chars (y ∷ b)) e)
apart (x ∷ a) [] u v e = absurd (lone (chars (x ∷ a)) (sym e))
apart (x ∷ a) (y ∷ b) u v e = sym (spelled (x ∷ a) u) ∙ ap encodes (same_pieces (chars (x ∷ a)) (chars (y ∷ b)) e) ∙ spelled (y ∷ b) v
