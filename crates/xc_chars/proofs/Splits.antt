-- A text splits exactly where it is two plain names joined by a colon.
use Rattle.std.proofs.Common.{◌≡◌, ◌+◌, ◌<◌, ◌&&◌, nat_lt, ℕ, suc, List, [], ◌∷◌, ◌++◌, Bool, true, false, Option, Some, None, option_and_then, length, take, drop, IsUtf8, refl, sym, ap, subst, ◌∙◌, arith, lit<, true≢false, if◌then◌else◌}
use Rattle.std.specs.List.{list_all, position_or_len, before_first, after_first}
use Rattle.std.specs.Str.{chars, NonePass, NoCharPasses}
use Rattle.std.proofs.Math.ListN.{get_or}
use Rattle.std.proofs.lemmas.Bool.Decides.{nat_tests}
use Rattle.std.proofs.Math.Seq.{take-append_seam}
use Rattle.std.proofs.lemmas.Bool.{eqb-true, ltb-true, false_from_ne_true}
use Rattle.std.proofs.lemmas.List.{get_or_append_left, get_or_at, length-append}
use Rattle.std.proofs.lemmas.List.Sums.{split_at_first, passes_at_first, position_or_len_is}
use Rattle.std.proofs.lemmas.Str.{encodes-chars, NoCharPasses-byte, IsUtf8-take, IsCharBoundary-before_ascii}
use Rattle.std.proofs.lemmas.Bool.{and_parts}
use Rattle.xc_chars.specs.Characters.{is_name_start, is_name_char}
use Rattle.xc_chars.specs.Parts.{is_colon}
use Rattle.xc_chars.specs.PlainNames.{is_plain_name, begins_name, both_plain, split, IsJoined}

drop_past : (xs : List ℕ) (y : ℕ) (ys : List ℕ) → drop (length xs + 1) (xs ++ y ∷ ys) ≡ ys
drop_past [] y ys = refl
drop_past (x ∷ xs) y ys = let e : length (x ∷ xs) + 1 ≡ suc (length xs + 1) = omega arith in rw e (drop_past xs y ys)

-- from a split to the joined names

-- these parts, if the test holds
abbrev kept : Bool → List ℕ × List ℕ → Option (List ℕ × List ℕ)
kept b parts = if b then Some parts else None

joined_plain : (text before after prefix local : List ℕ) (a b : Bool) → text ≡ before ++ 58 ∷ after → is_plain_name before ≡ a → is_plain_name after ≡ b → kept (a && b) (before, after) ≡ Some (prefix, local) → IsJoined text prefix local
joined_plain text before after prefix local true true e plain_before plain_after found =
    let parts : List ℕ × List ℕ = (before, after) in
    let named : List ℕ × List ℕ = (prefix, local) in
    let same : parts ≡ named = cc in
    let same_prefix : before ≡ prefix = ap (λ p. p.0) same in
    let same_local : after ≡ local = ap (λ p. p.1) same in
    record {
      joined = e ∙ ap (λ x. x ++ 58 ∷ after) same_prefix ∙ ap (λ x. prefix ++ 58 ∷ x) same_local;
      prefix_plain = ap is_plain_name (sym same_prefix) ∙ plain_before;
      local_plain = ap is_plain_name (sym same_local) ∙ plain_after;
    }
joined_plain text before after prefix local true false e plain_before plain_after found = absurd (cc)
joined_plain text before after prefix local false b e plain_before plain_after found = absurd (cc)

joined_first : (text prefix local : List ℕ) (b : Bool) → nat_lt (position_or_len is_colon text) (length text) ≡ b → option_and_then both_plain (kept b (before_first is_colon text, after_first is_colon text)) ≡ Some (prefix, local) → IsJoined text prefix local
joined_first text prefix local true within found =
    let first : position_or_len is_colon text < length text = ltb-true _ _ within in
    let cut = split_at_first is_colon text 0 first ∙ ap (λ c. before_first is_colon text ++ c ∷ after_first is_colon text) (eqb-true _ 58 (passes_at_first is_colon text 0 first)) in
    joined_plain text _ _ prefix local _ _ cut refl refl found
joined_first text prefix local false within found = absurd (cc)

pub joined_from_split : (text prefix local : List ℕ) → split text ≡ Some (prefix, local) → IsJoined text prefix local
joined_from_split text prefix local found = joined_first text prefix local _ refl found

-- and back

-- a colon is no character of a name
no_colon : (cs : List ℕ) → list_all is_name_char cs ≡ true → NonePass is_colon cs
unfolding is_name_start is_name_char
no_colon [] e = tt
no_colon (c ∷ cs) e =
    let here : is_name_char c ≡ true = (and_parts (is_name_char c) (list_all is_name_char cs) e).0 in
    let colon : c ≡ 58 → false ≡ true = λ same. subst (λ x. is_name_char x ≡ true) same here in
    (false_from_ne_true (is_colon c) (λ t. true≢false (sym (colon (eqb-true c 58 t)))), no_colon cs (and_parts (is_name_char c) (list_all is_name_char cs) e).1)

-- no byte of a plain name is a colon
no_colon_at : (name : List ℕ) → IsUtf8 name → is_plain_name name ≡ true → (k : ℕ) → k < length name → is_colon (get_or name k 0) ≡ false
no_colon_at name utf8 plain k h =
    let names : list_all is_name_char (chars name) ≡ true = (and_parts (begins_name (chars name)) (list_all is_name_char (chars name)) plain).1 in
    let none : NoCharPasses is_colon name = (chars name, encodes-chars name utf8, no_colon (chars name) names) in
    false_from_ne_true (is_colon (get_or name k 0)) (λ t.
    let ascii : get_or name k 0 < 128 = rw (eqb-true (get_or name k 0) 58 t) (lit< tt) in
    true≢false (sym t ∙ NoCharPasses-byte is_colon name k none h ascii))

-- the first colon of joined names stands between them
colon_between : (prefix local : List ℕ) → IsUtf8 prefix → is_plain_name prefix ≡ true → position_or_len is_colon (prefix ++ 58 ∷ local) ≡ length prefix
colon_between prefix local utf8 plain =
    position_or_len_is is_colon (prefix ++ 58 ∷ local) (length prefix) 0 (omega (arith, length-append prefix (58 ∷ local)))
    (λ k h. ap is_colon (get_or_append_left prefix (58 ∷ local) 0 k h) ∙ no_colon_at prefix utf8 plain k h)
    (λ h. ap is_colon (get_or_at prefix 58 local 0 (length prefix) refl))

below : (m n : ℕ) → m < n → nat_lt m n ≡ true
below m n h = grind (arith, nat_tests)

split_joined : (prefix local : List ℕ) → IsUtf8 prefix → is_plain_name prefix ≡ true → is_plain_name local ≡ true → split (prefix ++ 58 ∷ local) ≡ Some (prefix, local)
split_joined prefix local utf8 plain_prefix plain_local =
    let text = prefix ++ 58 ∷ local in
    let n = length prefix in
    let within : n < length text = omega (arith, length-append prefix (58 ∷ local)) in
    let parts : (take n text, drop (n + 1) text) ≡ (prefix, local) = λ i. (take-append_seam prefix (58 ∷ local) i, drop_past prefix 58 local i) in
    ap (λ m. option_and_then both_plain (kept (nat_lt m (length text)) (take m text, drop (m + 1) text))) (colon_between prefix local utf8 plain_prefix)
    ∙ ap (λ b. option_and_then both_plain (kept b (take n text, drop (n + 1) text))) (below n (length text) within)
    ∙ ap both_plain parts
    ∙ ap (λ b. kept (b && is_plain_name local) (prefix, local)) plain_prefix
    ∙ ap (λ b. kept b (prefix, local)) plain_local

pub split_from_joined : (text prefix local : List ℕ) → IsUtf8 text → IsJoined text prefix local → split text ≡ Some (prefix, local)
split_from_joined text prefix local utf8 joined =
    let e : text ≡ prefix ++ 58 ∷ local = joined.joined in
    let n = length prefix in
    let whole : IsUtf8 (prefix ++ 58 ∷ local) = subst (λ t. IsUtf8 t) e utf8 in
    let within : n < length (prefix ++ 58 ∷ local) = omega (arith, length-append prefix (58 ∷ local)) in
    let colon : get_or (prefix ++ 58 ∷ local) n 0 ≡ 58 = get_or_at prefix 58 local 0 n refl in
    let front : IsUtf8 (take n (prefix ++ 58 ∷ local)) = IsUtf8-take (prefix ++ 58 ∷ local) n whole (IsCharBoundary-before_ascii (prefix ++ 58 ∷ local) n within (rw colon (lit< tt))) in
    ap split e ∙ split_joined prefix local (subst (λ t. IsUtf8 t) (take-append_seam prefix (58 ∷ local)) front) joined.prefix_plain joined.local_plain
