-- White space at the ends of a text.
use Rattle.std.proofs.Common.{◌≡◌, ℕ, ◌+◌, ◌-◌, ◌<◌, List, [], ◌∷◌, ◌++◌, true, false, suc, length, take, drop, reverse, refl, sym, ap, ◌∙◌, arith, get_or}
use Rattle.std.proofs.lemmas.Bool.Decides.{nat_tests}
use Rattle.std.proofs.lemmas.List.{reverse-reverse, reverse-append, length-append}
use native.Mathlib.Numerals.{unary_clauses}
use Rattle.std.proofs.lemmas.Grind.{reverse_onto}
use Rattle.std.specs.List.{prefix_len, slice_range}
use Rattle.xc_chars.specs.Characters.{is_space}
use Rattle.xc_chars.specs.Steps.Spaces.{begins_with_space, ends_with_space}
use Rattle.xc_chars.specs.Trimmed.{without_front, without_end}

-- white space is ASCII
pub space_is_ascii : (b : ℕ) → is_space b ≡ true → b < 128
space_is_ascii b h = grind (arith, nat_tests)

pub first_is_ascii : (text : List ℕ) → begins_with_space text ≡ true → (0 < length text) × (get_or text 0 0 < 128)
first_is_ascii [] h = absurd (cc)
first_is_ascii (b ∷ bs) h = (omega arith, space_is_ascii b h)

-- white space in front is none of what is left
pub front_gone : (text : List ℕ) → begins_with_space text ≡ true → without_front (drop 1 text) ≡ without_front text
front_gone [] h = absurd (cc)
front_gone (b ∷ bs) h =
    let next : suc (prefix_len is_space bs) ≡ 1 + prefix_len is_space bs = omega arith in
    rw h (ap (λ n. drop n (b ∷ bs)) next)

-- a text that does not begin with white space stays
pub front_stays : (text : List ℕ) → begins_with_space text ≡ false → without_front text ≡ text
front_stays [] h = refl
front_stays (b ∷ bs) h = rw h refl

-- a text that ends with white space, and what stands before it
pub record Ends (text : List ℕ) : Type 0 where
  pub front : List ℕ
  pub last : ℕ
  pub parts : text ≡ front ++ last ∷ []
  pub space : is_space last ≡ true

ends_by : (text turned : List ℕ) → reverse text ≡ turned → begins_with_space turned ≡ true → Ends text
ends_by text [] e h = absurd (cc)
ends_by text (b ∷ bs) e h = record { front = reverse bs; last = b; parts = sym (reverse-reverse text) ∙ ap reverse e ∙ reverse_onto bs b []; space = h }

pub ends : (text : List ℕ) → ends_with_space text ≡ true → Ends text
ends text h = ends_by text (reverse text) refl h

length_more : (bs : List ℕ) (last : ℕ) → length (bs ++ last ∷ []) ≡ suc (length (bs ++ last ∷ []) - 1)
length_more bs last = let e = length-append bs (last ∷ []) in omega arith

taken_of : (front : List ℕ) (last : ℕ) → take (length (front ++ last ∷ []) - 1) (front ++ last ∷ []) ≡ front
taken_of [] last = refl
taken_of (b ∷ bs) last = simp unary_clauses (rw (length_more bs last) (ap (λ xs. b ∷ xs) (taken_of bs last)))

taken : (front : List ℕ) (last : ℕ) (text : List ℕ) → text ≡ front ++ last ∷ [] → slice_range text 0 (length text - 1) ≡ front
taken front last text e =
    let length_is : length text - 1 - 0 ≡ length text - 1 = omega arith in
    ap (λ n. take n text) length_is ∙ rw e (taken_of front last)

-- what a loop over the end leaves
pub end_gone : (text rest : List ℕ) → ends_with_space text ≡ true → rest ≡ slice_range text 0 (length text - 1) → without_end rest ≡ without_end text
end_gone text rest h e =
    let r = ends text h in
    let shorter : rest ≡ r.front = e ∙ taken r.front r.last text r.parts in
    let turned : reverse text ≡ r.last ∷ reverse r.front = ap reverse r.parts ∙ reverse-append r.front (r.last ∷ []) in
    let gone : without_front (r.last ∷ reverse r.front) ≡ without_front (reverse r.front) = sym (front_gone (r.last ∷ reverse r.front) r.space) in
    ap without_end shorter ∙ ap reverse (sym (ap without_front turned ∙ gone))

-- a text that does not end with white space stays
pub end_stays : (text : List ℕ) → ends_with_space text ≡ false → without_end text ≡ text
end_stays text h = ap reverse (front_stays (reverse text) h) ∙ reverse-reverse text
