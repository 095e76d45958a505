-- What stands behind the last `/` of a text.
use Rattle.std.proofs.Common.{◌≡◌, ◌<◌, ◌+◌, ◌||◌, nat_lt, ℕ, suc, List, [], ◌∷◌, Bool, true, false, not, length, drop, Option, Some, None, if◌then◌else◌, cond, true≢false, refl, sym, ap, ◌∙◌, arith}
use Rattle.std.proofs.lemmas.Bool.Decides.{nat_tests}
use Rattle.std.specs.List.{list_any, position_or_len, before_first, after_first}
use Rattle.xc_chars.specs.Parts.{is_slash, around, file_name}

below : (m n : ℕ) → m < n → nat_lt m n ≡ true
below m n h = grind (arith, nat_tests)

same_test : (m n : ℕ) → nat_lt (1 + m) (suc n) ≡ nat_lt m n
same_test m n = by (nat_lt m n) refl
  where
    by : (b : Bool) → nat_lt m n ≡ b → nat_lt (1 + m) (suc n) ≡ b
    by true e = grind (arith, nat_tests)
    by false e = grind (arith, nat_tests)

-- the place of the first is before the end exactly where there is one
found : (text : List ℕ) → nat_lt (position_or_len is_slash text) (length text) ≡ list_any is_slash text
found [] = refl
found (c ∷ cs) = by (is_slash c) (found cs)
  where
    by : (b : Bool) → nat_lt (position_or_len is_slash cs) (length cs) ≡ list_any is_slash cs → nat_lt (cond (not b) (1 + position_or_len is_slash cs) 0) (length (c ∷ cs)) ≡ (b || list_any is_slash cs)
    by true rest = below 0 (length (c ∷ cs)) (omega arith)
    by false rest = same_test (position_or_len is_slash cs) (length cs) ∙ rest

-- without what stands before the first and the first
name_kept : (text : List ℕ) → list_any is_slash text ≡ true → file_name (after_first is_slash text) ≡ file_name text
name_kept [] e = absurd (true≢false (sym e))
name_kept (c ∷ cs) e = by (is_slash c) refl e (name_kept cs) ∙ sym (ap (λ b. if b then file_name cs else c ∷ cs) e)
  where
    by : (b : Bool) → is_slash c ≡ b → (b || list_any is_slash cs) ≡ true → (list_any is_slash cs ≡ true → file_name (after_first is_slash cs) ≡ file_name cs) → file_name (drop (cond (not b) (1 + position_or_len is_slash cs) 0 + 1) (c ∷ cs)) ≡ file_name cs
    by true is there rest = refl
    by false is there rest =
        let further : 1 + position_or_len is_slash cs + 1 ≡ suc (position_or_len is_slash cs + 1) = omega arith in
        ap (λ n. file_name (drop n (c ∷ cs))) further ∙ rest there

-- the parts around the first, by whether there is one
abbrev parts_if : Bool → List ℕ → Option (List ℕ × List ℕ)
parts_if b text = if b then Some (before_first is_slash text, after_first is_slash text) else None

-- what stands after the first has the same file name
pub name_after : (text before after : List ℕ) → Some (before, after) ≡ around is_slash text → file_name after ≡ file_name text
name_after text before after e = by (nat_lt (position_or_len is_slash text) (length text)) refl e
  where
    by : (b : Bool) → nat_lt (position_or_len is_slash text) (length text) ≡ b → Some (before, after) ≡ parts_if b text → file_name after ≡ file_name text
    by true there is =
        let parts : List ℕ × List ℕ = (before, after) in
        let firsts : List ℕ × List ℕ = (before_first is_slash text, after_first is_slash text) in
        let same : parts ≡ firsts = cc in
        ap (λ p. file_name p.1) same ∙ name_kept text (sym (found text) ∙ there)
    by false there is = absurd (cc)

-- where there is none, the whole is the file name
pub name_alone : (text : List ℕ) → None ≡ around is_slash text → text ≡ file_name text
name_alone [] e = refl
name_alone (c ∷ cs) e = sym (ap (λ b. if b then file_name cs else c ∷ cs) (sym (found (c ∷ cs)) ∙ by (nat_lt (position_or_len is_slash (c ∷ cs)) (length (c ∷ cs))) e))
  where
    by : (b : Bool) → None ≡ parts_if b (c ∷ cs) → b ≡ false
    by true is = absurd (cc)
    by false is = refl
