-- The parts of a text: its sign, and what stands around its point.
use Rattle.std.proofs.Common.{◌≡◌, ℕ, List, [], ◌∷◌, ◌++◌, Bool, true, false, not, length, get_or, arith, refl, sym, ◌∙◌, ap, subst, inl, inr}
use Rattle.std.proofs.Math.Dec.{eqb}
use Rattle.std.specs.List.{position_or_len, before_first, after_first}
use Rattle.std.specs.Char.{is_ascii_digit}
use Rattle.std.proofs.lemmas.Bool.{cases_Bool, cases_lt, and_parts, and_from, eqb-true, ne_eqb, or_from, cond-false, not-false}
use Rattle.std.proofs.lemmas.List.{take_all, append-nil}
use Rattle.std.proofs.lemmas.List.Sums.{split_at_first, prefix_len_stops}
use Rattle.std.proofs.Math.ListN.{drop_of_length-le}
use Rattle.xc_decimal.specs.Decimals.{IsSign, IsTail}
use Rattle.xc_decimal.specs.Digits.{AreDigits}
use Rattle.xc_decimal.specs.Reading.{is_negative, unsigned, is_point}
use Rattle.xc_decimal.proofs.Narrow.{digit_bounds}
use Rattle.xc_decimal.proofs.Points.{Clear, before_mark, after_mark, before_clear, after_clear}

-- The sign

-- the text is a sign and a rest
pub record Signs (text : List ℕ) (negative : Bool) (rest : List ℕ) : Type 0 where
  pub sign : List ℕ
  pub is_sign : IsSign negative sign
  pub text_is : text ≡ sign ++ rest

signs_other : (c : ℕ) (cs : List ℕ) → eqb c 43 ≡ false → eqb c 45 ≡ false → Signs (c ∷ cs) (is_negative (c ∷ cs)) (unsigned (c ∷ cs))
signs_other c cs plus minus =
    let whole : unsigned (c ∷ cs) ≡ c ∷ cs = cond-false _ cs (c ∷ cs) (or_from (eqb c 43) (eqb c 45) plus minus) in
    let at : Signs (c ∷ cs) false (c ∷ cs) = record { sign = []; is_sign = inl refl; text_is = refl } in
    subst (λ r. Signs (c ∷ cs) (is_negative (c ∷ cs)) r) (sym whole) (subst (λ b. Signs (c ∷ cs) b (c ∷ cs)) (sym minus) at)

pub signs_of : (text : List ℕ) → Signs text (is_negative text) (unsigned text)
signs_of [] = record { sign = []; is_sign = inl refl; text_is = refl }
signs_of (c ∷ cs) =
    let P : ℕ → Type 0 = λ x. Signs (x ∷ cs) (is_negative (x ∷ cs)) (unsigned (x ∷ cs)) in
    elim (cases_Bool (eqb c 45)) [
      | inl minus ↦ subst P (sym (eqb-true c 45 minus)) (record { sign = 45 ∷ []; is_sign = refl; text_is = refl })
      | inr other ↦ elim (cases_Bool (eqb c 43)) [
        | inl plus ↦ subst P (sym (eqb-true c 43 plus)) (record { sign = 43 ∷ []; is_sign = inr refl; text_is = refl })
        | inr neither ↦ signs_other c cs neither other
      ]
    ]

-- the text has no sign
pub record IsBare (text : List ℕ) : Type 0 where
  pub positive : is_negative text ≡ false
  pub whole : unsigned text ≡ text

bare_digit : (c : ℕ) (cs : List ℕ) → is_ascii_digit c ≡ true → IsBare (c ∷ cs)
bare_digit c cs e =
    let bounds = digit_bounds c e in
    let plus : eqb c 43 ≡ false = ne_eqb c 43 (λ is. omega arith) in
    let minus : eqb c 45 ≡ false = ne_eqb c 45 (λ is. omega arith) in
    record { positive = minus; whole = cond-false _ cs (c ∷ cs) (or_from (eqb c 43) (eqb c 45) plus minus) }

pub bare_parts : (whole tail fraction : List ℕ) → AreDigits whole → IsTail tail fraction → IsBare (whole ++ tail)
bare_parts [] tail fraction digits (inl none) = subst IsBare (sym none.0) (record { positive = refl; whole = refl })
bare_parts [] tail fraction digits (inr point) = subst IsBare (sym point) (record { positive = refl; whole = refl })
bare_parts (c ∷ cs) tail fraction digits is_tail = bare_digit c (cs ++ tail) (and_parts _ _ digits).0

-- a sign before such a text is the text's
pub signed_negative : (negative : Bool) (sign text : List ℕ) → IsSign negative sign → IsBare text → is_negative (sign ++ text) ≡ negative
signed_negative true sign text is bare = ap (λ s. is_negative (s ++ text)) is
signed_negative false sign text (inl none) bare = ap (λ s. is_negative (s ++ text)) none ∙ bare.positive
signed_negative false sign text (inr plus) bare = ap (λ s. is_negative (s ++ text)) plus

pub signed_unsigned : (negative : Bool) (sign text : List ℕ) → IsSign negative sign → IsBare text → unsigned (sign ++ text) ≡ text
signed_unsigned true sign text is bare = ap (λ s. unsigned (s ++ text)) is
signed_unsigned false sign text (inl none) bare = ap (λ s. unsigned (s ++ text)) none ∙ bare.whole
signed_unsigned false sign text (inr plus) bare = ap (λ s. unsigned (s ++ text)) plus

-- The point

-- what stands behind the part before the point
pub record Tails (text before after : List ℕ) : Type 0 where
  pub tail : List ℕ
  pub is_tail : IsTail tail after
  pub text_is : text ≡ before ++ tail

pub tails_of : (text : List ℕ) → Tails text (before_first is_point text) (after_first is_point text)
tails_of text =
    let n : ℕ = position_or_len is_point text in
    elim (cases_lt n (length text)) [
      | inl within ↦
          let point : get_or text n 0 ≡ 46 = eqb-true (get_or text n 0) 46 (not-false _ (prefix_len_stops (λ c. not (is_point c)) text 0 within)) in
          record {
            tail = 46 ∷ after_first is_point text;
            is_tail = inr refl;
            text_is = split_at_first is_point text 0 within ∙ ap (λ c. before_first is_point text ++ (c ∷ after_first is_point text)) point;
          }
      | inr past ↦ record {
        tail = [];
        is_tail = inl (refl, drop_of_length-le text (omega (arith, past)));
        text_is = sym (append-nil (before_first is_point text) ∙ take_all n text past);
      }
    ]

no_point : (c : ℕ) → is_ascii_digit c ≡ true → not (is_point c) ≡ true
no_point c e = let bounds = digit_bounds c e in ap not (ne_eqb c 46 (λ is. omega arith))

-- digits have no point
clear : (digits : List ℕ) → AreDigits digits → Clear is_point digits
clear [] all = refl
clear (c ∷ cs) all = let parts = and_parts _ _ all in and_from _ _ (no_point c parts.0) (clear cs parts.1)

pub before_is : (whole tail fraction : List ℕ) → AreDigits whole → IsTail tail fraction → before_first is_point (whole ++ tail) ≡ whole
before_is whole tail fraction digits (inl none) =
    ap (λ t. before_first is_point (whole ++ t)) none.0 ∙ ap (before_first is_point) (append-nil whole) ∙ before_clear is_point whole (clear whole digits)
before_is whole tail fraction digits (inr point) =
    ap (λ t. before_first is_point (whole ++ t)) point ∙ before_mark is_point whole 46 fraction (clear whole digits) refl

pub after_is : (whole tail fraction : List ℕ) → AreDigits whole → IsTail tail fraction → after_first is_point (whole ++ tail) ≡ fraction
after_is whole tail fraction digits (inl none) =
    ap (λ t. after_first is_point (whole ++ t)) none.0 ∙ ap (after_first is_point) (append-nil whole) ∙ after_clear is_point whole (clear whole digits) ∙ sym none.1
after_is whole tail fraction digits (inr point) =
    ap (λ t. after_first is_point (whole ++ t)) point ∙ after_mark is_point whole 46 fraction (clear whole digits) refl
