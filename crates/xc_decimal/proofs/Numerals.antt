-- Digits without leading zeros are what is written of their number.
use Rattle.std.proofs.Common.{◌≡◌, ◌≢◌, ℕ, ◌+◌, ◌-◌, ◌*◌, ◌/◌, ◌%◌, ◌^◌, ◌<◌, ◌≤◌, List, [], ◌∷◌, ◌++◌, true, false, length, arith, refl, sym, ◌∙◌, ap, subst, inl, inr, Option, Some, None, lit<}
use Rattle.std.specs.Prelude.{decimal}
use Rattle.std.specs.List.{list_all}
use Rattle.std.specs.Char.{is_ascii_digit}
use Rattle.std.specs.Option.{SomeIff}
use Rattle.std.proofs.Math.Dec.{eqb}
use Rattle.std.proofs.lemmas.Bool.{cases_Bool, and_from, le-leb, eqb-true, cond-true, cond-false, cond_both, false≢true, and_parts, eqb-false}
use Rattle.std.proofs.lemmas.Fmt.{decimal_by_steps_wide, decimal_step_wide, decimal_digit}
use Rattle.std.proofs.lemmas.List.{append-nil, append_assoc, nil_from_length}
use Rattle.std.proofs.lemmas.List.Folds.{list_all-append}
use Rattle.std.proofs.lemmas.List.Sums.{fold_push}
use Rattle.xc_decimal.specs.Digits.{AreDigits, behind, number_of}
use Rattle.xc_decimal.specs.Spelling.{is_numeral, IsNaturalOf}
use Rattle.xc_decimal.proofs.Behind.{behind-grows}
use Rattle.xc_decimal.proofs.Narrow.{digit_bounds}

-- digits of n, of which a leading zero is the only one
record IsWritten (n : ℕ) (digits : List ℕ) : Type 0 where
  all : AreDigits digits
  value : number_of digits ≡ n
  first : ℕ
  rest : List ℕ
  is : digits ≡ first ∷ rest
  zero_alone : first ≡ 48 → (n ≡ 0) × (rest ≡ [])

is_digit : (c : ℕ) → 48 ≤ c → c ≤ 57 → is_ascii_digit c ≡ true
is_digit c low high = and_from _ _ (le-leb 48 c low) (le-leb c 57 high)

one_written : (n : ℕ) → n < 10 → IsWritten n ((48 + n) ∷ [])
one_written n h = record {
  all = and_from _ _ (is_digit (48 + n) (omega arith) (omega arith)) refl;
  value = omega arith;
  first = 48 + n;
  rest = [];
  is = refl;
  zero_alone = λ e. (omega arith, refl);
}

more_written : (n : ℕ) (digits : List ℕ) → 10 ≤ n → IsWritten (n / 10) digits → IsWritten n (digits ++ ((48 + n % 10) ∷ []))
more_written n digits h w = record {
  all =
      list_all-append is_ascii_digit digits ((48 + n % 10) ∷ []) ∙ and_from _ _ w.all (and_from _ _ (is_digit (48 + n % 10) (omega arith) (omega arith)) refl);
  value = fold_push (λ m digit. 10 * m + (digit - 48)) 0 digits (48 + n % 10) ∙ omega (arith, w.value);
  first = w.first;
  rest = w.rest ++ ((48 + n % 10) ∷ []);
  is = ap (λ xs. xs ++ ((48 + n % 10) ∷ [])) w.is;
  zero_alone = λ e. absurd (omega (arith, (w.zero_alone e).0));
}

written : (n : ℕ) → n < 10 ^ 64 → IsWritten n (decimal n)
written = decimal_by_steps_wide IsWritten one_written more_written

numeral_of : (n : ℕ) (c : ℕ) (cs : List ℕ) → AreDigits (c ∷ cs) → (c ≡ 48 → (n ≡ 0) × (cs ≡ [])) → is_numeral (c ∷ cs) ≡ true
numeral_of n c cs all alone =
    cond_both (eqb c 48) (eqb (length cs) 0) (list_all is_ascii_digit (c ∷ cs)) (λ b. b ≡ true)
    (λ e. ap (λ xs. eqb (length xs) 0) (alone (eqb-true c 48 e)).1) (λ e. all)

pub decimal_numeral : (n : ℕ) → n < 10 ^ 64 → is_numeral (decimal n) ≡ true
decimal_numeral n h =
    let w = written n h in
    ap is_numeral w.is ∙ numeral_of n w.first w.rest (subst AreDigits w.is w.all) w.zero_alone

pub decimal_digits : (n : ℕ) → n < 10 ^ 64 → AreDigits (decimal n)
decimal_digits n h = (written n h).all

pub decimal_value : (n : ℕ) → n < 10 ^ 64 → number_of (decimal n) ≡ n
decimal_value n h = (written n h).value

pub decimal_unique : (m n : ℕ) → m < 10 ^ 64 → n < 10 ^ 64 → decimal m ≡ decimal n → m ≡ n
decimal_unique m n p q e = sym (decimal_value m p) ∙ ap number_of e ∙ decimal_value n q

decimal_behind : (n : ℕ) (digits : List ℕ) → 0 < n → AreDigits digits → behind n digits < 10 ^ 64 → decimal (behind n digits) ≡ decimal n ++ digits
decimal_behind n [] some all small = sym (append-nil (decimal n))
decimal_behind n (c ∷ cs) some all small =
    let parts = and_parts _ _ all in
    let bounds = digit_bounds c parts.0 in
    let m : ℕ = 10 * n + (c - 48) in
    let front : m / 10 ≡ n = omega arith in
    let end : 48 + m % 10 ≡ c = omega arith in
    decimal_behind m cs (omega arith) parts.1 small
    ∙ ap (λ x. x ++ cs) (decimal_step_wide m (omega arith) (omega (arith, behind-grows m cs)) ∙ (λ i. decimal (front i) ++ (end i ∷ [])))
    ∙ append_assoc (decimal n) (c ∷ []) cs

-- digits without leading zeros
pub numeral_decimal : (digits : List ℕ) → is_numeral digits ≡ true → number_of digits < 10 ^ 64 → decimal (number_of digits) ≡ digits
numeral_decimal [] e small = absurd (false≢true e)
numeral_decimal (c ∷ cs) e small =
    elim (cases_Bool (eqb c 48)) [
      | inl is ↦ alone c cs (eqb-true c 48 is) (nil_from_length cs (eqb-true (length cs) 0 (sym (cond-true (eqb c 48) _ _ is) ∙ e)))
      | inr not ↦ other c cs (λ is. eqb-false c 48 not is) (and_parts _ _ (sym (cond-false (eqb c 48) _ _ not) ∙ e)) small
    ]
  where
    alone : (c : ℕ) (cs : List ℕ) → c ≡ 48 → cs ≡ [] → decimal (number_of (c ∷ cs)) ≡ c ∷ cs
    alone c cs is none =
        let zero_ : decimal 0 ≡ 48 ∷ [] = decimal_digit 0 (lit< tt) in
        ap (λ xs. decimal (number_of xs)) (λ i. is i ∷ none i) ∙ zero_ ∙ (λ i. sym is i ∷ sym none i)

    other : (c : ℕ) (cs : List ℕ) → c ≢ 48 → (is_ascii_digit c ≡ true) × (list_all is_ascii_digit cs ≡ true) → number_of (c ∷ cs) < 10 ^ 64 → decimal (number_of (c ∷ cs)) ≡ c ∷ cs
    other c cs some parts small =
        let bounds = digit_bounds c parts.0 in
        let n : ℕ = 10 * 0 + (c - 48) in
        let is : 48 + n ≡ c = omega arith in
        decimal_behind n cs (omega arith) parts.1 small ∙ ap (λ x. x ++ cs) (decimal_digit n (omega arith) ∙ ap (λ x. x ∷ []) is)

pub few : (n : ℕ) → n < 2 ^ 127 → n < 10 ^ 64
few n h = let more : 2 ^ 127 < 10 ^ 64 = lit< tt in omega (arith, h, more)

-- what is read of digits
pub natural_is : (digits : List ℕ) (r : Option ℕ) (most : ℕ) → most + 1 ≡ 2 ^ 127 → is_numeral digits ≡ true → SomeIff r (number_of digits ≤ most) (number_of digits) → IsNaturalOf digits r
natural_is digits (Some n) most top e h =
    let small : n < 2 ^ 127 = omega (arith, h.0, h.1, top) in
    (small, sym (numeral_decimal digits e (few _ (omega (arith, h.0, top)))) ∙ ap decimal (sym h.1))
natural_is digits None most top e h = λ n small is. h (omega (arith, top, small, decimal_value n (few n small), ap number_of is))

pub not_natural : (digits : List ℕ) → is_numeral digits ≡ false → (n : ℕ) → n < 2 ^ 127 → digits ≢ decimal n
not_natural digits e n small is = false≢true (sym e ∙ ap is_numeral is ∙ decimal_numeral n (few n small))
