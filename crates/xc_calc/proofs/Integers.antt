-- Whole numbers that are read are those that texts spell.
use Rattle.std.proofs.Common.{◌≡◌, ◌<◌, ◌≤◌, ◌+◌, ◌-◌, ◌*◌, ◌^◌, ◌==◌, ◌&&◌, nat_lt, nat_le, ℕ, ℤ, pos, neg_ℤ, List, [], ◌∷◌, Bool, true, false, length, Option, Some, None, Result, Ok, Err, if◌then◌else◌, refl, ap, arith, rules}
use Rattle.std.proofs.lemmas.Bool.{false≢true, eqb-true, eqb-false, and_from, and_parts}
use Rattle.std.proofs.lemmas.Bool.Decides.{nat_tests}
use Rattle.std.proofs.lemmas.Str.Parse.{IsNumeralModel, IsDigitsTest, FoldsDigits, numerals_by_fold, parse_signed_minus, parse_signed_plus, parse_signed_plain}
use Rattle.std.specs.Char.{is_ascii_digit}
use Rattle.std.specs.Int.{w64}
use Rattle.std.specs.List.{list_all}
use Rattle.std.specs.Result.{OkIff}
use Rattle.std.specs.Str.Parse.{ParsesSigned}
use Rattle.xc_calc.specs.Attributes.{are_digits_up_to, signed_up_to, integer_of}
use Rattle.xc_decimal.specs.Digits.{AreDigits, behind, number_of}

digits_test : IsDigitsTest AreDigits
digits_test = search rules

folds : FoldsDigits behind
folds = record { empty = λ n. refl; more = λ n c cs h. let same : 10 * n + (c - 48) ≡ n * 10 + (c - 48) = omega arith in ap (λ m. behind m cs) same }

own : IsNumeralModel AreDigits number_of
own = numerals_by_fold AreDigits digits_test behind folds

-- the number that was read, where one was
abbrev pub given : {E : Type 0} → Result ℤ E → Option ℤ
given (Ok z) = Some z
given (Err e) = None

tested : (most : ℕ) (text : List ℕ) (Q : Type 0) → (Q → number_of text ≤ most) → (number_of text ≤ most → Q) → (are_digits_up_to most text ≡ true → AreDigits text × (0 < length text) × Q) × (AreDigits text × (0 < length text) × Q → are_digits_up_to most text ≡ true)
tested most text Q to from = (
  λ h. let a = and_parts (list_all is_ascii_digit text && nat_lt 0 (length text)) (nat_le (number_of text) most) h in
      let b = and_parts (list_all is_ascii_digit text) (nat_lt 0 (length text)) a.0 in
      (b.0, grind (arith, nat_tests), from (grind (arith, nat_tests))),
  λ q. and_from _ _ (and_from _ _ q.0 (grind (arith, nat_tests))) (let small = to q.2 in grind (arith, nat_tests)),
)

told : {E : Type 0} (r : Result ℤ E) (b : Bool) (Q : Type 0) (z : ℤ) → (b ≡ true → Q) → (Q → b ≡ true) → OkIff r Q z → given r ≡ (if b then Some z else None)
told (Ok x) true Q z to from h = ap Some h.1
told (Ok x) false Q z to from h = absurd (false≢true (from h.0))
told (Err e) true Q z to from h = absurd (h (to refl))
told (Err e) false Q z to from h = refl

below : (n : ℕ) → n < 2 ^ 63 → n ≤ 2 ^ 63 - 1
below n h = omega (arith, h)

above : (n : ℕ) → n ≤ 2 ^ 63 - 1 → n < 2 ^ 63
above n h = omega (arith, h)

pub parsed : {E : Type 0} (bs : List ℕ) (r : Result ℤ E) → ParsesSigned w64 10 bs r → given r ≡ integer_of bs
parsed [] r h =
    let t = tested (2 ^ 63 - 1) [] (number_of [] < 2 ^ 63) (below _) (above _) in
    told r false _ (pos 0) (λ e. absurd (false≢true e)) (λ q. absurd (omega (arith, q.1))) (parse_signed_plain own w64 [] r h (omega arith) (omega arith))
parsed (c ∷ cs) r h = by (c == 45) (c == 43) refl refl
  where
    by : (minus plus : Bool) → (c == 45) ≡ minus → (c == 43) ≡ plus → given r ≡ (if minus then signed_up_to (2 ^ 63) true cs else if plus then signed_up_to (2 ^ 63 - 1) false cs else signed_up_to (2 ^ 63 - 1) false (c ∷ cs))
    by true plus e f =
        let t = tested (2 ^ 63) cs (number_of cs ≤ 2 ^ 63) (λ x. x) (λ x. x) in
        told r (are_digits_up_to (2 ^ 63) cs) _ (neg_ℤ (pos (number_of cs))) t.0 t.1 (parse_signed_minus own w64 (c ∷ cs) r h (eqb-true c 45 e))
    by false true e f =
        let t = tested (2 ^ 63 - 1) cs (number_of cs < 2 ^ 63) (below _) (above _) in
        told r (are_digits_up_to (2 ^ 63 - 1) cs) _ (pos (number_of cs)) t.0 t.1 (parse_signed_plus own w64 (c ∷ cs) r h (eqb-true c 43 f))
    by false false e f =
        let t = tested (2 ^ 63 - 1) (c ∷ cs) (number_of (c ∷ cs) < 2 ^ 63) (below _) (above _) in
        told r (are_digits_up_to (2 ^ 63 - 1) (c ∷ cs)) _ (pos (number_of (c ∷ cs))) t.0 t.1 (parse_signed_plain own w64 (c ∷ cs) r h (eqb-false c 43 f) (eqb-false c 45 e))
