-- Whole numbers with a sign, as they are written.
use Rattle.std.proofs.Common.{◌≡◌, ◌≢◌, ℕ, zero, suc, ◌<◌, ◌^◌, ℤ, pos, negsuc, List, [], ◌∷◌, Bool, true, false, arith, refl, sym, ◌∙◌, ap, Some, None}
use Rattle.std.specs.Prelude.{decimal, unsigned_abs}
use Rattle.std.specs.Fmt.{signed_decimal}
use Rattle.std.proofs.Math.Dec.{eqb}
use Rattle.std.proofs.lemmas.Bool.{and_parts, eqb-true, ne_eqb, cond-true, cond-false, false≢true}
use Rattle.std.proofs.lemmas.Int.{ints}
use Rattle.xc_decimal.specs.Decimals.{signed}
use Rattle.xc_decimal.specs.Digits.{AreDigits}
use Rattle.xc_decimal.specs.Reading.{is_negative}
use Rattle.xc_decimal.specs.Spelling.{without_minus, IsNaturalOf, IsIntegerOf}
use Rattle.xc_decimal.proofs.Narrow.{digit_bounds, size_of_signed}
use Rattle.xc_decimal.proofs.Numerals.{few, decimal_digits, decimal_unique}

-- below 0
is_below : ℤ → Bool
is_below (pos n) = false
is_below (negsuc n) = true

-- digits have no minus
record NoMinus (text : List ℕ) : Type 0 where
  positive : is_negative text ≡ false
  whole : without_minus text ≡ text

digits_no_minus : (digits : List ℕ) → AreDigits digits → NoMinus digits
digits_no_minus [] all = record { positive = refl; whole = refl }
digits_no_minus (c ∷ cs) all =
    let bounds = digit_bounds c (and_parts _ _ all).0 in
    let other : eqb c 45 ≡ false = ne_eqb c 45 (λ e. omega arith) in
    record { positive = other; whole = cond-false (eqb c 45) cs (c ∷ cs) other }

-- the parts of a whole number that is written
record IsInteger (z : ℤ) (text : List ℕ) : Type 0 where
  sign : is_negative text ≡ is_below z
  digits : without_minus text ≡ decimal (unsigned_abs z)

integer_parts : (z : ℤ) → unsigned_abs z < 2 ^ 127 → IsInteger z (signed_decimal z)
unfolding is_below
integer_parts (pos n) small = let bare = digits_no_minus (decimal n) (decimal_digits n (few n small)) in record { sign = bare.positive; digits = bare.whole }
integer_parts (negsuc n) small = record { sign = refl; digits = refl }

zero_not_below : (z : ℤ) → unsigned_abs z ≡ 0 → is_below z ≡ false
unfolding is_below
zero_not_below (pos n) e = refl
zero_not_below (negsuc n) e = absurd (omega (arith, e))

-- what is no number without a sign is none with one
pub not_integer : (text digits : List ℕ) → digits ≡ without_minus text → IsNaturalOf digits None → IsIntegerOf text None
not_integer text digits e none z small is =
    let parts = integer_parts z small in
    none (unsigned_abs z) small (e ∙ ap without_minus is ∙ parts.digits)

-- 0 has no minus
pub not_minus_zero : (text digits : List ℕ) (n : ℕ) → true ≡ is_negative text → digits ≡ without_minus text → n ≡ 0 → IsNaturalOf digits (Some n) → IsIntegerOf text None
not_minus_zero text digits n negative e none natural z small is =
    let parts = integer_parts z small in
    let same : n ≡ unsigned_abs z = decimal_unique n (unsigned_abs z) (few n natural.0) (few _ small) (sym natural.1 ∙ e ∙ ap without_minus is ∙ parts.digits) in
    false≢true (sym (zero_not_below z (sym same ∙ none)) ∙ sym parts.sign ∙ sym (ap is_negative is) ∙ sym negative)

written_as : (negative : Bool) (digits text : List ℕ) (n : ℕ) → is_negative text ≡ negative → without_minus text ≡ digits → digits ≡ decimal n → (negative ≡ true → n ≢ 0) → text ≡ signed_decimal (signed negative n)
written_as false digits [] n sign rest is some = rest ∙ is
written_as true digits [] n sign rest is some = absurd (false≢true sign)
written_as false digits (c ∷ cs) n sign rest is some = sym (cond-false (eqb c 45) cs (c ∷ cs) sign) ∙ rest ∙ is
written_as true digits (c ∷ cs) zero sign rest is some = absurd (some refl refl)
written_as true digits (c ∷ cs) (suc n) sign rest is some =
    let tail : cs ≡ decimal (suc n) = sym (cond-true (eqb c 45) cs (c ∷ cs) sign) ∙ rest ∙ is in
    (λ i. eqb-true c 45 sign i ∷ tail i)

-- a number with its sign
pub integer_is : (negative : Bool) (digits text : List ℕ) (n : ℕ) → negative ≡ is_negative text → digits ≡ without_minus text → IsNaturalOf digits (Some n) → (negative ≡ true → n ≢ 0) → IsIntegerOf text (Some (signed negative n))
integer_is negative digits text n sign rest natural some =
    (omega (arith, natural.0, size_of_signed negative n), written_as negative digits text n (sym sign) (sym rest) natural.1 some)

below_same : (y z : ℤ) → is_below y ≡ is_below z → unsigned_abs y ≡ unsigned_abs z → y ≡ z
unfolding is_below
below_same (pos m) (pos n) sign size = ap pos size
below_same (pos m) (negsuc n) sign size = absurd (false≢true sign)
below_same (negsuc m) (pos n) sign size = absurd (false≢true (sym sign))
below_same (negsuc m) (negsuc n) sign size = omega (arith, ints, size)

-- two whole numbers are not written alike
pub signed_unique : (y z : ℤ) → unsigned_abs y < 2 ^ 127 → unsigned_abs z < 2 ^ 127 → signed_decimal y ≡ signed_decimal z → y ≡ z
signed_unique y z p q e =
    let left = integer_parts y p in
    let right = integer_parts z q in
    below_same y z (sym left.sign ∙ ap is_negative e ∙ right.sign)
    (decimal_unique (unsigned_abs y) (unsigned_abs z) (few _ p) (few _ q) (sym left.digits ∙ ap without_minus e ∙ right.digits))
