-- A text spells the digits and places that are read from it, and no others.
use Rattle.std.proofs.Common.{◌≡◌, ℕ, ℤ, ◌+◌, ◌<◌, List, ◌++◌, Bool, true, false, length, replicate, refl, sym, ◌∙◌, ap, subst, Some, None, cond}
use Rattle.std.specs.Prelude.{Result, Ok, Err}
use Rattle.std.specs.List.{list_all, before_first, after_first}
use Rattle.std.specs.Char.{is_ascii_digit}
use Rattle.std.proofs.lemmas.Bool.{and_parts, and_from, ltb-true, lt-ltb, cond-true}
use Rattle.std.proofs.lemmas.List.Folds.{list_all-append}
use Rattle.std.proofs.lemmas.Option.{none-some}
use Rattle.xc_decimal.specs.Answers.{IsReading, Answers}
use Rattle.xc_decimal.specs.Decimals.{Spells, HasParts}
use Rattle.xc_decimal.specs.Laws.{IsReadAsSpelled}
use Rattle.xc_decimal.specs.Digits.{AreDigits}
use Rattle.xc_decimal.specs.Reading.{digits_of, of_parts, are_parts, is_negative, unsigned, is_point, trimmed, joined}
use Rattle.xc_decimal.specs.Shortest.{Shortest}
use Rattle.xc_decimal.specs.declared.decimal.DecimalFault.{DecimalFault}
use Rattle.xc_decimal.specs.declared.decimal.DecimalFault.TheVariants.{NotDecimal, Wide}
use Rattle.xc_decimal.proofs.Parts.{signs_of, tails_of, bare_parts, signed_negative, signed_unsigned, before_is, after_is}
use Rattle.xc_decimal.proofs.Trimmed.{zeros_last, not_zero_last, kept_trimmed}

some_parts : (b : Bool) (v w : ℤ × ℕ) → cond b (Some v) None ≡ Some w → (b ≡ true) × (v ≡ w)
some_parts true v w e = (refl, cc)
some_parts false v w e = absurd (none-some w e)

-- parts of digits, with a digit at least
record ArePartsOf (whole fraction : List ℕ) : Type 0 where
  whole_digits : AreDigits whole
  fraction_digits : AreDigits fraction
  some : 0 < length whole + length fraction

parts_tested : (whole fraction : List ℕ) → are_parts whole fraction ≡ true → ArePartsOf whole fraction
parts_tested whole fraction e =
    let both = and_parts _ _ e in
    let digits = and_parts _ _ both.0 in
    record { whole_digits = digits.0; fraction_digits = digits.1; some = ltb-true 0 (length whole + length fraction) both.1 }

parts_pass : (whole fraction : List ℕ) → AreDigits whole → AreDigits fraction → 0 < length whole + length fraction → are_parts whole fraction ≡ true
parts_pass whole fraction left right some =
    and_from _ _ (and_from _ _ left right) (lt-ltb 0 (length whole + length fraction) some)

-- what is read is spelled so
pub sound : (text : List ℕ) (digits : ℤ) (places : ℕ) → digits_of text ≡ Some (digits, places) → Spells text digits places
sound text digits places e =
    let whole : List ℕ = before_first is_point (unsigned text) in
    let fraction : List ℕ = after_first is_point (unsigned text) in
    let read = some_parts (are_parts whole fraction) (joined (is_negative text) whole (trimmed fraction)) (digits, places) e in
    let parts = parts_tested whole fraction read.0 in
    let signs = signs_of text in
    let tails = tails_of (unsigned text) in
    let zeros = zeros_last fraction in
    let all : HasParts text (is_negative text) whole fraction = record {
      sign = signs.sign;
      tail = tails.tail;
      text_is = signs.text_is ∙ ap (λ x. signs.sign ++ x) tails.text_is;
      is_sign = signs.is_sign;
      is_tail = tails.is_tail;
      whole_digits = parts.whole_digits;
      fraction_digits = parts.fraction_digits;
      some = parts.some;
    } in
    record {
      negative = is_negative text;
      whole = whole;
      kept = trimmed fraction;
      zeros = zeros.count;
      parts = subst (HasParts text (is_negative text) whole) zeros.is all;
      last = not_zero_last fraction;
      digits_are = ap (λ (p : ℤ × ℕ). p.0) (sym read.1);
      places_are = ap (λ (p : ℤ × ℕ). p.1) (sym read.1);
    }

-- what is spelled is read
pub complete : (text : List ℕ) (digits : ℤ) (places : ℕ) → Spells text digits places → digits_of text ≡ Some (digits, places)
complete text digits places s =
    let p = s.parts in
    let fraction : List ℕ = s.kept ++ replicate s.zeros 48 in
    let bare = bare_parts s.whole p.tail fraction p.whole_digits p.is_tail in
    let negative : is_negative text ≡ s.negative = ap is_negative p.text_is ∙ signed_negative s.negative p.sign (s.whole ++ p.tail) p.is_sign bare in
    let rest : unsigned text ≡ s.whole ++ p.tail = ap unsigned p.text_is ∙ signed_unsigned s.negative p.sign (s.whole ++ p.tail) p.is_sign bare in
    let before : before_first is_point (unsigned text) ≡ s.whole = ap (before_first is_point) rest ∙ before_is s.whole p.tail fraction p.whole_digits p.is_tail in
    let after : after_first is_point (unsigned text) ≡ fraction = ap (after_first is_point) rest ∙ after_is s.whole p.tail fraction p.whole_digits p.is_tail in
    let parts : digits_of text ≡ of_parts s.negative s.whole fraction = λ i. of_parts (negative i) (before i) (after i) in
    let tested : of_parts s.negative s.whole fraction ≡ Some (joined s.negative s.whole (trimmed fraction)) =
    cond-true (are_parts s.whole fraction) (Some (joined s.negative s.whole (trimmed fraction))) None (parts_pass s.whole fraction p.whole_digits p.fraction_digits p.some) in
    let kept : trimmed fraction ≡ s.kept = kept_trimmed s.kept s.zeros s.last in
    let same : joined s.negative s.whole s.kept ≡ (digits, places) = λ i. (sym s.digits_are i, sym s.places_are i) in
    parts ∙ tested ∙ ap (λ k. Some (joined s.negative s.whole k)) kept ∙ ap (λ (q : ℤ × ℕ). Some q) same

-- digits without the zeros at their end are digits
pub trimmed_digits : (digits : List ℕ) → AreDigits digits → AreDigits (trimmed digits)
trimmed_digits digits all =
    let zeros = zeros_last digits in
    (and_parts _ _ (sym (list_all-append is_ascii_digit (trimmed digits) (replicate zeros.count 48)) ∙ sym (ap (list_all is_ascii_digit) zeros.is) ∙ all)).0

-- the test of parts tells that they are digits
pub fraction_tested : (whole fraction : List ℕ) → are_parts whole fraction ≡ true → AreDigits fraction
fraction_tested whole fraction e = (parts_tested whole fraction e).fraction_digits

pub read_as_spelled : IsReadAsSpelled
read_as_spelled text digits places = (complete text digits places, sound text digits places)

-- the answer of a text's digits and places is its reading
pub is_reading : (text : List ℕ) (r : Result Shortest DecimalFault) → Answers r (digits_of text) → IsReading text r
is_reading text (Ok d) e = sound text d.digits d.places e
is_reading text (Err NotDecimal) e = λ digits places s. let two = sym e ∙ complete text digits places s in (cc)
is_reading text (Err Wide) e = record { digits = e.0.0; places = e.0.1; spelled = sound text e.0.0 e.0.1 e.1.0; wide = e.1.1 }
