-- The decimal number that a text spells, as a function that computes.
use Rattle.std.proofs.Common.{◌≡◌, ◌&&◌, ◌||◌, ◌==◌, ℕ, ℤ, ◌^◌, ◌%◌, List, Bool, true, false, not, nat_le, Option, Some, None, Result, Ok, Err, refl, arith}
use Rattle.std.specs.Prelude.{unsigned_abs}
use Rattle.std.proofs.lemmas.Bool.Decides.{nat_tests}
use Rattle.xc_decimal.specs.Reading.{digits_of}
use Rattle.xc_decimal.specs.Shortest.{Shortest, IsShortest}
use Rattle.xc_decimal.specs.declared.decimal.DecimalFault.{DecimalFault}
use Rattle.xc_decimal.specs.declared.decimal.DecimalFault.TheVariants.{NotDecimal, Wide}

-- not wide, and without a trailing zero among the places, as the digits of a text always are
abbrev pub fits : ℤ × ℕ → Bool
fits p = nat_le (unsigned_abs p.0) (2 ^ 126) && nat_le p.1 37 && (not (unsigned_abs p.0 % 10 == 0) || (p.1 == 0))

both_hold : (a b c : Bool) → (a && b && c) ≡ true → (a ≡ true) × (b ≡ true) × (c ≡ true)
both_hold true true true h = (refl, refl, refl)
both_hold true true false h = absurd (cc)
both_hold true false c h = absurd (cc)
both_hold false b c h = absurd (cc)

pub shortest_if : (p : ℤ × ℕ) → fits p ≡ true → IsShortest p.0 p.1
shortest_if p h =
    let all = both_hold (nat_le (unsigned_abs p.0) (2 ^ 126)) (nat_le p.1 37) (not (unsigned_abs p.0 % 10 == 0) || (p.1 == 0)) h in
    record {
      digits_narrow = grind (arith, nat_tests);
      places_narrow = grind (arith, nat_tests);
      shortest = λ e. grind (arith, nat_tests);
    }

-- the decimal number of these digits and places, where they fit
abbrev pub narrowed : (p : ℤ × ℕ) (b : Bool) → fits p ≡ b → Result Shortest DecimalFault
narrowed p true h = Ok (record { digits = p.0; places = p.1; shortest = shortest_if p h })
narrowed p false h = Err Wide

-- the decimal number of digits and places that were read
abbrev pub number_of_digits : Option (ℤ × ℕ) → Result Shortest DecimalFault
number_of_digits None = Err NotDecimal
number_of_digits (Some p) = narrowed p (fits p) refl

-- the decimal number that a text spells, or the fault that it has
abbrev pub reading : List ℕ → Result Shortest DecimalFault
reading text = number_of_digits (digits_of text)
