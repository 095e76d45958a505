-- What follows from the definitions for all texts and numbers.
use Rattle.std.specs.Prelude.{◌+◌, ◌++◌, length, replicate, ◌≡◌, ◌↔◌, ℕ, ℤ, List, Some}
use Rattle.xc_model.specs.Fraction.{SameNumber}
use Rattle.xc_model.specs.Ratio.{Ratio}
use Rattle.xc_decimal.specs.Decimals.{Spells, signed}
use Rattle.xc_decimal.specs.Digits.{number_of}
use Rattle.xc_decimal.specs.Reading.{digits_of}
use Rattle.xc_decimal.specs.Shortest.{Shortest, decimal_number, tenths}
use Rattle.xc_decimal.specs.Spelling.{spelling}

-- a text spells these digits and places exactly where they are read from it: so it spells one number in one way at most
abbrev pub IsReadAsSpelled : Type 0
IsReadAsSpelled = (text : List ℕ) (digits : ℤ) (places : ℕ) → Spells text digits places ↔ (digits_of text ≡ Some (digits, places))

-- what a text spells is the number of all its digits, over ten for each digit behind the point
abbrev pub SpellsItsNumber : Type 0
SpellsItsNumber = (text : List ℕ) (digits : ℤ) (places : ℕ) (s : Spells text digits places)
    → SameNumber (tenths digits places) (tenths (signed s.negative (number_of (s.whole ++ (s.kept ++ replicate s.zeros 48)))) (length s.kept + s.zeros))

-- decimal numbers are the same number exactly where they are equal
abbrev pub HasOneShortest : Type 0
HasOneShortest = (d e : Shortest) → SameNumber (decimal_number d) (decimal_number e) ↔ (d ≡ e)

-- two fractions have different spellings
abbrev pub HasOneSpelling : Type 0
HasOneSpelling = (f g : Ratio) → spelling f ≡ spelling g → f ≡ g
