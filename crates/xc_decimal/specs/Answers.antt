-- What is answered for a text.
use Rattle.std.specs.Prelude.{◌≡◌, ℕ, ℤ, List, Option, Some, None, Result, Ok, Err}
use Rattle.xc_decimal.specs.Decimals.{Spells, SpellsNothing}
use Rattle.xc_decimal.specs.Shortest.{Shortest, IsWideDecimal}
use Rattle.xc_decimal.specs.declared.decimal.DecimalFault.{DecimalFault}
use Rattle.xc_decimal.specs.declared.decimal.DecimalFault.TheVariants.{NotDecimal, Wide}

-- the text spells a wide number
pub record SpellsWide (text : List ℕ) : Type 0 where
  pub digits : ℤ
  pub places : ℕ
  pub spelled : Spells text digits places
  pub wide : IsWideDecimal digits places

-- the number that the text spells, or the fault that it has
abbrev pub IsReading : List ℕ → Result Shortest DecimalFault → Type 0
IsReading text (Ok d) = Spells text d.digits d.places
IsReading text (Err NotDecimal) = SpellsNothing text
IsReading text (Err Wide) = SpellsWide text

-- these digits and places are wide
abbrev pub IsWidePair : ℤ × ℕ → Type 0
IsWidePair p = IsWideDecimal p.0 p.1

-- the answer is of these digits and places, or of none
abbrev pub Answers : Result Shortest DecimalFault → Option (ℤ × ℕ) → Type 0
Answers (Ok d) o = o ≡ Some (d.digits, d.places)
Answers (Err NotDecimal) o = o ≡ None
Answers (Err Wide) o = (p : ℤ × ℕ) × ((o ≡ Some p) × IsWidePair p)

-- the decimal number of these digits and places, or none where they are wide
abbrev pub IsNarrowed : ℤ × ℕ → Option Shortest → Type 0
IsNarrowed p (Some d) = p ≡ (d.digits, d.places)
IsNarrowed p None = IsWidePair p
