-- Decimal texts: an optional sign, and digits with at most one point among them (the decimal values of XBRL 2.1,
-- `xs:decimal` of XML Schema).
use Rattle.std.specs.Prelude.{◌≡◌, ◌≢◌, ℕ, ℤ, pos, neg_ℤ, ◌+◌, ◌<◌, ◌⊎◌, ◌++◌, List, [], Bool, true, false, length, replicate, codes}
use Rattle.xc_decimal.specs.Digits.{AreDigits, number_of}

-- a sign: `-` for a negative number, `+` or nothing for another
abbrev pub IsSign : Bool → List ℕ → Type 0
IsSign true sign = sign ≡ codes "-"
IsSign false sign = (sign ≡ []) ⊎ (sign ≡ codes "+")

-- what stands behind the whole part: nothing, or a point and the digits of the fraction part
abbrev pub IsTail : List ℕ → List ℕ → Type 0
IsTail tail fraction = ((tail ≡ []) × (fraction ≡ [])) ⊎ (tail ≡ codes "." ++ fraction)

-- the text is a sign, the digits of the whole part, and those of the fraction part behind a point; there is a digit
pub record HasParts (text : List ℕ) (negative : Bool) (whole fraction : List ℕ) : Type 0 where
  pub sign : List ℕ
  pub tail : List ℕ
  pub text_is : text ≡ sign ++ (whole ++ tail)
  pub is_sign : IsSign negative sign
  pub is_tail : IsTail tail fraction
  pub whole_digits : AreDigits whole
  pub fraction_digits : AreDigits fraction
  pub some : 0 < length whole + length fraction

-- a number, or its negative
abbrev pub signed : Bool → ℕ → ℤ
signed false n = pos n
signed true n = neg_ℤ (pos n)

-- the text spells digits / 10 ^ places: the places are what is left of the fraction part without its trailing zeros, the
-- digits are the number that is left without its point
pub record Spells (text : List ℕ) (digits : ℤ) (places : ℕ) : Type 0 where
  pub negative : Bool
  pub whole : List ℕ
  pub kept : List ℕ
  pub zeros : ℕ
  pub parts : HasParts text negative whole (kept ++ replicate zeros 48)
  pub last : (front : List ℕ) → kept ≢ front ++ codes "0"
  pub digits_are : digits ≡ signed negative (number_of (whole ++ kept))
  pub places_are : places ≡ length kept

-- the text is no decimal text
abbrev pub SpellsNothing : List ℕ → Type 0
SpellsNothing text = (digits : ℤ) (places : ℕ) → ¬ Spells text digits places
