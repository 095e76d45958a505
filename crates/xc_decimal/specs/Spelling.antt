-- How a fraction is written: the numerator, and where it is not 1 the denominator behind `/`, both in lowest terms.
use Rattle.std.specs.Prelude.{◌≡◌, ◌≢◌, ℕ, ℤ, ◌==◌, ◌++◌, ◌<◌, ◌^◌, List, [], ◌∷◌, Bool, false, length, codes, decimal, unsigned_abs, Option, Some, None, if◌then◌else◌}
use Rattle.std.specs.List.{list_all}
use Rattle.std.specs.Char.{is_ascii_digit}
use Rattle.std.specs.Fmt.{signed_decimal}
use Rattle.xc_model.specs.Ratio.{Ratio}

-- what stands behind the numerator
abbrev pub denominator_text : ℕ → List ℕ
denominator_text den = if den == 1 then [] else codes "/" ++ decimal den

-- the one spelling of a fraction
abbrev pub spelling : Ratio → List ℕ
spelling f = signed_decimal f.num ++ denominator_text (unsigned_abs f.den)

-- the sign behind a numerator that has a denominator
abbrev pub ends_numerator : ℕ → Bool
ends_numerator c = c == 47

-- the text without the `-` that it begins with
abbrev pub without_minus : List ℕ → List ℕ
without_minus [] = []
without_minus (c ∷ cs) = if c == 45 then cs else c ∷ cs

-- digits without leading zeros: `0` alone, or digits that begin with another
abbrev pub is_numeral : List ℕ → Bool
is_numeral [] = false
is_numeral (c ∷ cs) = if c == 48 then length cs == 0 else list_all is_ascii_digit (c ∷ cs)

-- the number that the text spells as `decimal` writes it, where it fits
abbrev pub IsNaturalOf : List ℕ → Option ℕ → Type 0
IsNaturalOf text (Some n) = (n < 2 ^ 127) × (text ≡ decimal n)
IsNaturalOf text None = (n : ℕ) → n < 2 ^ 127 → text ≢ decimal n

-- the same with a sign
abbrev pub IsIntegerOf : List ℕ → Option ℤ → Type 0
IsIntegerOf text (Some z) = (unsigned_abs z < 2 ^ 127) × (text ≡ signed_decimal z)
IsIntegerOf text None = (z : ℤ) → unsigned_abs z < 2 ^ 127 → text ≢ signed_decimal z
