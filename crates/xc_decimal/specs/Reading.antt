-- The digits and places of a decimal text, as a function that computes.
use Rattle.std.specs.Prelude.{ℕ, ℤ, ◌+◌, ◌==◌, ◌&&◌, ◌||◌, ◌++◌, List, [], ◌∷◌, Bool, false, nat_lt, length, reverse, Option, Some, None, if◌then◌else◌}
use Rattle.std.specs.List.{list_all, before_first, after_first}
use Rattle.std.specs.Char.{is_ascii_digit}
use Rattle.xc_decimal.specs.Digits.{number_of}
use Rattle.xc_decimal.specs.Decimals.{signed}

-- the text begins with `-`
abbrev pub is_negative : List ℕ → Bool
is_negative [] = false
is_negative (c ∷ cs) = c == 45

-- the text without the sign that it begins with
abbrev pub unsigned : List ℕ → List ℕ
unsigned [] = []
unsigned (c ∷ cs) = if (c == 43) || (c == 45) then cs else c ∷ cs

-- a point
abbrev pub is_point : ℕ → Bool
is_point c = c == 46

-- digits on both sides of the point, and on one of them at least
abbrev pub are_parts : List ℕ → List ℕ → Bool
are_parts whole fraction = list_all is_ascii_digit whole && list_all is_ascii_digit fraction && nat_lt 0 (length whole + length fraction)

-- without the zeros at the front
abbrev pub without_zeros : List ℕ → List ℕ
without_zeros [] = []
without_zeros (c ∷ cs) = if c == 48 then without_zeros cs else c ∷ cs

-- without the zeros at the end
abbrev pub trimmed : List ℕ → List ℕ
trimmed digits = reverse (without_zeros (reverse digits))

-- the digits and places of these parts
abbrev pub joined : Bool → List ℕ → List ℕ → ℤ × ℕ
joined negative whole kept = (signed negative (number_of (whole ++ kept)), length kept)

-- the same, where the parts are made of digits
abbrev pub of_parts : Bool → List ℕ → List ℕ → Option (ℤ × ℕ)
of_parts negative whole fraction = if are_parts whole fraction then Some (joined negative whole (trimmed fraction)) else None

-- the digits and places of a decimal text
abbrev pub digits_of : List ℕ → Option (ℤ × ℕ)
digits_of text = of_parts (is_negative text) (before_first is_point (unsigned text)) (after_first is_point (unsigned text))
