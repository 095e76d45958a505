-- Texts of digits, and the numbers that they spell. A text is a list of characters' numbers: 48 is the digit 0.
use Rattle.std.specs.Prelude.{◌≡◌, ℕ, ◌+◌, ◌*◌, ◌-◌, List, true, fold}
use Rattle.std.specs.List.{list_all}
use Rattle.std.specs.Char.{is_ascii_digit}

-- nothing but digits from 0 to 9
abbrev pub AreDigits : List ℕ → Type 0
AreDigits text = list_all is_ascii_digit text ≡ true

-- the number that digits spell behind those of n
abbrev pub behind : ℕ → List ℕ → ℕ
behind n digits = fold (λ m digit. 10 * m + (digit - 48)) n digits

-- the number that digits spell
abbrev pub number_of : List ℕ → ℕ
number_of digits = behind 0 digits
