-- The number of digits behind a number: it grows with each digit.
use Rattle.std.proofs.Common.{◌≡◌, ℕ, ◌+◌, ◌*◌, ◌-◌, ◌<◌, ◌≤◌, List, [], ◌∷◌, length, drop, get_or, arith}
use Rattle.std.proofs.lemmas.List.{at_drop_more}
use Rattle.xc_decimal.specs.Digits.{behind}

pub behind-grows : (n : ℕ) (digits : List ℕ) → n ≤ behind n digits
behind-grows n [] = omega arith
behind-grows n (d ∷ ds) = omega (arith, behind-grows (10 * n + (d - 48)) ds)

-- one digit on
pub behind-next : (n : ℕ) (digits : List ℕ) (i d : ℕ) → i < length digits → behind n (drop i digits) ≡ behind (10 * n + (get_or digits i d - 48)) (drop (i + 1) digits)
behind-next n digits i d h = at_drop_more (behind n) digits i d h

-- a number that has grown too great stays so
pub too_great : (most n r : ℕ) (digits : List ℕ) (i d : ℕ) → i < length digits → behind n (drop i digits) ≡ r → ¬ (10 * n + (get_or digits i d - 48) ≤ most) → r ≤ most → ⊥
too_great most n r digits i d h e more within =
    let grown = behind-grows (10 * n + (get_or digits i d - 48)) (drop (i + 1) digits) in
    more (omega (arith, grown, behind-next n digits i d h, e))
