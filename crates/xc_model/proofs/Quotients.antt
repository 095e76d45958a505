-- Two fractions compare as their whole parts do, and where these are equal, as what is left.
use Rattle.std.proofs.Common.{◌≡◌, ℕ, ◌+◌, ◌*◌, ◌<◌, ◌≤◌, ◌/◌, ◌%◌, arith, ap}
use Rattle.std.proofs.lemmas.Nat.{div-add-mod', mod_below}
use Rattle.std.proofs.Math.Nat.{mul-lt-mul_of_pos_right, mul-le-mul_right}

-- a/b has a lesser whole part than c/d
pub less_by_quotient : (a b c d : ℕ) → 0 < b → 0 < d → a / b < c / d → a * d < c * b
less_by_quotient a b c d p q h =
    let e = div-add-mod' a b in
    let f = div-add-mod' c d in
    let top : a < (a / b + 1) * b = omega (arith, e, mod_below a b p) in
    let low : (a / b + 1) * (d * b) ≤ (c / d) * (d * b) = mul-le-mul_right (d * b) (let k : a / b + 1 ≤ c / d = omega arith in k) in
    let first : a * d < (a / b + 1) * b * d = mul-lt-mul_of_pos_right top q in
    let last : (c / d) * d * b ≤ c * b = mul-le-mul_right b (let k : (c / d) * d ≤ c = omega (arith, f) in k) in
    omega (arith, first, low, last)

-- where the whole parts are equal, a d and c b differ by what is left
pub left_over : (a b c d : ℕ) → a / b ≡ c / d → a * d + (c % d) * b ≡ c * b + (a % b) * d
left_over a b c d e =
    let f = ap (λ z. z * d) (div-add-mod' a b) in
    let g = ap (λ z. z * b) (div-add-mod' c d) in
    let h = ap (λ z. z * b * d) e in
    omega (arith, f, g, h)
