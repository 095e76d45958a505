-- Powers of ten that fit 128 bits.
use Rattle.std.proofs.Common.{ℕ, ◌^◌, ◌<◌, ◌≤◌, arith, lit<}
use Rattle.std.proofs.Math.Nat.{pow-le-pow_right, one-le-pow}

pub power_narrow : (places : ℕ) → places ≤ 37 → 10 ^ places < 2 ^ 126
power_narrow places h =
    let most : 10 ^ places ≤ 10 ^ 37 = pow-le-pow_right (lit< tt) h in
    let last : 10 ^ 37 < 2 ^ 126 = lit< tt in
    omega (arith, most, last)

pub power_positive : (places : ℕ) → 0 < 10 ^ places
power_positive places = one-le-pow places 10 (lit< tt)
