-- Powers of ten are positive.
use Rattle.std.proofs.Common.{ℤ, pos, negsuc, ◌*◌, ◌<◌, arith, lit<}
use Rattle.std.proofs.Math.Nat.{one-le-pow}
use Rattle.xc_interval.specs.Admits.{ten_to}

pub ten_to_positive : (d : ℤ) → 0 < ten_to d
ten_to_positive (pos d) = one-le-pow d 10 (lit< tt)
ten_to_positive (negsuc d) = lit< tt

pub twice_positive : (d : ℤ) → 0 < 2 * ten_to d
twice_positive d = omega (arith, ten_to_positive d)
