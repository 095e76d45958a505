-- The table on worked facts.
use Rattle.std.proofs.Common.{pos, negsuc, Some, None, arith, refl, lit<, lit≤}
use Rattle.std.proofs.lemmas.Int.{ints}
use Rattle.xc_interval.specs.Admits.{Admits}
use Rattle.xc_interval.specs.declared.mode.Mode.TheVariants.{Rounding, Truncation}

-- 50 to the unit, rounded, may stand for 49.5, and not for 49.4
low_end : Admits Rounding (Some (pos 0)) (pos 50) 0 (pos 99) 2
low_end = lit≤ tt

below_low_end : Admits Rounding (Some (pos 0)) (pos 50) 0 (pos 247) 5 → ⊥
below_low_end h = omega (arith, h)

-- cut off, it may stand for 50, and not for 51
value_itself : Admits Truncation (Some (pos 0)) (pos 50) 0 (pos 50) 1
value_itself = (omega (arith, ints), lit< tt)

high_end : Admits Truncation (Some (pos 0)) (pos 50) 0 (pos 51) 1 → ⊥
high_end h = omega (arith, h.1)

-- 0 cut off may stand for 9/10, and not for 1
near_zero : Admits Truncation (Some (pos 0)) (pos 0) 0 (pos 9) 10
near_zero = lit< tt

one_from_zero : Admits Truncation (Some (pos 0)) (pos 0) 0 (pos 1) 1 → ⊥
one_from_zero h = omega (arith, h)

-- 2 to the tens, rounded, may stand for -3
of_tens : Admits Rounding (Some (negsuc 0)) (pos 2) 0 (negsuc 2) 1
of_tens = lit≤ tt

-- 1.5 without decimals is 3/2
exact_ : Admits Rounding None (pos 15) 1 (pos 3) 2
exact_ = refl
