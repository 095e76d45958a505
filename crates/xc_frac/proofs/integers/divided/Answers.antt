use Rattle.std.proofs.Common.{◌≡◌, rules, arith, ap, pos, to_z}
use Rattle.std.specs.Prelude.{FitsSigned, ◌*ℤ◌}
use Rattle.std.specs.Int.{w128}
use Rattle.std.proofs.lemmas.Int.{to_z-of_z, ints}
use Rattle.xc_frac.proofs.ClearedTerms.{cleared_by_gcd}
use Rattle.xc_frac.proofs.integers.divided.Goals as goal

pub exact_quotient-requires-clause-divides : goal.exact_quotient-requires-clause-divides
exact_quotient-requires-clause-divides c =
    let n = c.ranges.num in
    let d = c.ranges.den in
    let s : FitsSigned w128 c.divisor-s.result = search rules in
    simp to_z-of_z (simp to_z-of_z at c.divisor-s.ensures.gcd).0

pub exact_quotient-requires-2-clause-divides : goal.exact_quotient-requires-2-clause-divides
exact_quotient-requires-2-clause-divides c =
    let n = c.ranges.num in
    let d = c.ranges.den in
    let s : FitsSigned w128 c.divisor-s.result = search rules in
    simp to_z-of_z (simp to_z-of_z at c.divisor-s.ensures.gcd).1

pub returns-clause-cleared : goal.returns-clause-cleared
returns-clause-cleared c =
    let n = c.ranges.num in
    let d = c.ranges.den in
    let s : FitsSigned w128 c.divisor-s.result = search rules in
    let p : FitsSigned w128 c.exact_quotient.result = search rules in
    let q : FitsSigned w128 c.exact_quotient-2.result = search rules in
    let above = simp to_z-of_z at c.divisor-s.ensures.above in
    let below = simp to_z-of_z at c.divisor-s.ensures.below in
    simp to_z-of_z (cleared_by_gcd _ _ _ _ _ c.requires.some (simp to_z-of_z at c.divisor-s.ensures.gcd) above below
    (simp to_z-of_z at c.exact_quotient.ensures.exact) (simp to_z-of_z at c.exact_quotient-2.ensures.exact))

pub returns-then-s-eq1-clause-cleared : goal.returns-then-s-eq1-clause-cleared
returns-then-s-eq1-clause-cleared c =
    let n = c.ranges.num in
    let d = c.ranges.den in
    let s : FitsSigned w128 c.divisor-s.result = search rules in
    let one : c.divisor-s.result ≡ pos 1 = simp to_z-of_z at (ap (to_z w128) c.if-s-eq1.true) in
    let above = simp to_z-of_z at c.divisor-s.ensures.above in
    let below = simp to_z-of_z at c.divisor-s.ensures.below in
    simp to_z-of_z (cleared_by_gcd c.args.num c.args.den c.divisor-s.result c.args.num c.args.den c.requires.some (simp to_z-of_z at c.divisor-s.ensures.gcd) above below
    (omega (arith, ints, ap (λ z. c.args.num *ℤ z) one)) (omega (arith, ints, ap (λ z. c.args.den *ℤ z) one)))
