use Rattle.std.proofs.Common.{rules}
use Rattle.std.specs.Prelude.{FitsSigned, unsigned_abs}
use Rattle.std.specs.Int.{w128, IsGcd}
use Rattle.std.proofs.lemmas.Int.{to_z-of_z}
use Rattle.xc_model.proofs.Integers.{unsigned_abs_some}
use Rattle.xc_frac.proofs.ClearedTerms.{gcd_narrow, gcd_some}
use Rattle.xc_frac.proofs.integers.divisor.Goals as goal
use Rattle.xc_frac.proofs.integers.divisor.Goals.{After-gcd-g}

gcd_is : (c : After-gcd-g) → IsGcd (unsigned_abs c.args.num) (unsigned_abs c.args.den) c.gcd-g.result
gcd_is c =
    let n = c.ranges.num in
    let d = c.ranges.den in
    rw (simp to_z-of_z at c.unsigned_abs.ensures.value, simp to_z-of_z at c.unsigned_abs-2.ensures.value) at c.gcd-g.ensures

pub with_sign-requires-clause-some : goal.with_sign-requires-clause-some
with_sign-requires-clause-some c = gcd_some _ _ _ (unsigned_abs_some c.args.den c.requires.some) (gcd_is c)

pub with_sign-requires-clause-narrow : goal.with_sign-requires-clause-narrow
with_sign-requires-clause-narrow c = gcd_narrow _ _ _ (unsigned_abs_some c.args.den c.requires.some) c.requires.den_narrow (gcd_is c)

pub returns-clause-gcd : goal.returns-clause-gcd
returns-clause-gcd c =
    let n = c.ranges.num in
    let d = c.ranges.den in
    let s : FitsSigned w128 c.with_sign.result = search rules in
    let gcd = rw (simp to_z-of_z at c.unsigned_abs.ensures.value, simp to_z-of_z at c.unsigned_abs-2.ensures.value) at c.gcd-g.ensures in
    simp to_z-of_z (rw c.with_sign.ensures.size gcd)
