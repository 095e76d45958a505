use Rattle.std.proofs.Common.{◌≡◌, ap, pos, negsuc, refl, to_z, rules}
use Rattle.std.specs.Prelude.{◌<ℤ◌}
use Rattle.std.specs.Int.{w128}
use Rattle.std.proofs.lemmas.Int.{to_z-of_z}
use Rattle.xc_frac.proofs.ClearedTerms.{cleared_zero, cleared_by_one, cleared_unit}
use Rattle.xc_frac.proofs.integers.cleared.Goals as goal

pub returns-then-num-eq0-clause-cleared : goal.returns-then-num-eq0-clause-cleared
returns-then-num-eq0-clause-cleared c =
    let n = c.ranges.num in
    let d = c.ranges.den in
    let none : c.args.num ≡ pos 0 = simp to_z-of_z at (ap (to_z w128) c.if-num-eq0.true) in
    cleared_zero c.args.num c.args.den none c.requires.some

pub returns-then-den-eq1-clause-cleared : goal.returns-then-den-eq1-clause-cleared
returns-then-den-eq1-clause-cleared c =
    let n = c.ranges.num in
    let d = c.ranges.den in
    let one : c.args.den ≡ pos 1 = simp to_z-of_z at (ap (to_z w128) c.if-den-eq1.true) in
    simp to_z-of_z (cleared_by_one c.args.num c.args.den one)

pub returns-then-num-eq1-clause-cleared : goal.returns-then-num-eq1-clause-cleared
returns-then-num-eq1-clause-cleared c =
    let n = c.ranges.num in
    let d = c.ranges.den in
    let one : c.args.num ≡ pos 1 = simp to_z-of_z at (ap (to_z w128) c.if-num-eq1.true) in
    let above : pos 0 <ℤ c.args.den = search rules in
    simp to_z-of_z (cleared_unit c.args.num c.args.den (pos 1) one refl above)

pub returns-then-num-eqminus1-clause-cleared : goal.returns-then-num-eqminus1-clause-cleared
returns-then-num-eqminus1-clause-cleared c =
    let n = c.ranges.num in
    let d = c.ranges.den in
    let one : c.args.num ≡ negsuc 0 = simp to_z-of_z at (ap (to_z w128) c.if-num-eqminus1.true) in
    let above : pos 0 <ℤ c.args.den = search rules in
    simp to_z-of_z (cleared_unit c.args.num c.args.den (negsuc 0) one refl above)
