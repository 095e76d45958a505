use Rattle.std.proofs.Common.{ap, inl, inr, to_z}
use Rattle.std.specs.Int.{w128}
use Rattle.std.proofs.lemmas.Int.{to_z-of_z}
use Rattle.xc_frac.proofs.ClearedTerms.{cleared_equal, cleared_one}
use Rattle.xc_frac.proofs.integers.cofactors.Goals as goal

pub returns-then-left-right-clause-cleared : goal.returns-then-left-right-clause-cleared
returns-then-left-right-clause-cleared c =
    let b = c.ranges.left in
    let d = c.ranges.right in
    cleared_equal c.args.left c.args.right (simp to_z-of_z at (ap (to_z w128) c.if-left-right.true))

pub returns-then-right-eq1-clause-cleared : goal.returns-then-right-eq1-clause-cleared
returns-then-right-eq1-clause-cleared c =
    let b = c.ranges.left in
    let d = c.ranges.right in
    simp to_z-of_z (cleared_one c.args.left c.args.right c.requires.right
    (elim c.if-right-eq1.either [
      | inl e ↦ inl (simp to_z-of_z at (ap (to_z w128) e))
      | inr e ↦ inr (simp to_z-of_z at (ap (to_z w128) e.1))
    ]))
