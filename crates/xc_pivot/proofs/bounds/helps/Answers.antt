use Rattle.std.proofs.Common.{rules}
use Rattle.std.specs.Int.{w128}
use Rattle.std.specs.Prelude.{FitsSigned}
use Rattle.std.proofs.lemmas.Int.{to_z-of_z}
use Rattle.xc_pivot.proofs.Beside.{positive_helps, negative_helps}
use Rattle.xc_pivot.proofs.bounds.helps.Goals as goal

pub returns-then-above-is_high : goal.returns-then-above-is_high
returns-then-above-is_high c n d o =
    let fits : FitsSigned w128 c.num-sign.result = search rules in
    simp to_z-of_z (positive_helps c.args.above c.args.is_high c.num-sign.result n c.if-above-is_high.true (c.num-sign.ensures.sign n d o))

pub returns-else-above-is_high : goal.returns-else-above-is_high
returns-else-above-is_high c n d o =
    let fits : FitsSigned w128 c.num-sign.result = search rules in
    simp to_z-of_z (negative_helps c.args.above c.args.is_high c.num-sign.result n c.if-above-is_high.false (c.num-sign.ensures.sign n d o))
