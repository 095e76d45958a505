use Rattle.std.proofs.Common.{◌<◌, ◌∙◌, length, arith}
use Rattle.xc_elements.proofs.ScopeLaws.{leave_more}
use Rattle.xc_elements.proofs.scope.Scope.leave.Goals as goal

pub loop-self-preserved : goal.loop-self-preserved
loop-self-preserved c =
    let inside : c.args.outside < length c.loop-self.self = omega (arith, c.loop-self-test.true, c.len.ensures) in
    leave_more c.loop-self.self c.leave_nearest.new.self c.args.outside inside c.leave_nearest.ensures ∙ c.loop-self.invariant
