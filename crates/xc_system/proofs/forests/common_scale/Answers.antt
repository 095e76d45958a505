use Rattle.std.proofs.Common.{arith}
use Rattle.xc_system.proofs.forests.common_scale.Goals as goal

pub returns-clause-some : goal.returns-clause-some
returns-clause-some c =
    let i = c.loop-point.invariant in
    record {
      positive = i.positive;
      tells = λ m. (λ h. (((i.tells m).0 h).0, λ k d l. ((i.tells m).0 h).1 k d (omega arith)), λ h. (i.tells m).1 (h.0, λ k d l. h.1 k d (omega arith)));
    }
