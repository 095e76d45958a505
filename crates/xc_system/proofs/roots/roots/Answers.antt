use Rattle.std.proofs.Common.{rules, ◌≡◌, length, arith}
use Rattle.xc_system.proofs.Joins.{joined_start}
use Rattle.xc_system.proofs.roots.roots.Goals as goal

pub loop-i-init : goal.loop-i-init
loop-i-init c =
    let e : c.as_mut_slice-all.result.now ≡ c.loop-p.up.items = search rules in
    let i = c.loop-p.invariant in
    record {
      length = rw e (omega arith);
      joined = joined_start c.args.equations.now c.as_mut_slice-all.result.now (rw e (λ q l. i.own q (omega arith)));
    }
