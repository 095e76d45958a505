use Rattle.std.proofs.Common.{subst}
use Rattle.xc_joint.proofs.EndsSums.{ends_sums, first_is}
use Rattle.xc_joint.specs.Steps.Empties.{IsEnded, IsRefutedEmpty}
use Rattle.xc_joint.specs.declared.empties.Ended.{Ended}
use Rattle.xc_joint.proofs.settling.settle_one.Goals as goal

pub returns-in-Refuted-clause-found : goal.returns-in-Refuted-clause-found
returns-in-Refuted-clause-found c =
    let s = c.args.system.now in
    let part = c.args.component.now in
    let found = c.in-Some.found in
    let h : IsRefutedEmpty s part found c.in-Refuted.refutation = subst (λ (e : Ended). IsEnded s part found e) c.in-Refuted.is c.in_ok-refutation.ensures in
    record {
      contradicts = h.contradicts;
      uncaused = h.uncaused;
      empty = first_is s part c.in-Refuted.refutation found.low found.high h.own;
      sums = ends_sums s part c.in-Refuted.refutation found.low found.high h.own h.constant;
    }
