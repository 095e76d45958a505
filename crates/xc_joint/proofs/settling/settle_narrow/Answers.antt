use Rattle.std.proofs.Common.{subst}
use Rattle.xc_joint.proofs.Uncaused.{forest_uncaused, refuted_by}
use Rattle.xc_joint.specs.Steps.Settling.{IsSettlement}
use Rattle.xc_joint.specs.declared.forests.Settlement.{Settlement}
use Rattle.xc_joint.proofs.settling.settle_narrow.Goals as goal

pub returns-in-Values : goal.returns-in-Values
returns-in-Values c =
    let s = c.args.system.now in
    let part = c.args.component.now in
    let told = subst (λ (x : Settlement). IsSettlement s part x) c.in-Values.is c.in_ok-values.ensures in
    (told.0, told.1, forest_uncaused s part c.requires.none_empty c.requires.none_wide c.requires.forest)

pub returns-in-Refuted : goal.returns-in-Refuted
returns-in-Refuted c =
    let s = c.args.system.now in
    let part = c.args.component.now in
    let told = subst (λ (x : Settlement). IsSettlement s part x) c.in-Refuted.is c.in_ok-values.ensures in
    refuted_by s part c.requires.none_empty c.requires.none_wide c.in-Refuted.refutation (forest_uncaused s part c.requires.none_empty c.requires.none_wide c.requires.forest) told.0 told.1
