use Rattle.std.proofs.Common.{subst}
use Rattle.xc_joint.proofs.Uncaused.{corners_uncaused, refuted_by}
use Rattle.xc_joint.specs.Steps.ByCorners.{IsCornered}
use Rattle.xc_joint.specs.declared.by_corners.Cornered.{Cornered}
use Rattle.xc_joint.proofs.settling.settle_other.Goals as goal

pub returns-in-Values-clause-found : goal.returns-in-Values-clause-found
returns-in-Values-clause-found c =
    let s = c.args.system.now in
    let part = c.args.component.now in
    let told = subst (λ (x : Cornered). IsCornered s part x) c.in-Values.is c.in_ok-values.ensures.answer in
    (told.0, told.1, corners_uncaused s part c.requires.other.none_empty c.requires.other.none_wide told.2)

pub returns-in-Refuted-clause-found : goal.returns-in-Refuted-clause-found
returns-in-Refuted-clause-found c =
    let s = c.args.system.now in
    let part = c.args.component.now in
    let told = subst (λ (x : Cornered). IsCornered s part x) c.in-Refuted.is c.in_ok-values.ensures.answer in
    refuted_by s part c.requires.other.none_empty c.requires.other.none_wide c.in-Refuted.refutation (corners_uncaused s part c.requires.other.none_empty c.requires.other.none_wide told.2) told.0 told.1
