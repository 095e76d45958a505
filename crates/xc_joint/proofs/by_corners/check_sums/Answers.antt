use Rattle.std.proofs.Common.{sym, subst}
use Rattle.xc_joint.proofs.JudgedSums.{certificate_passes, certificate_sums, same_refutation}
use Rattle.xc_joint.specs.Steps.ByCorners.{IsInfeasible}
use Rattle.xc_joint.proofs.by_corners.check_sums.Goals as goal

pub refutation_in-requires : goal.refutation_in-requires
refutation_in-requires c = subst IsInfeasible (sym c.certificate_of-certificate.ensures) tt

pub returns-in-Some-clause-is : goal.returns-in-Some-clause-is
returns-in-Some-clause-is c = certificate_passes c.args.system.now c.args.refutation c.certificate_of-certificate.result c.verify-judgement.result c.in-Some.wide c.certificate_of-certificate.ensures c.verify-judgement.ensures.judgement c.in-Some.ensures.some

pub returns-in-None-clause-is : goal.returns-in-None-clause-is
returns-in-None-clause-is c =
    let s = c.args.system.now in
    let r = c.args.refutation in
    let against = c.components_decide.ensures.contradiction s c.args.component.now r c.points-points.ensures.system c.requires.component c.requires.contradicts in (
      same_refutation c.certificate_of-certificate.result r c.refutation_in.result c.certificate_of-certificate.ensures c.refutation_in.ensures,
      certificate_sums s r c.certificate_of-certificate.result c.verify-judgement.result c.certificate_of-certificate.ensures c.verify-judgement.ensures.judgement c.verify-judgement.ensures.proof c.in-None.ensures.none
          (against, λ z. c.contradictions_exclude.ensures.solutions s r z c.points-points.ensures.system against),
    )
