use Rattle.xc_verify.proofs.Accepting.{values_judged, values_accepted, refutation_judged, refutation_accepted}
use Rattle.xc_verify.proofs.Known.{names_known}
use Rattle.xc_verify.proofs.Refusing.{proof_accepted}
use Rattle.xc_verify.proofs.judging.verify.Goals as goal

pub returns-in-Feasible-clause-judgement : goal.returns-in-Feasible-clause-judgement
returns-in-Feasible-clause-judgement c = values_judged c.args.system.now c.args.certificate.now c.in-Feasible.values c.as_slice.result.now c.judgement_of.result c.values_objection.result c.in-Feasible.is c.as_slice.ensures c.values_objection.ensures.met c.judgement_of.ensures

pub returns-in-Feasible-clause-accepted : goal.returns-in-Feasible-clause-accepted
returns-in-Feasible-clause-accepted c = values_accepted c.args.system.now c.args.certificate.now c.in-Feasible.values c.as_slice.result.now c.judgement_of.result c.values_objection.result c.in-Feasible.is c.as_slice.ensures c.values_objection.ensures.met c.judgement_of.ensures
    c.values_objection.ensures.system

pub returns-in-Feasible-clause-known : goal.returns-in-Feasible-clause-known
returns-in-Feasible-clause-known c = names_known c.args.system.now c.args.certificate.now c.judgement_of.result
    (values_judged c.args.system.now c.args.certificate.now c.in-Feasible.values c.as_slice.result.now c.judgement_of.result c.values_objection.result c.in-Feasible.is c.as_slice.ensures c.values_objection.ensures.met c.judgement_of.ensures)

pub returns-in-Infeasible-clause-judgement : goal.returns-in-Infeasible-clause-judgement
returns-in-Infeasible-clause-judgement c = refutation_judged c.args.system.now c.args.certificate.now c.in-Infeasible.refutation c.judgement_of-in-Infeasible.result c.refutation_objection.result c.in-Infeasible.is c.refutation_objection.ensures.met c.judgement_of-in-Infeasible.ensures

pub returns-in-Infeasible-clause-accepted : goal.returns-in-Infeasible-clause-accepted
returns-in-Infeasible-clause-accepted c = refutation_accepted c.args.system.now c.args.certificate.now c.in-Infeasible.refutation c.judgement_of-in-Infeasible.result c.refutation_objection.result c.in-Infeasible.is c.refutation_objection.ensures.met c.judgement_of-in-Infeasible.ensures
    c.contradictions_exclude.ensures.solutions c.refutation_objection.ensures.system c.refutation_objection.ensures.kept

pub returns-in-Infeasible-clause-known : goal.returns-in-Infeasible-clause-known
returns-in-Infeasible-clause-known c = names_known c.args.system.now c.args.certificate.now c.judgement_of-in-Infeasible.result
    (refutation_judged c.args.system.now c.args.certificate.now c.in-Infeasible.refutation c.judgement_of-in-Infeasible.result c.refutation_objection.result c.in-Infeasible.is c.refutation_objection.ensures.met c.judgement_of-in-Infeasible.ensures)

pub returns-in-Feasible-clause-proof : goal.returns-in-Feasible-clause-proof
returns-in-Feasible-clause-proof c = proof_accepted c.args.system.now c.args.certificate.now c.judgement_of.result
    (values_judged c.args.system.now c.args.certificate.now c.in-Feasible.values c.as_slice.result.now c.judgement_of.result c.values_objection.result c.in-Feasible.is c.as_slice.ensures c.values_objection.ensures.met c.judgement_of.ensures)

pub returns-in-Infeasible-clause-proof : goal.returns-in-Infeasible-clause-proof
returns-in-Infeasible-clause-proof c = proof_accepted c.args.system.now c.args.certificate.now c.judgement_of-in-Infeasible.result
    (refutation_judged c.args.system.now c.args.certificate.now c.in-Infeasible.refutation c.judgement_of-in-Infeasible.result c.refutation_objection.result c.in-Infeasible.is c.refutation_objection.ensures.met c.judgement_of-in-Infeasible.ensures)
