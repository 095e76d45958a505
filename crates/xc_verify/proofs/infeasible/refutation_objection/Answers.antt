use Rattle.std.proofs.Common.{sym, ◌∙◌}
use Rattle.xc_verify.proofs.Meeting.{met_at_points, met_at_constant}
use Rattle.xc_verify.proofs.infeasible.refutation_objection.Goals as goal

pub returns-in-Some-coefficients_objection-clause-met : goal.returns-in-Some-coefficients_objection-clause-met
returns-in-Some-coefficients_objection-clause-met c = met_at_points c.args.system.now c.args.refutation.now (sym c.in_default.is ∙ c.line_objection.ensures.met) c.coefficients_objection.result c.in-Some-coefficients_objection.objection c.coefficients_objection.ensures c.in-Some-coefficients_objection.is

pub returns-clause-met : goal.returns-clause-met
returns-clause-met c = met_at_constant c.args.system.now c.args.refutation.now (sym c.in_default.is ∙ c.line_objection.ensures.met) c.coefficients_objection.result c.constant_objection.result c.coefficients_objection.ensures c.in_default-coefficients_objection.is c.constant_objection.ensures
