use Rattle.xc_verify.proofs.infeasible.constant_objection.Goals as goal

pub returns : goal.returns
returns c = record { end = c.constant.result; sum = c.constant.ensures; is_met = c.objection_unless_short.ensures }
