use Rattle.xc_verify.proofs.Results.{sum_one}
use Rattle.xc_verify.specs.Infeasible.{value_term}
use Rattle.xc_verify.proofs.infeasible.with_fact.Goals as goal

pub returns-in-Some : goal.returns-in-Some
returns-in-Some c = rw c.in-Some.is (sum_one c.args.sum c.with_value.result (value_term c.args.side c.args.factor c.in-Some.interval) c.with_value.ensures)
