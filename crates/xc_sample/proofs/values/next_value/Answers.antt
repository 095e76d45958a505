use Rattle.std.proofs.Common.{◌+◌, ◌∙◌}
use Rattle.xc_sample.proofs.NodeValues.{of_two, of_one, of_none}
use Rattle.xc_sample.proofs.values.next_value.Goals as goal

pub returns-then-second-count : goal.returns-then-second-count
returns-then-second-count c = (λ i. c.value_of.ensures.is i + c.value_of-then-second-count.ensures.is i + c.lift.ensures.is i) ∙ of_two c.args.count c.args.node c.if-second-count.true

pub returns-then-first-count : goal.returns-then-first-count
returns-then-first-count c = (λ i. c.value_of-then-first-count.ensures.is i + c.lift-then-first-count.ensures.is i) ∙ of_one c.args.count c.args.node c.if-first-count.true c.if-second-count.false

pub returns : goal.returns
returns c = of_none c.args.count c.args.node c.if-first-count.false
