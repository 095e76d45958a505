use Rattle.xc_pivot.proofs.Beside.{below_less, below_other}
use Rattle.xc_pivot.proofs.bounds.is_below.Goals as goal

pub returns-in-Less : goal.returns-in-Less
returns-in-Less c = below_less c.args.left.now c.args.right.now (λ a b n. c.in-Less.ensures.over a b n)

pub returns-in_default : goal.returns-in_default
returns-in_default c = below_other c.compare.result c.args.left.now c.args.right.now c.in_default.not-Less c.compare.ensures.over
