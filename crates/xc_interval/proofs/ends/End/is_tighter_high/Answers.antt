use Rattle.xc_interval.proofs.Reals.{high_real}
use Rattle.xc_interval.proofs.Tighter.{high_more}
use Rattle.xc_interval.proofs.ends.End.is_tighter_high.Goals as goal

pub returns-in-Greater-clause-pairs : goal.returns-in-Greater-clause-pairs
returns-in-Greater-clause-pairs g c = high_more g.E.Exact.parts c.args.self c.args.other c.value.result c.value-2.result c.value.ensures c.value-2.ensures c.in-Greater.ensures.exact

pub returns-in-Greater-clause-numbers : goal.returns-in-Greater-clause-numbers
returns-in-Greater-clause-numbers g c real =
    let pairs = high_more g.E.Exact.parts c.args.self c.args.other c.value.result c.value-2.result c.value.ensures c.value-2.ensures c.in-Greater.ensures.exact in
    let numbers = high_real g.E.Exact.parts real c.args.self c.args.other in
    (λ told. numbers.0 (pairs.0 told), λ tighter. pairs.1 (numbers.1 tighter))
