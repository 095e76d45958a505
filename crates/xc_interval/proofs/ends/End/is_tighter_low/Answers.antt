use Rattle.xc_interval.proofs.Reals.{low_real}
use Rattle.xc_interval.proofs.Tighter.{low_less}
use Rattle.xc_interval.proofs.ends.End.is_tighter_low.Goals as goal

pub returns-in-Less-clause-pairs : goal.returns-in-Less-clause-pairs
returns-in-Less-clause-pairs g c = low_less g.E.Exact.parts c.args.self c.args.other c.value.result c.value-2.result c.value.ensures c.value-2.ensures c.in-Less.ensures.exact

pub returns-in-Less-clause-numbers : goal.returns-in-Less-clause-numbers
returns-in-Less-clause-numbers g c real =
    let pairs = low_less g.E.Exact.parts c.args.self c.args.other c.value.result c.value-2.result c.value.ensures c.value-2.ensures c.in-Less.ensures.exact in
    let numbers = low_real g.E.Exact.parts real c.args.self c.args.other in
    (λ told. numbers.0 (pairs.0 told), λ tighter. pairs.1 (numbers.1 tighter))
