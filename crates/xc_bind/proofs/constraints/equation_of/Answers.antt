use Rattle.xc_bind.proofs.Owning.{entries_next}
use Rattle.xc_bind.proofs.constraints.equation_of.Goals as goal

pub loop-term-preserved : goal.loop-term-preserved
loop-term-preserved c = entries_next c.args.binding.now.total c.args.binding.now.terms c.as_slice-term-items.result.now c.loop-term.entries.items c.push-in-loop-term.new.self.items c.loop-term.term-index c.term-item.result c.entry_of.result
    c.as_slice-term-items.ensures c.loop-term-test.true c.term-item.is c.in_ok-push-2.ensures.items c.loop-term.invariant c.entry_of.ensures
