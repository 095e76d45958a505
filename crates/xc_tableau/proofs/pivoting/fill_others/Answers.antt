use Rattle.std.proofs.Common.{arith}
use Rattle.xc_tableau.proofs.Writing.{others_next}
use Rattle.xc_tableau.proofs.pivoting.fill_others.Goals as goal

pub loop-row-preserved : goal.loop-row-preserved
loop-row-preserved c =
    let f = c.in_ok-fill_row.ensures in
    record {
      room = omega arith;
      entering = f.entering;
      done = others_next c.args.pivot.now c.args.entries.now c.loop-row.new c.fill_row.new.new c.loop-row.row f.kept c.loop-row.invariant.done f.done;
    }

pub returns-clause-done : goal.returns-clause-done
returns-clause-done c k j r h other inside e = c.loop-row.invariant.done k j r (omega arith) other inside e
