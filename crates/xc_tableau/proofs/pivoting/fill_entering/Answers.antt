use Rattle.std.proofs.Common.{refl, arith}
use Rattle.std.proofs.lemmas.List.{length-set}
use Rattle.xc_tableau.proofs.Writing.{entering_next}
use Rattle.xc_tableau.proofs.pivoting.fill_entering.Goals as goal

pub loop-column-preserved : goal.loop-column-preserved
loop-column-preserved c =
    let p = c.args.pivot.now in
    let l = c.loop-column in
    record {
      room = omega (arith, length-set l.new c.place.result c.in_ok-new.field-0);
      done = entering_next p c.args.entries.now l.new p.row l.column c.place.result c.in_ok-new.field-0 c.place.ensures c.requires.pivot.row c.loop-column-test.true (omega arith) refl l.invariant.done c.in_ok-new.ensures.is;
    }

pub returns-clause-done : goal.returns-clause-done
returns-clause-done c j u h e = c.loop-column.invariant.done j u (omega arith) e
