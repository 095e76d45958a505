use Rattle.std.proofs.Common.{◌≡◌, ◌*◌, length, arith}
use Rattle.std.proofs.lemmas.List.{length-set}
use Rattle.xc_tableau.specs.Steps.{table}
use Rattle.xc_tableau.proofs.Exchanging.{has_read, has_some}
use Rattle.xc_tableau.proofs.Writing.{row_next, kept_next, entering_kept}
use Rattle.xc_tableau.proofs.Zeros.{stays}
use Rattle.xc_tableau.proofs.pivoting.keep_row.Goals as goal

pub loop-column-preserved : goal.loop-column-preserved
loop-column-preserved c =
    let p = c.args.pivot.now in
    let l = c.loop-column in
    let t = table p c.args.entries.now in
    let place = c.place-place in
    let entry = c.index-entries-place.result in
    let room : length l.new ≡ p.rows * p.columns = omega arith in
    let here = has_read t c.args.row l.column place.result entry c.requires.pivot.filled place.ensures c.requires.row c.loop-column-test.true c.index-entries-place.is in
    let above = has_some (table p l.new) p.row l.column room c.requires.pivot.row c.loop-column-test.true in
    let entering = entering_kept p c.args.entries.now c.args.new.now l.new c.args.row l.invariant.kept c.requires.other c.requires.entering l.column above.0 c.loop-column-test.true above.1 in
    let made = stays t p.row p.column c.args.row l.column c.requires.factor.0 entry above.0 c.requires.factor.2 c.requires.factor.1 here entering in
    record {
      room = omega (arith, length-set l.new place.result entry);
      done = row_next p c.args.entries.now l.new c.args.row l.column place.result entry place.ensures c.requires.row c.loop-column-test.true room l.invariant.done made;
      kept = kept_next p c.args.entries.now l.new c.args.row l.column place.result entry place.ensures c.requires.row c.loop-column-test.true room c.args.new.now l.invariant.kept;
    }

pub returns-clause-done : goal.returns-clause-done
returns-clause-done c j r h e = c.loop-column.invariant.done j r (omega arith) e
