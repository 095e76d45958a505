use Rattle.std.proofs.Common.{◌≡◌, ◌*◌, length, arith}
use Rattle.std.proofs.lemmas.List.{length-set}
use Rattle.xc_tableau.specs.Steps.{table}
use Rattle.xc_tableau.proofs.Exchanging.{has_read}
use Rattle.xc_tableau.proofs.Writing.{row_next, kept_next, entering_kept}
use Rattle.xc_tableau.proofs.pivoting.fill_row.Goals as goal

pub keep_row-requires-clause-factor : goal.keep_row-requires-clause-factor
keep_row-requires-clause-factor c =
    let p = c.args.pivot.now in
    (c.index-entries-place.result, has_read (table p c.args.entries.now) c.args.row p.column c.place.result c.index-entries-place.result c.requires.pivot.filled c.place.ensures c.requires.row c.requires.pivot.column c.index-entries-place.is, c.is_zero.ensures.0 c.if-is_zero.true)

pub returns-then-is_zero-clause-entering : goal.returns-then-is_zero-clause-entering
returns-then-is_zero-clause-entering c = entering_kept c.args.pivot.now c.args.entries.now c.args.new.now c.keep_row.new.new c.args.row c.keep_row.ensures.kept c.if-row-pivot.false c.requires.entering

pub other_entry-requires-clause-factor : goal.other_entry-requires-clause-factor
other_entry-requires-clause-factor c =
    let p = c.args.pivot.now in
    has_read (table p c.args.entries.now) c.args.row p.column c.place.result c.index-entries-place.result c.requires.pivot.filled c.place.ensures c.requires.row c.requires.pivot.column c.index-entries-place.is

pub other_entry-requires-clause-entering : goal.other_entry-requires-clause-entering
other_entry-requires-clause-entering c =
    let p = c.args.pivot.now in
    let l = c.loop-column in
    let room : length l.new ≡ p.rows * p.columns = omega arith in
    let here = has_read (table p l.new) p.row l.column c.place-in-loop-column.result c.index-new-place.result room c.place-in-loop-column.ensures c.requires.pivot.row c.loop-column-test.true c.index-new-place.is in
    entering_kept p c.args.entries.now c.args.new.now l.new c.args.row l.invariant.kept c.if-row-pivot.false c.requires.entering l.column c.index-new-place.result c.loop-column-test.true here

pub loop-column-preserved : goal.loop-column-preserved
loop-column-preserved c =
    let p = c.args.pivot.now in
    let l = c.loop-column in
    let room : length l.new ≡ p.rows * p.columns = omega arith in
    let place = c.place-in-loop-column-2 in
    record {
      room = omega (arith, length-set l.new place.result c.in_ok-new.field-0);
      done = row_next p c.args.entries.now l.new c.args.row l.column place.result c.in_ok-new.field-0 place.ensures c.requires.row c.loop-column-test.true room l.invariant.done c.in_ok-new.ensures.is;
      kept = kept_next p c.args.entries.now l.new c.args.row l.column place.result c.in_ok-new.field-0 place.ensures c.requires.row c.loop-column-test.true room c.args.new.now l.invariant.kept;
    }

pub returns-clause-entering : goal.returns-clause-entering
returns-clause-entering c = entering_kept c.args.pivot.now c.args.entries.now c.args.new.now c.loop-column.new c.args.row c.loop-column.invariant.kept c.if-row-pivot.false c.requires.entering

pub returns-clause-done : goal.returns-clause-done
returns-clause-done c other j r h e = c.loop-column.invariant.done j r (omega arith) e
