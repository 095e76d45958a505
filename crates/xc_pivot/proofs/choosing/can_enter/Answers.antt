use Rattle.std.proofs.Common.{refl, sym, subst, arith, Bool}
use Rattle.std.proofs.lemmas.Bool.{false≢true}
use Rattle.xc_corners.specs.Choices.{Helps}
use Rattle.xc_pivot.proofs.Placed.{row_inside, column_inside, column_other}
use Rattle.xc_pivot.proofs.choosing.can_enter.Goals as goal

pub entry-requires-clause-row : goal.entry-requires-clause-row
entry-requires-clause-row c = omega (arith, row_inside c.args.problem.now c.args.state.now c.args.leaving.variable c.args.leaving.row c.requires.shaped c.requires.row, c.requires.shaped.rows)

pub entry-requires-clause-column : goal.entry-requires-clause-column
entry-requires-clause-column c = omega (arith, column_inside c.args.problem.now c.args.state.now c.args.variable c.args.column c.requires.shaped c.requires.column, c.requires.shaped.columns)

pub returns-then-not-helps-clause-none : goal.returns-then-not-helps-clause-none
returns-then-not-helps-clause-none c x t at high can =
    let over = at.factors c.args.leaving.variable c.args.variable c.args.leaving.row c.args.column c.entry.result c.requires.row c.requires.column c.entry.ensures in
    false≢true ((c.if-not-helps.ensures (t.factor c.args.leaving.variable c.args.variable) t.over over).1 (subst (λ (s : Bool). Helps c.args.leaving.above s (t.factor c.args.leaving.variable c.args.variable)) high can.helps))

pub returns : goal.returns
returns c = record {
  is = refl;
  some = λ x t at high.
      let over = at.factors c.args.leaving.variable c.args.variable c.args.leaving.row c.args.column c.entry.result c.requires.row c.requires.column c.entry.ensures in
      record {
        other = column_other _ _ x c.args.state.now.places.items c.args.variable c.args.column at.placed c.requires.column;
        free = c.if-not-is_free.ensures.free.0 refl;
        helps = subst (λ (s : Bool). Helps c.args.leaving.above s (t.factor c.args.leaving.variable c.args.variable)) (sym high) ((c.if-not-helps.ensures (t.factor c.args.leaving.variable c.args.variable) t.over over).0 refl);
      };
  none = λ x t at high. tt;
}
