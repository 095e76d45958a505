use Rattle.std.proofs.Common.{◌≡◌, ◌<◌, ℕ, List, take, length, refl, sym, ap, subst, ◌∙◌, arith}
use Rattle.std.proofs.Math.Seq.{take-length}
use Rattle.xc_model.specs.Ratio.{Ratio}
use Rattle.xc_pivot.specs.Firsts.{HasRowSums, EntriesStay}
use Rattle.xc_pivot.proofs.Placed.{read_at}
use Rattle.xc_pivot.proofs.Summed.{sum_more, sums_next, stays_next, kept_next}
use Rattle.xc_pivot.proofs.filling.add_row.Goals as goal

pub loop-entry-init : goal.loop-entry-init
loop-entry-init c = record {
  rows = refl;
  columns = refl;
  filled = c.requires.filled;
  kept = λ r j f other inside e. e;
  sums = λ j f inside e. record { zero = f; is_zero = c.requires.zeros j f inside e; adds_up = refl };
  stays = λ k entry s small. absurd (omega arith);
}

pub returns-in-Err-clause-passes : goal.returns-in-Err-clause-passes
returns-in-Err-clause-passes c =
    let l = c.loop-entry in
    let item = c.entry-item.result in
    let column = subst (λ (o : ℕ × Ratio). o.0 < c.args.table.now.columns) (sym c.entry-item.is) (c.requires.named l.entry-index item c.loop-entry-test.true) in
    let sum = l.invariant.sums item.0 c.entry.result (omega (arith, column, l.invariant.columns)) c.entry.ensures in
    record {
      number = l.entry-index;
      entry = item;
      there = read_at c.args.entries.now c.args.entries.now l.entry-index item refl c.loop-entry-test.true c.entry-item.is;
      sum = c.entry.result;
      is_sum = sum;
      is = c.in-Err.ensures.operands;
      passes = c.in-Err.ensures.passes;
    }

pub loop-entry-preserved : goal.loop-entry-preserved
loop-entry-preserved c =
    let l = c.loop-entry in
    let item = c.entry-item.result in
    let entries = c.args.entries.now in
    let column = subst (λ (o : ℕ × Ratio). o.0 < c.args.table.now.columns) (sym c.entry-item.is) (c.requires.named l.entry-index item c.loop-entry-test.true) in
    let inside : item.0 < l.table.columns = omega (arith, column, l.invariant.columns) in
    let sum = l.invariant.sums item.0 c.entry.result inside c.entry.ensures in
    record {
      rows = c.set.ensures.rows ∙ l.invariant.rows;
      columns = c.set.ensures.columns ∙ l.invariant.columns;
      filled = c.set.ensures.filled;
      kept = kept_next c.args.table.now l.table c.set.new.self c.args.row item.0 c.in-Ok.sum column l.invariant.columns c.set.ensures.columns c.set.ensures.entries l.invariant.kept;
      sums = sums_next entries l.entry-index item c.loop-entry-test.true c.entry-item.is l.table c.set.new.self c.args.row c.in-Ok.sum (omega (arith, l.invariant.rows)) l.invariant.filled inside c.set.ensures.columns c.set.ensures.entries l.invariant.sums
          (sum_more entries l.entry-index item c.loop-entry-test.true c.entry-item.is c.entry.result c.in-Ok.sum sum c.in-Ok.ensures.exact);
      stays = stays_next entries l.entry-index item c.loop-entry-test.true c.entry-item.is c.entry.result l.invariant.stays sum c.in-Ok.ensures.fits;
    }

pub returns : goal.returns
returns c =
    let l = c.loop-entry in
    let end : l.entry-index ≡ length c.args.entries.now = omega (arith, l.auto.entry-index-end, c.loop-entry-test.false) in
    let all = ap (λ k. take k c.args.entries.now) end ∙ take-length c.args.entries.now in
    record {
      rows = l.invariant.rows;
      columns = l.invariant.columns;
      filled = l.invariant.filled;
      kept = l.invariant.kept;
      sums = subst (λ (es : List (ℕ × Ratio)). HasRowSums l.table c.args.row es) all l.invariant.sums;
      stays = subst (λ k. EntriesStay c.args.entries.now k) end l.invariant.stays;
      passes = tt;
    }
