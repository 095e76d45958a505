use Rattle.std.proofs.Common.{◌≡◌, ℕ, ◌+◌, List, ap, sym, subst, arith, length}
use Rattle.xc_corners.specs.Conflicts.{multiplier, IsNonzero, AreLinesOf}
use Rattle.xc_interval.specs.declared.interval.Interval.{Interval}
use Rattle.xc_model.specs.Ratio.{Ratio, IsOver}
use Rattle.xc_pivot.proofs.Lines.{no_lines, one_line}
use Rattle.xc_pivot.proofs.refuting.list_rows.Goals as goal

pub loop-row-init : goal.loop-row-init
loop-row-init c = record {
  are = λ x t at. subst (λ (lines : List (ℕ × Ratio)). AreLinesOf 0 (λ i. multiplier x t c.args.leaving.above c.args.leaving.variable (length c.args.problem.now.ranges + i)) IsNonzero t.over lines) (sym c.requires.list)
      (no_lines (λ i. multiplier x t c.args.leaving.above c.args.leaving.variable (length c.args.problem.now.ranges + i)) IsNonzero t.over);
}

pub loop-row-preserved : goal.loop-row-preserved
loop-row-preserved c = record {
  are = λ x t at.
      let l = c.loop-row in
      let first = ap (λ (rs : List (Interval Ratio)). length rs) c.as_slice.ensures in
      let over = subst (λ (k : ℕ). IsOver c.count_of-count.result (multiplier x t c.args.leaving.above c.args.leaving.variable (k + l.row)) t.over) first (c.count_of-count.ensures x t at) in
      subst (λ (lines : List (ℕ × Ratio)). AreLinesOf (l.row + 1) (λ i. multiplier x t c.args.leaving.above c.args.leaving.variable (length c.args.problem.now.ranges + i)) IsNonzero t.over lines) (sym c.in_ok-push_multiplier_if.ensures)
      (one_line l.row (λ i. multiplier x t c.args.leaving.above c.args.leaving.variable (length c.args.problem.now.ranges + i)) IsNonzero t.over l.list.items c.count_of-count.result (l.invariant.are x t at) over c.is_nonzero.result
      (c.is_nonzero.ensures (multiplier x t c.args.leaving.above c.args.leaving.variable (length c.args.problem.now.ranges + l.row)) t.over over));
}

pub returns : goal.returns
returns c x t at =
    let end : c.loop-row.row ≡ length c.args.problem.now.rows = omega (arith, c.loop-row.auto.row-end, c.loop-row-test.false, ap (λ (rs : List (List (ℕ × Ratio))). length rs) c.as_slice-2.ensures) in
    subst (λ (n : ℕ). AreLinesOf n (λ i. multiplier x t c.args.leaving.above c.args.leaving.variable (length c.args.problem.now.ranges + i)) IsNonzero t.over c.loop-row.list.items) end (c.loop-row.invariant.are x t at)
