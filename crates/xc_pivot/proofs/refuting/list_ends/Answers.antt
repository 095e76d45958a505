use Rattle.std.proofs.Common.{◌≡◌, ℕ, ◌+◌, List, ap, sym, subst, arith, length}
use Rattle.xc_corners.specs.Conflicts.{opposite_if, multiplier, IsPositive, AreLinesOf}
use Rattle.xc_interval.specs.declared.interval.Interval.{Interval}
use Rattle.xc_model.specs.Ratio.{Ratio}
use Rattle.xc_pivot.proofs.Lines.{no_lines, one_line}
use Rattle.xc_pivot.proofs.refuting.list_ends.Goals as goal

pub loop-variable-init : goal.loop-variable-init
loop-variable-init c = record {
  are = λ x t at. subst (λ (lines : List (ℕ × Ratio)). AreLinesOf 0 (λ j. opposite_if c.args.is_turned (multiplier x t c.args.leaving.above c.args.leaving.variable j)) IsPositive t.over lines) (sym c.requires.list)
      (no_lines (λ j. opposite_if c.args.is_turned (multiplier x t c.args.leaving.above c.args.leaving.variable j)) IsPositive t.over);
}

pub loop-variable-preserved : goal.loop-variable-preserved
loop-variable-preserved c = record {
  are = λ x t at.
      let l = c.loop-variable in
      let over = c.number_with_sign-count.ensures (multiplier x t c.args.leaving.above c.args.leaving.variable l.variable) t.over (c.count_of.ensures x t at) in
      subst (λ (lines : List (ℕ × Ratio)). AreLinesOf (l.variable + 1) (λ j. opposite_if c.args.is_turned (multiplier x t c.args.leaving.above c.args.leaving.variable j)) IsPositive t.over lines) (sym c.in_ok-push_multiplier_if.ensures)
      (one_line l.variable (λ j. opposite_if c.args.is_turned (multiplier x t c.args.leaving.above c.args.leaving.variable j)) IsPositive t.over l.list.items c.number_with_sign-count.result (l.invariant.are x t at) over c.is_positive.result
      (c.is_positive.ensures (opposite_if c.args.is_turned (multiplier x t c.args.leaving.above c.args.leaving.variable l.variable)) t.over over));
}

pub returns : goal.returns
returns c x t at =
    let end : c.loop-variable.variable ≡ length c.args.problem.now.ranges = omega (arith, c.loop-variable.auto.variable-end, c.loop-variable-test.false, ap (λ (rs : List (Interval Ratio)). length rs) c.as_slice.ensures) in
    subst (λ (n : ℕ). AreLinesOf n (λ j. opposite_if c.args.is_turned (multiplier x t c.args.leaving.above c.args.leaving.variable j)) IsPositive t.over c.loop-variable.list.items) end (c.loop-variable.invariant.are x t at)
