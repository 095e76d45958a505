use Rattle.std.proofs.Common.{◌≡◌, sym, subst, cond, pos, negsuc}
use Rattle.xc_interval.specs.Ends.{value_of, is_open}
use Rattle.xc_interval.specs.declared.interval.Interval.{Interval}
use Rattle.xc_model.specs.Ratio.{Ratio, IsOver}
use Rattle.xc_corners.specs.Corners.{high_bound}
use Rattle.xc_corners.specs.WholeNumbers.{whole_problem}
use Rattle.xc_pivot.proofs.Beside.{high_parts, zero_parts}
use Rattle.xc_pivot.proofs.Placed.{read_at}
use Rattle.xc_pivot.proofs.bounds.high_of.Goals as goal

pub returns-then-variable-ranges : goal.returns-then-variable-ranges
returns-then-variable-ranges c =
    let problem = c.args.problem.now in
    let range = c.index-ranges-variable.result in
    let there = read_at c.as_slice-ranges.result.now problem.ranges c.args.variable range c.as_slice-ranges.ensures c.if-variable-ranges.true c.index-ranges-variable.is in
    let read = sym c.index-ranges-variable.is in
    let real = subst (λ (r : Interval Ratio). c.high_pair.result.real ≡ value_of r.high) read c.high_pair.ensures.real in
    let tiny = subst (λ (r : Interval Ratio). IsOver c.high_pair.result.tiny (cond (is_open r.high) (negsuc 0) (pos 0)) 1) read c.high_pair.ensures.tiny in
    record { high = high_parts problem c.args.variable range c.high_pair.result (c.problems_are_whole.ensures.ends problem c.args.variable range c.high_pair.result.tiny there) real tiny }

pub returns : goal.returns
returns c =
    let problem = c.args.problem.now in
    let past = rw c.as_slice-ranges.ensures at c.if-variable-ranges.false in
    record { high = zero_parts (whole_problem problem).unit (high_bound (whole_problem problem) c.args.variable) c.zero.result (c.problems_are_whole.ensures.whole problem c.requires.problem).unit (c.problems_are_whole.ensures.zeros problem c.args.variable past).1 c.zero.ensures.real c.zero.ensures.tiny }
