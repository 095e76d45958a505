use Rattle.std.proofs.Common.{◌*◌}
use Rattle.xc_corners.specs.Corners.{low_bound, high_bound}
use Rattle.xc_corners.specs.WholeNumbers.{whole_problem}
use Rattle.xc_pivot.proofs.Beside.{bound_times}
use Rattle.xc_pivot.proofs.choosing.side_of.Goals as goal

pub returns : goal.returns
returns c = record {
  side = λ w a some value.
      let p = whole_problem c.args.problem.now in
      c.past_side.ensures (w * p.unit) _ a _ (bound_times c.low_of-low.result (low_bound p c.args.variable) p.unit w some c.low_of-low.ensures.low) value
      (bound_times c.high_of-high.result (high_bound p c.args.variable) p.unit w some c.high_of-high.ensures.high);
}
