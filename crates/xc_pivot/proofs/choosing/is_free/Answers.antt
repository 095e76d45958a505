use Rattle.xc_corners.specs.Corners.{low_bound, high_bound}
use Rattle.xc_corners.specs.WholeNumbers.{whole_problem}
use Rattle.xc_pivot.proofs.Beside.{free_tells}
use Rattle.xc_pivot.proofs.choosing.is_free.Goals as goal

pub returns : goal.returns
returns c =
    let p = whole_problem c.args.problem.now in
    let l = low_bound p c.args.variable in
    let h = high_bound p c.args.variable in
    record { free = free_tells c.is_below.result l h (c.problems_are_whole.ensures.order p c.args.variable (c.problems_are_whole.ensures.whole c.args.problem.now c.requires.problem)) (c.is_below.ensures p.unit l h c.low_of.ensures.low c.high_of.ensures.high) }
