use Rattle.xc_verify.proofs.Adding.{adds_put}
use Rattle.xc_verify.specs.Infeasible.{end_term}
use Rattle.xc_verify.specs.Steps.Running.{sum_at}
use Rattle.xc_verify.proofs.multiples.add_end.Goals as goal

pub returns : goal.returns
returns c = adds_put c.args.point (end_term c.args.side c.args.factor) (sum_at c.args.sums.now c.args.stops.now) (sum_at c.put_sum.new.sums c.put_sum.new.stops) c.sum_at.result c.with_end-sum.result
    c.sum_at.ensures c.with_end-sum.ensures c.put_sum.ensures.here c.put_sum.ensures.elsewhere
