use Rattle.xc_verify.proofs.Adding.{adds_put}
use Rattle.xc_verify.specs.Steps.Running.{sum_at}
use Rattle.xc_verify.specs.Sums.{plus_product}
use Rattle.xc_verify.proofs.multiples.add_product.Goals as goal

pub returns : goal.returns
returns c = adds_put c.args.point (plus_product c.args.left c.args.right) (sum_at c.args.sums.now c.args.stops.now) (sum_at c.put_sum.new.sums c.put_sum.new.stops) c.sum_at.result c.plus_product-sum.result
    c.sum_at.ensures c.plus_product-sum.ensures c.put_sum.ensures.here c.put_sum.ensures.elsewhere
