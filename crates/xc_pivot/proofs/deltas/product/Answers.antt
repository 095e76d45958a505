use Rattle.xc_frac.specs.declared.wide.Op.TheVariants.{Mul}
use Rattle.xc_pivot.specs.Deltas.{of_part}
use Rattle.xc_pivot.proofs.Both.{product_each, passes_one}
use Rattle.xc_pivot.proofs.deltas.product.Goals as goal

pub returns : goal.returns
returns c = record {
  gives = product_each c.scaled.result c.args.by c.args.parts c.scaled.ensures.real c.scaled.ensures.tiny;
  passes = passes_one Mul (λ p. c.args.by) (of_part c.args.parts) c.scaled.result c.scaled.ensures.passes;
}
