use Rattle.xc_frac.specs.declared.wide.Op.TheVariants.{Div}
use Rattle.xc_pivot.specs.Deltas.{of_part}
use Rattle.xc_pivot.proofs.Both.{quotient_each, passes_one}
use Rattle.xc_pivot.proofs.deltas.quotient.Goals as goal

pub returns : goal.returns
returns c = record {
  gives = quotient_each c.over.result c.args.by c.args.parts c.over.ensures.real c.over.ensures.tiny;
  passes = passes_one Div (of_part c.args.parts) (λ p. c.args.by) c.over.result c.over.ensures.passes;
}
