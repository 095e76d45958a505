use Rattle.xc_frac.specs.declared.wide.Op.TheVariants.{Sub}
use Rattle.xc_pivot.specs.Deltas.{of_part}
use Rattle.xc_pivot.proofs.Both.{difference_each, stays_each, passes_one}
use Rattle.xc_pivot.proofs.deltas.difference.Goals as goal

pub returns : goal.returns
returns c = record {
  gives = difference_each c.sub.result c.args.left c.args.right c.sub.ensures.exact;
  stays = stays_each Sub (of_part c.args.left) (of_part c.args.right) c.sub.result c.sub.ensures.fits;
  passes = passes_one Sub (of_part c.args.left) (of_part c.args.right) c.sub.result c.sub.ensures.passes;
}
