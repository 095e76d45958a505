use Rattle.xc_frac.specs.declared.wide.Op.TheVariants.{Add}
use Rattle.xc_pivot.specs.Deltas.{of_part}
use Rattle.xc_pivot.proofs.Both.{sum_each, stays_each, passes_one}
use Rattle.xc_pivot.proofs.deltas.sum.Goals as goal

pub returns : goal.returns
returns c = record {
  gives = sum_each c.add.result c.args.left c.args.right c.add.ensures.exact;
  stays = stays_each Add (of_part c.args.left) (of_part c.args.right) c.add.result c.add.ensures.fits;
  passes = passes_one Add (of_part c.args.left) (of_part c.args.right) c.add.result c.add.ensures.passes;
}
