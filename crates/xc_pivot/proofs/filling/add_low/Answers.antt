use Rattle.std.proofs.Common.{refl, sym, subst, arith}
use Rattle.xc_frac.specs.Passes.{Passes}
use Rattle.xc_frac.specs.declared.wide.Wide.{Wide}
use Rattle.xc_corners.specs.Operations.{low_times, low_added}
use Rattle.xc_frac.specs.declared.wide.Op.TheVariants.{Add}
use Rattle.xc_pivot.specs.Deltas.{of_part}
use Rattle.xc_pivot.specs.Firsts.{PassesFirst, IsLowAdded}
use Rattle.xc_pivot.proofs.Both.{if_each, if_one}
use Rattle.xc_pivot.proofs.filling.add_low.Goals as goal

pub returns-in-Err-clause-passes : goal.returns-in-Err-clause-passes
returns-in-Err-clause-passes c =
    let factor = c.requires.sums c.args.column c.entry.result (omega (arith, c.requires.columns)) c.entry.ensures in
    let o = c.in-Err.ensures.passes in
    record { stands = low_times c.args.row c.args.column o.part c.entry.result (of_part c.low_of.result o.part) c.requires.row c.requires.column factor (c.low_of.ensures.low o.part) o.is; passes = subst (λ (w : Wide). Passes w.op w.left w.right) (sym o.is) o.passes }

pub returns-in-Ok-clause-is : goal.returns-in-Ok-clause-is
returns-in-Ok-clause-is c =
    let factor = c.requires.sums c.args.column c.entry.result (omega (arith, c.requires.columns)) c.entry.ensures in
    if_each c.sum.result Add (of_part c.args.value) (of_part c.in-Ok.part) (IsLowAdded c.args.problem.now c.args.row c.args.column c.args.value) c.sum.ensures.gives c.sum.ensures.stays
    (λ d gives stays. record { product = c.in-Ok.part; is_product = λ k. record { factor = c.entry.result; is_factor = factor; low = of_part c.low_of.result k; is_low = c.low_of.ensures.low k; gives = c.in-Ok.ensures.gives k }; gives = gives; stays = stays })

pub returns-in-Ok-clause-passes : goal.returns-in-Ok-clause-passes
returns-in-Ok-clause-passes c =
    let factor = c.requires.sums c.args.column c.entry.result (omega (arith, c.requires.columns)) c.entry.ensures in
    if_one c.sum.result Add (of_part c.args.value) (of_part c.in-Ok.part) (PassesFirst c.args.problem.now) c.sum.ensures.passes
    (λ k p. record {
      stands = low_added c.args.row c.args.column k (of_part c.args.value k) (of_part c.in-Ok.part k) c.requires.row c.requires.column (c.requires.value k)
          (record { factor = c.entry.result; is_factor = factor; low = of_part c.low_of.result k; is_low = c.low_of.ensures.low k; gives = c.in-Ok.ensures.gives k }) refl;
      passes = p;
    })
