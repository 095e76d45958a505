use Rattle.std.proofs.Common.{inr, refl}
use Rattle.xc_corners.specs.Operations.{basic_moved}
use Rattle.xc_frac.specs.declared.wide.Op.TheVariants.{Add}
use Rattle.xc_pivot.specs.Deltas.{of_part}
use Rattle.xc_pivot.specs.Steps.{PassesNext, IsBasicMoved}
use Rattle.xc_pivot.proofs.Both.{if_each, if_one}
use Rattle.xc_pivot.proofs.stepping.basic_value.Goals as goal

pub returns-in-Err-clause-passes : goal.returns-in-Err-clause-passes
returns-in-Err-clause-passes c p x t k at h = c.in-Err.ensures.passes p x t k c.args.value (at c.if-row-choice.false) h

pub returns-in-Ok-clause-is : goal.returns-in-Ok-clause-is
returns-in-Ok-clause-is c p x t k other at h =
    let move = c.in-Ok.ensures.is p x t k c.args.value at h in
    if_each c.sum.result Add (of_part c.args.value) (of_part c.in-Ok.moved) (IsBasicMoved p x t c.args.choice.now k) c.sum.ensures.gives c.sum.ensures.stays
    (λ d gives stays. record { value = c.args.value; is_value = at.value; move = c.in-Ok.moved; is_move = move; gives = gives; stays = stays })

pub returns-in-Ok-clause-passes : goal.returns-in-Ok-clause-passes
returns-in-Ok-clause-passes c p x t k at h =
    let here = at c.if-row-choice.false in
    let move = c.in-Ok.ensures.is p x t k c.args.value here h in
    if_one c.sum.result Add (of_part c.args.value) (of_part c.in-Ok.moved) (PassesNext p x t c.args.choice.now) c.sum.ensures.passes
    (λ part q. record { stands = inr (basic_moved part k (of_part c.args.value part) (of_part c.in-Ok.moved part) here.basic.0 here.basic.1 here.apart (here.value part) (move part) refl); passes = q })
