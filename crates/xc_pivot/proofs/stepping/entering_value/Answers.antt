use Rattle.std.proofs.Common.{inr, refl}
use Rattle.xc_corners.specs.Operations.{entering_moved}
use Rattle.xc_corners.specs.WholeNumbers.{whole_problem}
use Rattle.xc_frac.specs.declared.wide.Op.TheVariants.{Add}
use Rattle.xc_pivot.specs.Deltas.{of_part}
use Rattle.xc_pivot.specs.Steps.{PassesNext, IsEnteringMoved}
use Rattle.xc_pivot.proofs.Both.{if_each, if_one}
use Rattle.xc_pivot.proofs.stepping.entering_value.Goals as goal

pub returns-clause-is : goal.returns-clause-is
returns-clause-is c x t at h =
    let v = c.side_bound.result in
    if_each c.sum.result Add (of_part v) (of_part c.args.step.now) (IsEnteringMoved (whole_problem c.args.problem.now) x t c.args.choice.now) c.sum.ensures.gives c.sum.ensures.stays
    (λ d gives stays. record { value = v; is_value = c.side_bound.ensures.value x t at; step = c.args.step.now; is_step = h.step; gives = gives; stays = stays })

pub returns-clause-passes : goal.returns-clause-passes
returns-clause-passes c x t at h =
    let v = c.side_bound.result in
    if_one c.sum.result Add (of_part v) (of_part c.args.step.now) (PassesNext (whole_problem c.args.problem.now) x t c.args.choice.now) c.sum.ensures.passes
    (λ k p. record { stands = inr (entering_moved k (of_part v k) (of_part c.args.step.now k) (c.side_bound.ensures.value x t at k) (h.step k) refl); passes = p })
