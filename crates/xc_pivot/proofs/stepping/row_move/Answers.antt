use Rattle.std.proofs.Common.{inr, refl}
use Rattle.xc_corners.specs.Operations.{step_times}
use Rattle.xc_frac.specs.declared.wide.Op.TheVariants.{Mul}
use Rattle.xc_pivot.specs.Deltas.{of_part}
use Rattle.xc_pivot.specs.Steps.{PassesNext, IsMoveOf}
use Rattle.xc_pivot.proofs.Both.{if_gives, if_one}
use Rattle.xc_pivot.proofs.stepping.row_move.Goals as goal

pub returns-clause-is : goal.returns-clause-is
returns-clause-is c p x t k d at h =
    if_gives c.product.result Mul (λ part. c.entry.result) (of_part c.args.step.now) (IsMoveOf p x t c.args.choice.now k) c.product.ensures.gives
    (λ m gives part. record { factor = c.entry.result; is_factor = at.factor c.entry.result c.entry.ensures; step = of_part c.args.step.now part; is_step = h.step part; gives = gives part })

pub returns-clause-passes : goal.returns-clause-passes
returns-clause-passes c p x t k d at h =
    if_one c.product.result Mul (λ part. c.entry.result) (of_part c.args.step.now) (PassesNext p x t c.args.choice.now) c.product.ensures.passes
    (λ part q. record { stands = inr (step_times part k c.entry.result (of_part c.args.step.now part) at.basic.0 at.basic.1 at.apart (at.factor c.entry.result c.entry.ensures) (h.step part) refl); passes = q })
