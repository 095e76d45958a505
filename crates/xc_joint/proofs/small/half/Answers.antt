use Rattle.std.proofs.lemmas.Result.{IfOk-weaker}
use Rattle.xc_joint.specs.Small.{IsPositive}
use Rattle.xc_joint.proofs.Bounded.{half_below, half_positive, two_some}
use Rattle.xc_model.specs.Fraction.{IsBelow, IsQuotient}
use Rattle.std.proofs.Common.{◌*◌}
use Rattle.std.specs.Prelude.{pos}
use Rattle.xc_joint.specs.Widths.{IsOverFactor}
use Rattle.xc_joint.proofs.Rooms.{half_over, halved, ok_and}
use Rattle.xc_model.specs.Ratio.{IsOver, fraction_of}
use Rattle.xc_joint.proofs.small.half.Goals as goal

pub div-requires : goal.div-requires
div-requires c = two_some c.two.result c.two.ensures

pub returns-clause-positive : goal.returns-clause-positive
returns-clause-positive c = IfOk-weaker c.div.result (λ r. IsQuotient (fraction_of r) (fraction_of c.args.number) (fraction_of c.two.result)) (λ r. IsPositive (fraction_of r)) (λ r h. half_positive r c.args.number c.two.result c.two.ensures h c.requires) c.div.ensures.exact

pub returns-clause-under : goal.returns-clause-under
returns-clause-under c = IfOk-weaker c.div.result (λ r. IsQuotient (fraction_of r) (fraction_of c.args.number) (fraction_of c.two.result)) (λ r. IsBelow (fraction_of r) (fraction_of c.args.number)) (λ r h. half_below r c.args.number c.two.result c.two.ensures h c.requires) c.div.ensures.exact

pub returns-clause-room : goal.returns-clause-room
returns-clause-room c = λ w room o.
    let e = halved w room c.args.number o in
    let over = c.div.ensures.over (pos o.top) (pos 2) (pos o.top) (w.d * o.factor) 1 (w.d * 2 * o.factor) o.over c.two.ensures e.quotient in
    ok_and (λ s. IsOverFactor w (w.d * 2) s) c.div.result
    (c.div.ensures.room (pos o.top) (pos 2) (pos o.top) (w.d * o.factor) 1 (w.d * 2 * o.factor) o.over c.two.ensures e.quotient e.den e.narrow)
    (IfOk-weaker c.div.result (λ s. IsOver s (pos o.top) (w.d * 2 * o.factor)) (λ s. IsOverFactor w (w.d * 2) s) (λ s h. half_over w c.args.number s o h) over)
