use Rattle.std.proofs.Common.{◌*◌, pos, ◌*ℤ◌, ◌+ℤ◌}
use Rattle.xc_joint.specs.Widths.{IsWholeOver}
use Rattle.xc_joint.proofs.Rooms.{made, not_err, ok_and, real_over}
use Rattle.std.proofs.lemmas.Result.{IfOk-weaker}
use Rattle.xc_joint.specs.Small.{IsAt}
use Rattle.xc_joint.proofs.Bounded.{value_is}
use Rattle.xc_model.specs.Fraction.{SameNumber, sum_of}
use Rattle.xc_model.specs.Ratio.{IsOver, fraction_of}
use Rattle.xc_joint.proofs.small.value_at.Goals as goal

pub returns-clause-is : goal.returns-clause-is
returns-clause-is c =
    IfOk-weaker c.add.result (λ x. SameNumber (fraction_of x) (sum_of (fraction_of c.args.value.now.real) (fraction_of c.in_ok-product.product))) (λ x. IsAt (fraction_of c.args.small) c.args.value.now x)
    (λ x h. value_is x c.in_ok-product.product c.args.value.now c.args.small h c.in_ok-product.ensures.exact) c.add.ensures.exact

pub returns-in_err-product-clause-room : goal.returns-in_err-product-clause-room
returns-in_err-product-clause-room c = λ w room parts o.
    let e = made w room parts.real.whole parts.tiny.whole c.args.small o parts.real.small parts.tiny.small in
    absurd (not_err c.mul.result (c.mul.ensures.room parts.tiny.whole (pos o.top) (parts.tiny.whole *ℤ pos o.top) 1 (w.d * 2 * o.factor) (w.d * 2 * o.factor) parts.tiny.over o.over e.product e.den e.t_narrow) c.in_err-product.was)

pub returns-clause-room : goal.returns-clause-room
returns-clause-room c = λ w room parts o.
    let e = made w room parts.real.whole parts.tiny.whole c.args.small o parts.real.small parts.tiny.small in
    let product = c.in_ok-product.ensures.over parts.tiny.whole (pos o.top) (parts.tiny.whole *ℤ pos o.top) 1 (w.d * 2 * o.factor) (w.d * 2 * o.factor) parts.tiny.over o.over e.product in
    let real = real_over w c.args.value.now.real parts.real.whole o.factor o.over.positive parts.real.over in
    let x = parts.real.whole *ℤ pos (2 * o.factor) in
    let y = parts.tiny.whole *ℤ pos o.top in
    ok_and (IsWholeOver (w.d * 2 * o.factor)) c.add.result
    (c.add.ensures.room x y (w.d * 2 * o.factor) real product e.den e.x_narrow e.t_narrow e.sum)
    (IfOk-weaker c.add.result (λ z. IsOver z (x +ℤ y) (w.d * 2 * o.factor)) (IsWholeOver (w.d * 2 * o.factor)) (λ z h. (x +ℤ y, h)) (c.add.ensures.over x y (w.d * 2 * o.factor) real product))
