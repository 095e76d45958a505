use Rattle.std.proofs.Common.{sym, subst}
use Rattle.std.specs.Prelude.{IfSome}
use Rattle.xc_joint.specs.Widths.{IsOverFactor, IsWithin}
use Rattle.xc_joint.proofs.Rooms.{end_first, end_last, not_err_and}
use Rattle.xc_joint.proofs.Bounded.{at_bounds}
use Rattle.xc_joint.proofs.small.bound_at.Goals as goal

pub returns-clause-bounds : goal.returns-clause-bounds
returns-clause-bounds c =
    at_bounds c.args.range.now c.args.value.now c.value.result c.value-2.result c.low_tiny.result c.high_tiny.result c.in_ok-low.low c.in_ok-high.high c.lesser_bound.result
    c.value.ensures c.value-2.ensures c.low_tiny.ensures.same c.high_tiny.ensures.same c.in_ok-low.ensures.bounds c.in_ok-high.ensures.bounds c.lesser_bound.ensures.positive c.lesser_bound.ensures.under

pub returns-in_err-low-clause-room : goal.returns-in_err-low-clause-room
returns-in_err-low-clause-room c = λ w room within.
    let low = subst (IsWithin w.d w.r) (sym c.value.ensures) within.low in
    absurd (not_err_and (λ bound. IfSome bound (λ f. IsOverFactor w w.d f)) c.quotient.result (c.quotient.ensures.room w room within.real low (end_first w c.low_tiny.result c.args.value.now.tiny c.low_tiny.ensures.tiny within.tiny)) c.in_err-low.was)

pub returns-in_err-high-clause-room : goal.returns-in_err-high-clause-room
returns-in_err-high-clause-room c = λ w room within.
    let high = subst (IsWithin w.d w.r) (sym c.value-2.ensures) within.high in
    absurd (not_err_and (λ bound. IfSome bound (λ f. IsOverFactor w w.d f)) c.quotient-2.result (c.quotient-2.ensures.room w room high within.real (end_last w c.args.value.now.tiny c.high_tiny.result within.tiny c.high_tiny.ensures.tiny)) c.in_err-high.was)

pub returns-clause-room : goal.returns-clause-room
returns-clause-room c = λ w room within.
    let low = subst (IsWithin w.d w.r) (sym c.value.ensures) within.low in
    let high = subst (IsWithin w.d w.r) (sym c.value-2.ensures) within.high in
    c.lesser_bound.ensures.over w
    (c.in_ok-low.ensures.room w room within.real low (end_first w c.low_tiny.result c.args.value.now.tiny c.low_tiny.ensures.tiny within.tiny))
    (c.in_ok-high.ensures.room w room high within.real (end_last w c.args.value.now.tiny c.high_tiny.result within.tiny c.high_tiny.ensures.tiny))
