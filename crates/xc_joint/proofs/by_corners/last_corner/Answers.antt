use Rattle.std.proofs.Common.{subst}
use Rattle.xc_joint.proofs.CornerAnswers.{never_stops}
use Rattle.xc_pivot.specs.Walks.{IfTooWide, IsTooWideAt}
use Rattle.xc_pivot.specs.declared.types.Walk.{Walk}
use Rattle.xc_joint.proofs.by_corners.last_corner.Goals as goal

pub unreachable-requires : goal.unreachable-requires
unreachable-requires c = never_stops c.args.problem.now c.in-TooWide.field-0 c.in-TooWide.field-1 c.requires.nothing
    (subst (λ (w : Walk). IfTooWide (IsTooWideAt c.args.problem.now) w) c.in-TooWide.is c.in_ok-corner.ensures.too_wide)
