use Rattle.std.proofs.Common.{◌<◌, ℕ, List, get_or, length, sym, subst}
use Rattle.xc_joint.proofs.by_corners.passing_operation_with.Goals as goal

pub put_values-requires-clause-inside : goal.put_values-requires-clause-inside
put_values-requires-clause-inside c = subst (λ (ps : List ℕ). (k d : ℕ) → k < length ps → get_or ps k d < length c.args.all.now) (sym c.as_slice.ensures)
    (subst (λ (n : ℕ). (k d : ℕ) → k < length c.args.component.now.points → get_or c.args.component.now.points k d < n) (sym c.requires.all)
    (c.components_are_closed.ensures.points c.args.system.now c.args.component.now c.requires.component))
