use Rattle.std.proofs.Common.{◌+◌, ◌*◌, ◌^◌, ◌≤◌, ℕ, subst}
use Rattle.std.specs.Prelude.{IsTrue, ◌↔◌}
use Rattle.std.proofs.Math.Dec.{leb}
use Rattle.xc_system.proofs.Narrowness.{room_told}
use Rattle.xc_system.proofs.forests.leaves_room.Goals as goal

pub returns : goal.returns
returns c exact is =
    subst (λ (f : ℕ). IsTrue (leb c.saturating_mul.result (2 ^ 126)) ↔ (f * (c.args.scale + exact) ≤ 2 ^ 126)) c.times_for.ensures
    (room_told c.times_for.result c.args.scale exact c.args.reach c.saturating_add.result c.saturating_mul.result c.ranges.scale.fits c.saturated_sums.ensures.sums c.saturated_sums.ensures.products is c.saturating_add.ensures c.saturating_mul.ensures)
