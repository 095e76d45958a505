use Rattle.std.proofs.Common.{rules}
use Rattle.std.specs.Prelude.{FitsSigned}
use Rattle.std.specs.Int.{w128}
use Rattle.std.proofs.lemmas.Int.{to_z-of_z}
use Rattle.std.proofs.Common.{pos, ◌≢◌}
use Rattle.std.specs.Prelude.{◌-ℤ◌, ◌<ℤ◌, ◌≤ℤ◌}
use Rattle.xc_frac.proofs.Inverses.{inverse_up, inverse_down, inverse_down_cross}
use Rattle.xc_frac.proofs.frac.Frac.inverse.Goals as goal

pub lowest-requires : goal.lowest-requires
lowest-requires c =
    let num : FitsSigned w128 c.self.inside.num = search rules in
    let den : FitsSigned w128 c.self.inside.den = search rules in
    let minus_num : FitsSigned w128 (pos 0 -ℤ c.self.inside.num) = search rules in
    let minus_den : FitsSigned w128 (pos 0 -ℤ c.self.inside.den) = search rules in
    let below : c.self.inside.num <ℤ pos 0 = search rules in
    simp to_z-of_z (inverse_down _ _ c.self.inside.lowest below)

pub lowest-requires-else-self-lt0 : goal.lowest-requires-else-self-lt0
lowest-requires-else-self-lt0 c =
    let num : FitsSigned w128 c.self.inside.num = search rules in
    let den : FitsSigned w128 c.self.inside.den = search rules in
    let some : c.self.inside.num ≢ pos 0 = rw (← c.self.view_is) at c.requires in
    let above : pos 0 ≤ℤ c.self.inside.num = search rules in
    simp to_z-of_z (inverse_up _ _ c.self.inside.lowest some above)

pub returns-then-self-lt0 : goal.returns-then-self-lt0
returns-then-self-lt0 c =
    let num : FitsSigned w128 c.self.inside.num = search rules in
    let den : FitsSigned w128 c.self.inside.den = search rules in
    let minus_num : FitsSigned w128 (pos 0 -ℤ c.self.inside.num) = search rules in
    let minus_den : FitsSigned w128 (pos 0 -ℤ c.self.inside.den) = search rules in
    let result_num = simp to_z-of_z at c.lowest.ensures.num in
    let result_den = simp to_z-of_z at c.lowest.ensures.den in
    rw (← c.self.view_is, result_num, result_den) (inverse_down_cross c.self.inside.num c.self.inside.den)
