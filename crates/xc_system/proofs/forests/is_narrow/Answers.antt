use Rattle.std.proofs.Common.{◌≡◌, ◌+◌, ◌*◌, ◌^◌, ◌≤◌, ℕ, List, length, ◌∙◌, subst, ap}
use Rattle.std.specs.Prelude.{IsTrue, ◌↔◌, sum_by}
use Rattle.std.proofs.lemmas.Bool.{false≢true}
use Rattle.xc_interval.specs.Scales.{IsMultipleOf, IsNoneBelow, saturated}
use Rattle.xc_system.proofs.Narrowness.{narrow_from, narrow_to, narrow_none}
use Rattle.xc_system.specs.Forests.{total_reach}
use Rattle.xc_system.specs.Steps.Measured.{ArePointsOver, reach_at}
use Rattle.xc_system.specs.Systems.{facts_of}
use Rattle.xc_system.proofs.forests.is_narrow.Goals as goal

pub returns-in_default : goal.returns-in_default
returns-in_default c =
    let s = c.args.system.now in
    let none : IsNoneBelow 1 (ArePointsOver s.bounds c.args.component.now.points) = subst (λ (ps : List ℕ). IsNoneBelow 1 (ArePointsOver s.bounds ps)) c.as_slice-points.ensures c.in_default.ensures.none in
    (λ h. absurd (false≢true h), λ h. absurd (narrow_none s c.args.component.now none h.0 h.1))

pub returns : goal.returns
returns c =
    let s = c.args.system.now in
    let part = c.args.component.now in
    let scale = c.in-Some.scale in
    let same : c.as_slice-points.result.now ≡ part.points = c.as_slice-points.ensures in
    let least : IsMultipleOf 1 (ArePointsOver s.bounds part.points) scale = subst (λ (ps : List ℕ). IsMultipleOf 1 (ArePointsOver s.bounds ps) scale) same c.in-Some.ensures.some in
    let reached : c.total_reach.result ≡ saturated (total_reach s part scale) = c.total_reach.ensures ∙ ap (λ (ps : List ℕ). saturated (sum_by (λ p. sum_by (reach_at s.bounds scale) (facts_of s.bounds p)) ps)) same in
    let told : IsTrue c.leaves_room.result ↔ ((2 * length part.points + 4) * (scale + total_reach s part scale) ≤ 2 ^ 126) =
    subst (λ (ps : List ℕ). IsTrue c.leaves_room.result ↔ ((2 * length ps + 4) * (scale + total_reach s part scale) ≤ 2 ^ 126)) same (c.leaves_room.ensures (total_reach s part scale) reached) in
    (λ h. narrow_from s part scale least (told.0 h), λ h. told.1 (narrow_to s part scale least h.1))
