-- A system of narrow forests is always settled.
use Rattle.std.proofs.Common.{◌≡◌, ◌<◌, ℕ, List, [], length, map, get_or, Option, Some, None, refl, sym, subst}
use Rattle.std.proofs.lemmas.Bool.{false≢true}
use Rattle.std.proofs.lemmas.List.{length-map}
use Rattle.std.proofs.lemmas.Option.{slice_get_within, slice_get-get_or}
use Rattle.std.specs.Prelude.{IsTrue, IsSome, All, is_none, slice_get}
use Rattle.xc_interval.specs.declared.interval.Interval.{Interval}
use Rattle.xc_joint.proofs.Placed.{owner}
use Rattle.xc_joint.specs.Answers.{ArePartsOf}
use Rattle.xc_joint.specs.Causes.{IsCause}
use Rattle.xc_joint.specs.Settling.{HasNarrowForests, NarrowForestsAreSettled}
use Rattle.xc_joint.specs.declared.types.Cause.{Cause}
use Rattle.xc_joint.specs.declared.types.Cause.TheVariants.{Fact, Ends, Corner}
use Rattle.xc_joint.specs.declared.types.Joint.TheVariants.{Settled, TooWide}
use Rattle.xc_joint.specs.declared.types.Part.{Part}
use Rattle.xc_joint.specs.declared.types.Part.TheVariants.{Wide as Caused}
use Rattle.xc_model.specs.Ratio.{Ratio}
use Rattle.xc_lists.proofs.Members.{place_of}
use Rattle.xc_lists.proofs.Members.{places_in}
use Rattle.xc_system.specs.Components.{IsComponent}
use Rattle.xc_system.specs.Forests.{IsNarrowForest}
use Rattle.xc_lists.specs.Members.{IsIn}
use Rattle.xc_system.specs.Systems.{Constraints, facts_of, point_at, range_at}
use Rattle.xc_system.specs.declared.types.Component.{Component}

-- what holds of all holds of each
of_all : (P : ℕ → Type 0) (xs : List ℕ) (x : ℕ) → All P xs → IsIn x xs → P x
of_all P xs x all own = let at = place_of x xs own in subst P at.2 (all at.0 0 at.1)

known_or_wide : (o : Option (Interval Ratio)) → IsSome o → IsTrue (is_none o) → ⊥
known_or_wide None some none = false≢true some
known_or_wide (Some range) some none = false≢true none

module _ (s : Constraints) (c : Component) (component : IsComponent s c) (narrow : HasNarrowForests s) where
  -- no fact of a narrow forest is wide
  not_wide : IsNarrowForest s c → (k : ℕ) → k < length s.bounds → IsIn (point_at s.bounds k) c.points → IsTrue (is_none (range_at s.bounds k)) → ⊥
  not_wide forest k there own wide =
      let points = map (λ b. b.point) s.bounds in
      let within : k < length points = subst (λ n. k < n) (sym (length-map s.bounds (λ b. b.point))) there in
      let listed : IsIn k (facts_of s.bounds (point_at s.bounds k)) = places_in points (point_at s.bounds k) k within (owner s.bounds k there) in
      let all : All (λ f. IsSome (range_at s.bounds f)) (facts_of s.bounds (point_at s.bounds k)) =
      of_all (λ p. All (λ f. IsSome (range_at s.bounds f)) (facts_of s.bounds p)) c.points (point_at s.bounds k) forest.known own in
      known_or_wide (range_at s.bounds k) (of_all (λ f. IsSome (range_at s.bounds f)) (facts_of s.bounds (point_at s.bounds k)) k all listed) wide

  no_cause : (cause : Cause) → IsCause s c cause → ⊥
  no_cause (Ends low high w) h = narrow.ends c component low high w h
  no_cause (Fact k) h = not_wide (narrow.forest c component h.none_empty) k h.wide.there h.wide.own h.wide.wide
  no_cause (Corner lists w) h = h.other.no_forest (narrow.forest c component h.other.none_empty)

no_parts : (s : Constraints) (parts : List Part) → HasNarrowForests s → ArePartsOf s parts → ⊥
no_parts s parts narrow h =
    let k = h.some.0 in
    let cause = h.some.1 in
    let within : k < length h.components = subst (λ n. k < n) h.each (slice_get_within parts k (Caused cause) h.some.2) in
    by k cause h.some.2 (component_at h.components k within)
  where
    component_at : (cs : List Component) (k : ℕ) → k < length cs → (c : Component) × (slice_get cs k ≡ Some c)
    component_at cs k within = let none : Component = record { points = []; equations = [] } in (get_or cs k none, slice_get-get_or cs k none within)

    by : (k : ℕ) (cause : Cause) → slice_get parts k ≡ Some (Caused cause) → (c : Component) × (slice_get h.components k ≡ Some c) → ⊥
    by k cause there (c, at) = no_cause s c (h.are.each k c at) narrow cause (h.part k c (Caused cause) at there)

pub narrow_forests_are_settled : NarrowForestsAreSettled
narrow_forests_are_settled s (Settled certificate) narrow is = (certificate, refl)
narrow_forests_are_settled s (TooWide parts) narrow is = absurd (no_parts s parts narrow is)
