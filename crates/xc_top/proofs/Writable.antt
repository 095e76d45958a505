-- An answer to the joint question can be written.
use Rattle.std.proofs.Common.{◌≡◌, ℕ, ◌^◌, ◌<◌, zero, suc, List, [], ◌∷◌, length, Some, slice_get, get_or, arith, refl, subst}
use Rattle.std.proofs.lemmas.Option.{slice_get-get_or}
use Rattle.xc_joint.specs.Answers.{IsAnswer, IsPart}
use Rattle.xc_joint.specs.declared.types.Cause.TheVariants.{Fact as FactNumber, Ends, Corner}
use Rattle.xc_joint.specs.declared.types.Joint.{Joint}
use Rattle.xc_joint.specs.declared.types.Joint.TheVariants.{Settled, TooWide}
use Rattle.xc_joint.specs.declared.types.Part.{Part}
use Rattle.xc_joint.specs.declared.types.Part.TheVariants.{Values, Wide}
use Rattle.xc_lines.specs.Joints.{IsWritable, NamesFactOf}
use Rattle.xc_report.specs.declared.reports.Fact.{Fact}
use Rattle.xc_system.specs.Systems.{Constraints}
use Rattle.xc_system.specs.declared.types.Certificate.TheVariants.{Feasible, Infeasible}
use Rattle.xc_system.specs.declared.types.Component.{Component}

item_at : {X : Type 0} (xs : List X) (k : ℕ) → k < length xs → (x : X) × (slice_get xs k ≡ Some x)
item_at [] k h = absurd (omega arith)
item_at (x ∷ xs) zero h = (x, refl)
item_at (x ∷ xs) (suc k) h = item_at xs k (omega arith)

-- a fact that is the cause of a part is one of the report's
names_fact : (s : Constraints) (facts : List Fact) (c : Component) (part : Part) → length s.bounds ≡ length facts → IsPart s c part → NamesFactOf facts part
names_fact s facts c (Values values) same h = tt
names_fact s facts c (Wide (FactNumber f)) same h = subst (λ n. f < n) same h.wide.there
names_fact s facts c (Wide (Ends low high wide)) same h = tt
names_fact s facts c (Wide (Corner corner wide)) same h = tt

pub writable : (s : Constraints) (facts : List Fact) (joint : Joint) → s.points < 2 ^ 31 → length s.bounds ≡ length facts → IsAnswer s joint → IsWritable facts joint
writable s facts (Settled (Feasible values)) few same h = let each = h.0.0 in omega arith
writable s facts (Settled (Infeasible r)) few same h = tt
writable s facts (TooWide parts) few same h = λ k d within.
    let component = item_at _ k (subst (λ n. k < n) h.each within) in
    names_fact s facts component.0 (get_or parts k d) same (h.part k component.0 (get_or parts k d) component.1 (slice_get-get_or parts k d within))
