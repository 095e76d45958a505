use Rattle.std.proofs.Common.{ℕ, ◌<◌, slice_index}
use Rattle.std.specs.Prelude.{IsTrue}
use Rattle.xc_system.specs.Spots.{is_wide_fact}
use Rattle.xc_system.specs.Systems.{facts_of}
use Rattle.xc_joint.proofs.wides.wide_at.Given as goal

-- none of the facts so far is wide
abbrev pub invariant-loop-fact : goal.invariant-loop-fact
invariant-loop-fact l = (i : ℕ) → i < l.fact-index → IsTrue (is_wide_fact l.system.bounds (slice_index (facts_of l.system.bounds l.point) i)) → ⊥
