use Rattle.std.proofs.Common.{◌≡◌, ℕ, slice_get}
use Rattle.xc_joint.specs.Steps.Settling.{AreFirstAmong}
use Rattle.xc_lists.specs.Members.{IsIn}
use Rattle.xc_joint.proofs.settling.put_values.Given as goal

abbrev pub invariant-loop-number : goal.invariant-loop-number
invariant-loop-number l = record {
  among : AreFirstAmong l.number l.points l.values l.all;
  kept : (p : ℕ) → ¬ IsIn p l.points → slice_get l.all p ≡ slice_get l.initial.all p;
}
