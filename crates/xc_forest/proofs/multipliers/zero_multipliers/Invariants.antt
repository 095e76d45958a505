use Rattle.std.proofs.Common.{◌≡◌, length}
use Rattle.xc_forest.specs.Steps.Shares.{AreZero}
use Rattle.xc_forest.proofs.multipliers.zero_multipliers.Given as goal

abbrev pub invariant-loop-vertex : goal.invariant-loop-vertex
invariant-loop-vertex l = record { each : length l.multipliers.items ≡ l._vertex; zero : AreZero l.multipliers.items }
