use Rattle.std.proofs.Common.{◌≡◌, length}
use Rattle.xc_sample.specs.Steps.Backwards.{AreLastValues}
use Rattle.xc_sample.proofs.values.values.Given as goal

-- as many values of last nodes as were worked out
abbrev pub invariant-loop-done : goal.invariant-loop-done
invariant-loop-done l = record { each : length l.values.items ≡ l.done; last : AreLastValues l.count l.values.items }
