use Rattle.std.proofs.Common.{◌≡◌, length, reverse}
use Rattle.xc_decimal.specs.Reading.{without_zeros}
use Rattle.xc_decimal.proofs.reading.trimmed.Given as goal

abbrev pub invariant-loop-kept : goal.invariant-loop-kept
invariant-loop-kept l = without_zeros (reverse l.kept) ≡ without_zeros (reverse l.digits)

abbrev pub decreases-loop-kept : goal.decreases-loop-kept
decreases-loop-kept l = length l.kept
