use Rattle.std.proofs.Common.{◌≡◌, length}
use Rattle.std.specs.Prelude.{All}
use Rattle.xc_corners.specs.Operations.{IsZero}
use Rattle.xc_tableau.proofs.tableau.zeros.Given as goal

abbrev pub invariant-loop-place : goal.invariant-loop-place
invariant-loop-place l = record {
  length : length l.zeros.items ≡ l._place;
  zero : All IsZero l.zeros.items;
}
