use Rattle.std.proofs.Common.{◌≡◌, length}
use Rattle.xc_top.proofs.Judging.{Judged}
use Rattle.xc_top.proofs.verdicts.verdicts_of.Given as goal

-- the bindings so far have their verdicts
abbrev pub invariant-loop-binding : goal.invariant-loop-binding
invariant-loop-binding l = record {
  judged : Judged l.points l.bindings l.binding-index l.verdicts.items;
  many : length l.verdicts.items ≡ l.binding-index;
}
