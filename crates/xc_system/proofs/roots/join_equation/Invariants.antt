use Rattle.std.proofs.Common.{◌≡◌, map}
use Rattle.xc_system.proofs.Joins.{IsPartly}
use Rattle.xc_system.specs.Systems.{equation_at}
use Rattle.xc_system.proofs.roots.join_equation.Given as goal

abbrev pub invariant-loop-entry : goal.invariant-loop-entry
invariant-loop-entry l = record {
  entries : (equation_at l.equations l.i).entries ≡ l.entries;
  partly : IsPartly l.equations l.i (map (λ entry. entry.point) l.entries) l.entry-index l.up;
}
