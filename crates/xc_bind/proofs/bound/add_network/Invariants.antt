use Rattle.std.proofs.Common.{◌≡◌, ◌<◌, ◌++◌, All, length, filter_map}
use Rattle.xc_bind.specs.Bindings.{bindings_in}
use Rattle.xc_bind.specs.Steps.Totals.{binding_at}
use Rattle.xc_bind.proofs.bound.add_network.Given as goal

-- the bindings so far, and then those of the totals that are left
abbrev pub invariant-loop-number : goal.invariant-loop-number
invariant-loop-number l = record {
  told : l.list.items ++ filter_map (binding_at l.points l.at l.network.arcs) l.number-iterator ≡ l.initial.list.items ++ bindings_in l.points (l.at, l.network);
  inside : All (λ number. number < length l.points) l.number-iterator;
}
