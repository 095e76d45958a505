use Rattle.std.proofs.Common.{◌<◌, length, filter_map, IfSome}
use Rattle.xc_lists.specs.Places.{before}
use Rattle.xc_concepts.specs.Rules.{nameless_at}
use Rattle.xc_concepts.proofs.Least.{IsLeast}
use Rattle.xc_concepts.proofs.rules.first_nameless.Given as goal

-- the least place of what is judged so far and names no type
abbrev pub invariant-loop-at : goal.invariant-loop-at
invariant-loop-at l = record {
  least : IsLeast (filter_map (nameless_at l.tree) (before l.at)) l.first;
  within : IfSome l.first (λ p. p < length l.tree);
}
