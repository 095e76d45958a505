use Rattle.std.proofs.Common.{◌≤◌, ◌-◌, ℕ, List}
use Rattle.xc_concepts.proofs.Walks.{Reaches}
use Rattle.xc_concepts.specs.Steps.Links.{as_name, AreBases}
use Rattle.xc_concepts.specs.declared.schema.NamedType.{NamedType}
use Rattle.xc_concepts.proofs.kinds.walk.Given as goal

-- the name is reached by the steps that are taken, and from the name that is marked
abbrev pub invariant-loop-base : goal.invariant-loop-base
invariant-loop-base l = record {
  small : l.steps ≤ l.count;
  walk : (types : List NamedType) → AreBases types l.bases → Reaches types l.steps (as_name l.first) (as_name l.name)
      × ((n : ℕ) × Reaches types n (as_name l.mark) (as_name l.name));
}

abbrev pub decreases-loop-base : goal.decreases-loop-base
decreases-loop-base l = l.count - l.steps
