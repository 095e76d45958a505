use Rattle.std.proofs.Common.{◌≡◌, List}
use Rattle.xc_concepts.specs.Chains.{kind_from}
use Rattle.xc_concepts.specs.Steps.Kinds.{AreKinds}
use Rattle.xc_concepts.specs.Steps.Links.{as_name, AreBases}
use Rattle.xc_concepts.specs.declared.schema.NamedType.{NamedType}
use Rattle.xc_concepts.proofs.kinds.note_kind.Given as goal

-- what is noted so far is right, and the name has the kind of the first
abbrev pub invariant-loop-left : goal.invariant-loop-left
invariant-loop-left l = (types : List NamedType) → AreBases types l.bases → AreKinds types l.fn.kinds → l.kind ≡ kind_from types (as_name l.first)
    → AreKinds types l.kinds × (l.kind ≡ kind_from types (as_name l.name))

abbrev pub decreases-loop-left : goal.decreases-loop-left
decreases-loop-left l = l.left
