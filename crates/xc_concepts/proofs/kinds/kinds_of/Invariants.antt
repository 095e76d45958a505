use Rattle.xc_concepts.specs.Declarations.{types_in}
use Rattle.xc_concepts.specs.Steps.Kinds.{AreKinds}
use Rattle.xc_concepts.proofs.kinds.kinds_of.Given as goal

-- what is noted so far is right
abbrev pub invariant-loop-name : goal.invariant-loop-name
invariant-loop-name l = record {
  kinds : AreKinds (types_in l.schemas) l.kinds;
  can : goal.iterator-loop-name.can_next l.name-iterator;
  finite : goal.iterator-loop-name.is_finite l.name-iterator;
}
