use Rattle.xc_forest.specs.Steps.Trails.{IsNarrowed}
use Rattle.xc_forest.proofs.narrowing.take_vertices.Given as goal

abbrev pub invariant-loop-k : goal.invariant-loop-k
invariant-loop-k g l = IsNarrowed g.E.Exact.parts l.forest l.links l.k l.spans.items l.undos.items
