use Rattle.std.proofs.Common.{◌≡◌, ◌++◌}
use Rattle.std.specs.Vec.Iter.{into_iter_items}
use Rattle.xc_top.specs.Taxonomies.{linkbases_in, arcs_of, first_link_broken}
use Rattle.xc_top.proofs.taxonomy.add_linkbases.Given as goal

-- the arcs so far and those of the linkbases that are left are all, and what is left breaks the same rule first
abbrev pub invariant-loop-document : goal.invariant-loop-document
invariant-loop-document l = record {
  can : (goal.iterator-loop-document).can_next l.document-iterator;
  ends : (goal.iterator-loop-document).is_finite l.document-iterator;
  kind : l.arcs.kind ≡ l.fn.kind;
  arcs : l.arcs.arcs ++ arcs_of l.fn.kind l.concepts (linkbases_in (into_iter_items l.document-iterator)) ≡ arcs_of l.fn.kind l.concepts (linkbases_in l.fn.documents.items);
  first : first_link_broken l.fn.kind l.concepts (linkbases_in (into_iter_items l.document-iterator)) ≡ first_link_broken l.fn.kind l.concepts (linkbases_in l.fn.documents.items);
}
