use Rattle.std.proofs.Common.{◌≡◌, ◌++◌}
use Rattle.std.specs.Vec.Iter.{into_iter_items}
use Rattle.xc_concepts.specs.Held.{AreHeld}
use Rattle.xc_top.specs.Taxonomies.{schemas_in, linkbases_in}
use Rattle.xc_top.proofs.Schemas.{Added}
use Rattle.xc_top.proofs.taxonomy.add_schemas.Given as goal

-- the schemas so far are added, and their concepts have their numbers; the linkbases so far are kept
abbrev pub invariant-loop-document : goal.invariant-loop-document
invariant-loop-document l = record {
  can : (goal.iterator-loop-document).can_next l.document-iterator;
  ends : (goal.iterator-loop-document).is_finite l.document-iterator;
  added : Added (schemas_in l.fn.documents.items) (schemas_in (into_iter_items l.document-iterator)) l.concepts;
  held : AreHeld l.concepts l.names;
  kept : linkbases_in l.linkbases.items ++ linkbases_in (into_iter_items l.document-iterator) ≡ linkbases_in l.fn.documents.items;
}
