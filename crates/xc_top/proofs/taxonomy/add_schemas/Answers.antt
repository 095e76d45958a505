use Rattle.std.proofs.Common.{◌≡◌, ◌∷◌, [], List, Some, Err, ap, sym, subst, arith, rules}
use Rattle.std.proofs.lemmas.List.{nil_from_length}
use Rattle.std.specs.Vec.Iter.{into_iter_items}
use Rattle.xc_concepts.specs.declared.schema.Schema.{Schema}
use Rattle.xc_top.specs.Steps.Stops.{IfStopped}
use Rattle.xc_top.specs.Taxonomies.{AreSchemasOf, schemas_in, linkbases_in, schema_in, linkbase_in, first_schema_broken}
use Rattle.xc_top.proofs.Parts.{kept_more, kept_all}
use Rattle.xc_top.proofs.Schemas.{added_all, added_sound, added_document, added_document_not}
use Rattle.xc_top.proofs.Stops.{if_named}
use Rattle.xc_top.proofs.taxonomy.add_schemas.Goals as goal

pub loop-document-preserved : goal.loop-document-preserved
loop-document-preserved c =
    let docs = c.args.documents.items in
    let now = into_iter_items c.loop-document.document-iterator in
    let rest = into_iter_items c.next.new.self in
    let document = c.in-Some.document in
    let next : now ≡ document ∷ rest = c.in-Some.ensures.steps.0 in
    record {
      can = tt;
      ends = tt;
      added = added_document (schemas_in docs) (schemas_in now) (schemas_in rest) (schema_in document) c.loop-document.concepts c.add_schema.new.concepts
          (ap schemas_in next) c.in_ok-add_schema.ensures.added c.in_ok-add_schema.ensures.sound c.loop-document.invariant.added;
      held = c.add_schema.ensures.held;
      kept = kept_more (linkbases_in docs) (linkbases_in now) (linkbases_in rest) (linkbase_in document) (linkbases_in c.loop-document.linkbases.items) (linkbases_in c.keep_linkbase.new.linkbases.items)
          (ap linkbases_in next) c.in_ok-keep_linkbase.ensures c.loop-document.invariant.kept;
    }

pub returns-in_err-add_schema-clause-refused : goal.returns-in_err-add_schema-clause-refused
returns-in_err-add_schema-clause-refused c =
    let docs = c.args.documents.items in
    let now = into_iter_items c.loop-document.document-iterator in
    let rest = into_iter_items c.next.new.self in
    let document = c.in-Some.document in
    let next : now ≡ document ∷ rest = c.in-Some.ensures.steps.0 in
    let stop = c.in_err-add_schema.field-0 in
    let is : c.from_residual.result ≡ Err stop.0 = search rules in
    subst (λ r. IfStopped r (λ answer. (schemas : List Schema) × AreSchemasOf (schemas_in docs) schemas × (first_schema_broken (schemas_in docs) schemas ≡ Some answer))) (sym is)
    (if_named stop.0 (λ answer broken.
    added_document_not (schemas_in docs) (schemas_in now) (schemas_in rest) (schema_in document) c.loop-document.concepts answer
    (ap schemas_in next) broken c.loop-document.invariant.added)
    c.in_err-add_schema.ensures.refused)

pub returns-clause-schemas : goal.returns-clause-schemas
returns-clause-schemas c =
    let none : into_iter_items c.loop-document.document-iterator ≡ [] = nil_from_length _ (omega (arith, c.in-None.ensures.steps.0, c.loop-document.document-iterator.rest.ok.0)) in
    added_all (schemas_in c.args.documents.items) _ c.loop-document.concepts (ap schemas_in none) c.loop-document.invariant.added

pub returns-clause-sound : goal.returns-clause-sound
returns-clause-sound c =
    let none : into_iter_items c.loop-document.document-iterator ≡ [] = nil_from_length _ (omega (arith, c.in-None.ensures.steps.0, c.loop-document.document-iterator.rest.ok.0)) in
    added_sound (schemas_in c.args.documents.items) _ c.loop-document.concepts (ap schemas_in none) c.loop-document.invariant.added

pub returns-clause-linkbases : goal.returns-clause-linkbases
returns-clause-linkbases c =
    let none : into_iter_items c.loop-document.document-iterator ≡ [] = nil_from_length _ (omega (arith, c.in-None.ensures.steps.0, c.loop-document.document-iterator.rest.ok.0)) in
    kept_all (linkbases_in c.args.documents.items) _ (linkbases_in c.loop-document.linkbases.items) (ap linkbases_in none) c.loop-document.invariant.kept
