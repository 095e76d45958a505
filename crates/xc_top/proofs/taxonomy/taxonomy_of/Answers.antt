use Rattle.std.proofs.Common.{◌≡◌, ◌∙◌, List, None, Some, map, inr, ap, sym, subst, rules}
use Rattle.xc_calc.specs.declared.arc.ListedArc.{ListedArc}
use Rattle.xc_calc.specs.Networks.{AreNetworks}
use Rattle.xc_calc.specs.Wanted.{AreNodes}
use Rattle.xc_concepts.specs.Held.{AreHeld}
use Rattle.xc_concepts.specs.declared.schema.Schema.{Schema}
use Rattle.xc_top.specs.Documents.{first_unread}
use Rattle.xc_top.specs.Steps.Stops.{IsSettled}
use Rattle.xc_top.specs.Taxonomies.{Part, AreSchemasOf, IsTaxonomyRefusal, schemas_in, linkbases_in, arcs_of, first_schema_broken, first_link_broken}
use Rattle.xc_top.specs.declared.status.Stop.TheVariants as stop
use Rattle.xc_top.proofs.Leaving.{stop_through}
use Rattle.xc_top.proofs.Stops.{if_named}
use Rattle.xc_top.proofs.taxonomy.taxonomy_of.Goals as goal

-- want of memory names nothing
pub returns-in_err-networks-clause-refused : goal.returns-in_err-networks-clause-refused
returns-in_err-networks-clause-refused c = stop_through (λ answer. IsTaxonomyRefusal c.args.kind c.args.documents.items answer) c.from_residual-in_err-networks.result stop.Memory c.from_residual-in_err-networks.ensures.1 tt

pub returns-in_err-networks-clause-status : goal.returns-in_err-networks-clause-status
returns-in_err-networks-clause-status c = stop_through (λ answer. IsSettled answer.status) c.from_residual-in_err-networks.result stop.Memory c.from_residual-in_err-networks.ensures.1 tt

-- the linkbases were read over the concepts as they were added
pub returns-in_err-arcs-clause-refused : goal.returns-in_err-arcs-clause-refused
returns-in_err-arcs-clause-refused c =
    let docs = c.args.documents.items in
    let kind = c.args.kind in
    let declared = c.in_ok-declared.declared in
    let stopped = c.in_err-arcs.field-0 in
    let read : first_unread docs ≡ None = search rules in
    stop_through (λ answer. IsTaxonomyRefusal kind docs answer) c.from_residual-in_err-arcs.result stopped.0 c.from_residual-in_err-arcs.ensures.1
    (if_named stopped.0 (λ answer broken.
    inr (inr (record {
      read = read;
      schemas = declared.concepts;
      declared = c.in_ok-declared.ensures.schemas;
      sound = c.in_ok-declared.ensures.sound;
      names = c.add_schemas.new.names;
      held = c.in_ok-declared.ensures.held;
      broken = subst (λ (s : List Schema). first_link_broken kind s (linkbases_in docs) ≡ Some answer) c.in_ok-concepts.ensures
          (subst (λ (parts : List Part). first_link_broken kind c.in_ok-concepts.concepts parts ≡ Some answer) c.in_ok-declared.ensures.linkbases broken);
    })))
    c.in_err-arcs.ensures.refused)

pub returns-in_err-arcs-clause-status : goal.returns-in_err-arcs-clause-status
returns-in_err-arcs-clause-status c =
    stop_through (λ answer. IsSettled answer.status) c.from_residual-in_err-arcs.result c.in_err-arcs.field-0.0 c.from_residual-in_err-arcs.ensures.1 c.in_err-arcs.ensures.status

pub returns-in_err-wanted-clause-refused : goal.returns-in_err-wanted-clause-refused
returns-in_err-wanted-clause-refused c = stop_through (λ answer. IsTaxonomyRefusal c.args.kind c.args.documents.items answer) c.from_residual-in_err-wanted.result stop.Memory c.from_residual-in_err-wanted.ensures.1 tt

pub returns-in_err-wanted-clause-status : goal.returns-in_err-wanted-clause-status
returns-in_err-wanted-clause-status c = stop_through (λ answer. IsSettled answer.status) c.from_residual-in_err-wanted.result stop.Memory c.from_residual-in_err-wanted.ensures.1 tt

pub returns-clause-taxonomy : goal.returns-clause-taxonomy
returns-clause-taxonomy c =
    let docs = c.args.documents.items in
    let kind = c.args.kind in
    let concepts = c.in_ok-concepts.concepts in
    let added = c.in_ok-declared.ensures in
    let same = c.in_ok-concepts.ensures in
    let read : first_unread docs ≡ None = search rules in
    let arcs = c.in_ok-arcs.ensures.arcs ∙ ap (arcs_of kind concepts) added.linkbases in
    record {
      read = read;
      schemas = concepts;
      declared = subst (λ (s : List Schema). AreSchemasOf (schemas_in docs) s) (sym same) added.schemas;
      sound = subst (λ (s : List Schema). first_schema_broken (schemas_in docs) s ≡ None) (sym same) added.sound;
      held = subst (λ (s : List Schema). AreHeld s c.add_schemas.new.names) (sym same) added.held;
      linked = subst (λ (parts : List Part). first_link_broken kind concepts parts ≡ None) added.linkbases c.in_ok-arcs.ensures.sound;
      says = record {
        networks_are = subst (λ (list : List ListedArc). AreNetworks list c.in_ok-networks.networks.items) arcs c.in_ok-networks.ensures;
        nodes = subst (λ (list : List ListedArc). AreNodes list (map (λ id. id.0) c.in_ok-wanted.wanted.nodes)) arcs c.in_ok-wanted.ensures.nodes;
        typed = c.in_ok-wanted.ensures.typed;
      };
    }
