use Rattle.std.proofs.Common.{ap, sym, ◌∙◌, length, option_map}
use Rattle.xc_concepts.proofs.Earlier.{first_broken_by_rules}
use Rattle.xc_concepts.specs.Steps.{nameless_fault, id_fault, concept_fault, earlier_fault}
use Rattle.xc_concepts.proofs.rules.first_node_fault.Goals as goal

pub returns-in-Some : goal.returns-in-Some
returns-in-Some c =
    ap (option_map (λ x. x.1)) (sym c.in-Some.is ∙ c.earlier_fault-2.ensures ∙ (λ i. earlier_fault ((c.earlier_fault.ensures ∙ (λ j. earlier_fault ((c.nameless_fault-nameless.ensures ∙ ap (option_map nameless_fault) c.first_nameless.ensures) j) ((c.id_fault-id.ensures ∙ ap (option_map id_fault) c.in_ok-first_repeated_id.ensures) j))) i) ((c.concept_fault-concept.ensures ∙ ap (option_map concept_fault) c.in_ok-first_repeated_concept.ensures) i)))
    ∙ first_broken_by_rules c.args.concepts.now c.args.tree.now (length c.args.tree.now)

pub returns-in-None : goal.returns-in-None
returns-in-None c =
    ap (option_map (λ x. x.1)) (sym c.in-None.is ∙ c.earlier_fault-2.ensures ∙ (λ i. earlier_fault ((c.earlier_fault.ensures ∙ (λ j. earlier_fault ((c.nameless_fault-nameless.ensures ∙ ap (option_map nameless_fault) c.first_nameless.ensures) j) ((c.id_fault-id.ensures ∙ ap (option_map id_fault) c.in_ok-first_repeated_id.ensures) j))) i) ((c.concept_fault-concept.ensures ∙ ap (option_map concept_fault) c.in_ok-first_repeated_concept.ensures) i)))
    ∙ first_broken_by_rules c.args.concepts.now c.args.tree.now (length c.args.tree.now)
