use Rattle.std.proofs.Common.{◌==◌, ◌+◌, drop, nat_eq, ap, ◌∙◌}
use Rattle.std.specs.Option.{option_or}
use Rattle.xc_concepts.proofs.LinkLists.{links_step}
use Rattle.xc_concepts.specs.Chains.{has_number}
use Rattle.xc_concepts.specs.Steps.Links.{next_of, next_name, first_type_of}
use Rattle.xc_concepts.proofs.links.concept_links.Goals as goal

pub loop-concept-preserved : goal.loop-concept-preserved
loop-concept-preserved c = λ number.
    let concepts = c.args.concepts.now in
    let at = c.loop-concept.concept-index in
    let concept = c.concept-item.result in
    let link = c.in_ok-concept_link.field-0 in
    ap (λ links. option_or (next_name (next_of nat_eq number links)) (first_type_of number (drop (at + 1) concepts))) c.in_ok-push.ensures.items
    ∙ links_step (has_number number) (λ d. d.declared.first_type) nat_eq number concepts at concept c.loop-concept.links.items link c.loop-concept-test.true c.concept-item.is
    (ap (λ n. n == number) c.in_ok-concept_link.ensures.key) c.in_ok-concept_link.ensures.next
    ∙ c.loop-concept.invariant number
