use Rattle.std.proofs.Common.{◌+◌, arith, ap, length, sym, ◌∙◌, option_map}
use Rattle.xc_concepts.proofs.Inside.{none_beyond}
use Rattle.xc_lists.proofs.Ranges.{first_after, first_step, first_none, absent}
use Rattle.xc_concepts.specs.References.{base_of_restriction}
use Rattle.xc_concepts.specs.Steps.{restricted_node, reference_view}
use Rattle.xc_concepts.proofs.references.first_base.Goals as goal

pub loop-at-init : goal.loop-at-init
loop-at-init c =
    let nodes = c.args.tree.now in
    let element = c.args.element in
    first_after (base_of_restriction nodes (restricted_node nodes c.args.restricted) element) (element + 1) (length nodes) (omega (arith, c.requires))
    (λ k high. none_beyond nodes c.nodes.result.now c.nodes.ensures.nodes c.nodes.ensures.tree c.args.restricted element k c.index-nodes-element.result c.requires (omega (arith, c.requires)) (λ h. omega (arith, h.0)))

pub loop-at-preserved : goal.loop-at-preserved
loop-at-preserved c =
    let nodes = c.args.tree.now in
    first_step (base_of_restriction nodes (restricted_node nodes c.args.restricted) c.args.element) c.loop-at.at (length nodes) (omega (arith, c.loop-at-test.true, c.min-end.ensures, c.count.ensures))
    (sym c.base_of_restriction-base.ensures.reference ∙ ap (option_map reference_view) (absent c.base_of_restriction-base.result (sym c.is_some.ensures ∙ c.if-is_some.false)))
    ∙ c.loop-at.invariant

pub returns-clause-reference : goal.returns-clause-reference
returns-clause-reference c =
    let nodes = c.args.tree.now in
    let element = c.args.element in
    sym (sym c.loop-at.invariant ∙ first_none (base_of_restriction nodes (restricted_node nodes c.args.restricted) element) c.loop-at.at (length nodes)
    (λ k low high. none_beyond nodes c.nodes.result.now c.nodes.ensures.nodes c.nodes.ensures.tree c.args.restricted element k c.index-nodes-element.result c.requires high
    (λ h. omega (arith, h.1, low, high, c.loop-at-test.false, c.min-end.ensures, c.count.ensures))))
