use Rattle.std.proofs.Common.{◌+◌, drop, ap, ◌∙◌}
use Rattle.std.specs.Option.{option_or}
use Rattle.xc_concepts.proofs.LinkLists.{links_step, turned_name}
use Rattle.xc_concepts.specs.Rules.{is_same_name}
use Rattle.xc_concepts.specs.Steps.Links.{as_name, is_same_type, next_of, next_name, base_of}
use Rattle.xc_concepts.proofs.links.type_links.Goals as goal

pub loop-named-preserved : goal.loop-named-preserved
loop-named-preserved c = λ name.
    let types = c.args.types.now in
    let at = c.loop-named.named-index in
    let named = c.named-item.result in
    let link = c.in_ok-type_link.field-0 in
    ap (λ links. option_or (next_name (next_of is_same_type name links)) (base_of (drop (at + 1) types) (as_name name))) c.in_ok-push.ensures.items
    ∙ links_step (λ t. is_same_name (as_name name) t.name) (λ t. t.base) is_same_type name types at named c.loop-named.links.items link c.loop-named-test.true c.named-item.is
    (ap (λ n. is_same_name n (as_name name)) c.in_ok-type_link.ensures.key ∙ turned_name named.name (as_name name)) c.in_ok-type_link.ensures.next
    ∙ c.loop-named.invariant name
