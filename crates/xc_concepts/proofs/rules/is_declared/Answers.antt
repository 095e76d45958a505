use Rattle.std.proofs.Common.{false, ap, sym, ◌∙◌, is_some}
use Rattle.std.specs.Option.{option_map_or}
use Rattle.xc_concepts.proofs.Numbering.{declared_by_number}
use Rattle.xc_concepts.specs.Chains.{concept_numbered}
use Rattle.xc_concepts.proofs.rules.is_declared.Goals as goal

pub returns-in-Some : goal.returns-in-Some
returns-in-Some c =
    let schemas = c.args.concepts.now in
    c.has_number.ensures
    ∙ ap (λ o. option_map_or (λ n. is_some (concept_numbered schemas n)) o false) c.in-Some.ensures.number
    ∙ sym (declared_by_number c.numbers_tell_names.ensures c.args.names.now c.args.space.now c.args.local.now schemas c.requires)

pub returns-in-None : goal.returns-in-None
returns-in-None c =
    let schemas = c.args.concepts.now in
    ap (λ o. option_map_or (λ n. is_some (concept_numbered schemas n)) o false) c.in-None.ensures.number
    ∙ sym (declared_by_number c.numbers_tell_names.ensures c.args.names.now c.args.space.now c.args.local.now schemas c.requires)
