use Rattle.std.proofs.Common.{sym, ap, ◌∙◌, rules}
use Rattle.std.proofs.lemmas.Str.{lead_after_ascii}
use Rattle.xc_chars.specs.Trimmed.{without_front}
use Rattle.xc_chars.proofs.WhiteSpace.{first_is_ascii, front_gone, front_stays}
use Rattle.xc_chars.proofs.white_space.without_front.Goals as goal

pub range_from-rest-requires : goal.range_from-rest-requires
range_from-rest-requires c = λ _.
    let rest = c.loop-rest.rest.now in
    let ascii = first_is_ascii rest (sym c.begins_with_space.ensures ∙ c.loop-rest-test.true) in
    (ascii.0, λ longer high. lead_after_ascii rest 0 (search rules) ascii.1 longer high)

pub loop-rest-preserved : goal.loop-rest-preserved
loop-rest-preserved c = (search rules, ap without_front c.range_from-rest.ensures.value ∙ front_gone c.loop-rest.rest.now (sym c.begins_with_space.ensures ∙ c.loop-rest-test.true) ∙ c.loop-rest.invariant.1)

pub returns : goal.returns
returns c = sym (front_stays c.loop-rest.rest.now (sym c.begins_with_space.ensures ∙ c.loop-rest-test.false)) ∙ c.loop-rest.invariant.1
