use Rattle.std.proofs.Common.{sym, ◌∙◌, rules}
use Rattle.xc_chars.proofs.WhiteSpace.{end_gone, end_stays}
use Rattle.xc_chars.proofs.white_space.without_end.Goals as goal

pub loop-rest-preserved : goal.loop-rest-preserved
loop-rest-preserved c = (search rules, end_gone c.loop-rest.rest.now c.range-rest.result.now (sym c.ends_with_space.ensures ∙ c.loop-rest-test.true) c.range-rest.ensures.value ∙ c.loop-rest.invariant.1)

pub returns : goal.returns
returns c = sym (end_stays c.loop-rest.rest.now (sym c.ends_with_space.ensures ∙ c.loop-rest-test.false)) ∙ c.loop-rest.invariant.1
