use Rattle.xc_elements.proofs.WordLaws.{is_nil_of_one, is_nil_of_none}
use Rattle.xc_elements.proofs.texts.is_nothing.Goals as goal

pub returns-in-Some : goal.returns-in-Some
returns-in-Some c = is_nil_of_one _ _ _ c.in-Some.ensures.value

pub returns-in-None : goal.returns-in-None
returns-in-None c = is_nil_of_none _ c.in-None.ensures.value
