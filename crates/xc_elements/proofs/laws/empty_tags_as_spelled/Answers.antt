use Rattle.xc_elements.proofs.Grammar.Tags.{empty_tag_holds}
use Rattle.xc_elements.proofs.laws.empty_tags_as_spelled.Goals as goal

pub returns : goal.returns
returns c = empty_tag_holds
