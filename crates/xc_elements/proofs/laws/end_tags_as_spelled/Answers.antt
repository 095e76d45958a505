use Rattle.xc_elements.proofs.Grammar.EndTags.{end_tag_holds}
use Rattle.xc_elements.proofs.laws.end_tags_as_spelled.Goals as goal

pub returns : goal.returns
returns c = end_tag_holds
