use Rattle.xc_elements.proofs.Grammar.Tags.{start_tag_holds}
use Rattle.xc_elements.proofs.laws.start_tags_as_spelled.Goals as goal

pub returns : goal.returns
returns c = start_tag_holds
