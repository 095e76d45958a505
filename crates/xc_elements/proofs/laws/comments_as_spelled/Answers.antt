use Rattle.xc_elements.proofs.Grammar.Comments.{comment_holds}
use Rattle.xc_elements.proofs.laws.comments_as_spelled.Goals as goal

pub returns : goal.returns
returns c = comment_holds
