use Rattle.xc_top.proofs.OneAnswer.{one_documents}
use Rattle.xc_top.proofs.laws.documents_are_one.Goals as goal

pub returns : goal.returns
returns c = λ files words one other h k. one_documents c.one_tree.ensures c.one_first_fault.ensures c.tree_or_fault.ensures files words one other h k
