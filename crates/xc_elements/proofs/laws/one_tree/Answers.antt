use Rattle.std.proofs.Common.{◌∙◌, true, sym, ap}
use Rattle.xc_elements.specs.Documents.{text_of}
use Rattle.xc_elements.specs.DocumentTrees.{meanings}
use Rattle.xc_elements.specs.Elements.{nodes_of}
use Rattle.xc_elements.proofs.CutLaws.{one_cut_holds}
use Rattle.xc_elements.proofs.laws.one_tree.Goals as goal

pub returns : goal.returns
returns c = λ bytes one other t u. t.nodes_are ∙ ap (λ ps. nodes_of (meanings ps)) (one_cut_holds true (text_of bytes) t.pieces u.pieces t.cut u.cut) ∙ sym u.nodes_are
