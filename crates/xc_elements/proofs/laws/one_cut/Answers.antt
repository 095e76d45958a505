use Rattle.xc_elements.proofs.CutLaws.{one_cut_holds}
use Rattle.xc_elements.proofs.laws.one_cut.Goals as goal

pub returns : goal.returns
returns c = one_cut_holds
