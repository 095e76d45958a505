use Rattle.xc_elements.proofs.CutLaws.{one_fault_holds}
use Rattle.xc_elements.proofs.laws.one_fault.Goals as goal

pub returns : goal.returns
returns c = one_fault_holds
