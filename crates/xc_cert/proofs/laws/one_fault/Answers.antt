use Rattle.xc_cert.proofs.OneText.{one_fault}
use Rattle.xc_cert.proofs.laws.one_fault.Goals as goal

pub returns : goal.returns
returns c = one_fault
