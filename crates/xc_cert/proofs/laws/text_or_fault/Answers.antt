use Rattle.xc_cert.proofs.OneText.{text_or_fault}
use Rattle.xc_cert.proofs.laws.text_or_fault.Goals as goal

pub returns : goal.returns
returns c = text_or_fault
