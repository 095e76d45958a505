use Rattle.xc_cert.proofs.OneText.{written_is_text}
use Rattle.xc_cert.proofs.laws.written_is_text.Goals as goal

pub returns : goal.returns
returns c = written_is_text
