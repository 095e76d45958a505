use Rattle.xc_cert.proofs.OneText.{one_certificate}
use Rattle.xc_cert.proofs.laws.one_certificate.Goals as goal

pub returns : goal.returns
returns c = one_certificate c.one_spelling.ensures
