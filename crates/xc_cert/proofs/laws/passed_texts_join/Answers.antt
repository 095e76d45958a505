use Rattle.xc_cert.proofs.OneText.{passed_texts_join}
use Rattle.xc_cert.proofs.laws.passed_texts_join.Goals as goal

pub returns : goal.returns
returns c = passed_texts_join
