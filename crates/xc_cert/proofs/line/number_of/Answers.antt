use Rattle.xc_cert.proofs.Naturals.{number_read, no_number_read}
use Rattle.xc_cert.proofs.line.number_of.Goals as goal

pub returns-in-Some : goal.returns-in-Some
returns-in-Some c = number_read c.args.text.now c.in-Some.value c.whole_number.result c.in-Some.ensures c.whole_number.ensures

pub returns-in-None : goal.returns-in-None
returns-in-None c = no_number_read c.args.text.now c.in-None.ensures
