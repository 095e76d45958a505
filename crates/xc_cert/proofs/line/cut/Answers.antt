use Rattle.std.proofs.Common.{sym, ◌∙◌}
use Rattle.xc_cert.proofs.FirstPlace.{cut_there, cut_nowhere}
use Rattle.xc_cert.proofs.line.cut.Goals as goal

pub returns-in-Some : goal.returns-in-Some
returns-in-Some c = cut_there c.args.byte c.args.text.now c.in-Some.at (sym c.byte_place.ensures ∙ c.in-Some.is)

pub returns-in-None : goal.returns-in-None
returns-in-None c = cut_nowhere c.args.byte c.args.text.now (sym c.byte_place.ensures ∙ c.in-None.is)
