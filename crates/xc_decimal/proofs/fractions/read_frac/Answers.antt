use Rattle.std.proofs.Common.{sym, ◌∙◌}
use Rattle.xc_decimal.proofs.Spelled.{slash_reads, whole_text_reads}
use Rattle.xc_decimal.proofs.fractions.read_frac.Goals as goal

pub returns-in-Some : goal.returns-in-Some
returns-in-Some c = slash_reads c.args.text.now c.in-Some.at c.over.result (sym c.slash_at.ensures ∙ c.in-Some.is) c.over.ensures

pub returns-in-None : goal.returns-in-None
returns-in-None c = whole_text_reads c.args.text.now c.whole.result (sym c.slash_at.ensures ∙ c.in-None.is) c.whole.ensures
