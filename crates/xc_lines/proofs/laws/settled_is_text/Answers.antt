use Rattle.xc_lines.proofs.SettledText.{settled_is_text}
use Rattle.xc_lines.proofs.laws.settled_is_text.Goals as goal

pub returns : goal.returns
returns c = settled_is_text c.passed_texts_join.ensures c.written_is_text.ensures
