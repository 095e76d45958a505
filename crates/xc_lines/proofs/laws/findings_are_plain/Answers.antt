use Rattle.xc_lines.proofs.FindingLines.{findings_are_plain}
use Rattle.xc_lines.proofs.laws.findings_are_plain.Goals as goal

pub returns : goal.returns
returns c = findings_are_plain
