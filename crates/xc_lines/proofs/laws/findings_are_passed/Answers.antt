use Rattle.xc_lines.proofs.FindingLines.{findings_are_passed}
use Rattle.xc_lines.proofs.laws.findings_are_passed.Goals as goal

pub returns : goal.returns
returns c = findings_are_passed
