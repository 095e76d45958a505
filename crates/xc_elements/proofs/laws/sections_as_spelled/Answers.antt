use Rattle.xc_elements.proofs.Grammar.Sections.{section_holds}
use Rattle.xc_elements.proofs.laws.sections_as_spelled.Goals as goal

pub returns : goal.returns
returns c = section_holds
