use Rattle.xc_elements.specs.Items.{Section}
use Rattle.xc_elements.specs.Steps.Views.{lent_text}
use Rattle.xc_elements.proofs.CompletedLaws.{plain_section}
use Rattle.xc_elements.proofs.KeptLaws.{kept_plain}
use Rattle.xc_elements.proofs.reader.Reader.read_section.Goals as goal

pub returns-clause-reads : goal.returns-clause-reads
returns-clause-reads c = λ before read.
    let old = c.args.self.now in
    kept_plain (Section (lent_text c.args.text)) (plain_section (lent_text c.args.text)) old.opens c.add_section.new.self old.scope old.nodes.items old.behind_return before c.in_ok-add_section.ensures read
