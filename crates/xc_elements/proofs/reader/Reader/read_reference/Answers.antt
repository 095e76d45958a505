use Rattle.xc_elements.specs.Items.{Reference}
use Rattle.xc_elements.proofs.CompletedLaws.{plain_reference}
use Rattle.xc_elements.proofs.KeptLaws.{kept_plain}
use Rattle.xc_elements.proofs.reader.Reader.read_reference.Goals as goal

pub returns-clause-reads : goal.returns-clause-reads
returns-clause-reads c = λ before read.
    let old = c.args.self.now in
    kept_plain (Reference c.args.c) (plain_reference c.args.c) old.opens c.add.new.self old.scope old.nodes.items old.behind_return before c.in_ok-add.ensures read
