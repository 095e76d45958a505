use Rattle.xc_elements.specs.Items.{Letter}
use Rattle.xc_elements.proofs.CompletedLaws.{plain_letter}
use Rattle.xc_elements.proofs.KeptLaws.{kept_plain}
use Rattle.xc_elements.proofs.reader.Reader.read_letter.Goals as goal

pub returns-clause-reads : goal.returns-clause-reads
returns-clause-reads c = λ before read.
    let old = c.args.self.now in
    kept_plain (Letter c.args.c) (plain_letter c.args.c) old.opens c.add_written.new.self old.scope old.nodes.items old.behind_return before c.in_ok-add_written.ensures read
