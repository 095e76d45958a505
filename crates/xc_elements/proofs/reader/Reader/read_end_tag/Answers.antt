use Rattle.std.proofs.Common.{◌<◌, ◌∙◌, ap, length, subst}
use Rattle.xc_elements.specs.Steps.Kept.{kept_of, AreBelow}
use Rattle.xc_elements.specs.Steps.Reading.{end_node}
use Rattle.xc_elements.specs.Steps.Views.{name_view}
use Rattle.xc_elements.proofs.CompletedLaws.{ended_there}
use Rattle.xc_elements.proofs.KeptLaws.{kept_end}
use Rattle.xc_elements.proofs.reader.Reader.read_end_tag.Goals as goal

pub returns-clause-reads : goal.returns-clause-reads
returns-clause-reads c = λ before read.
    let old = c.args.self.now in
    let element = c.in-Some.element in
    let within : element.number < length old.nodes.items = (subst (λ ks. AreBelow (length old.nodes.items) ks) c.in-Some.ensures c.requires.begun).0 in
    kept_end (name_view c.args.name) old.opens c.pop.new.self (kept_of element) old.scope c.leave.new.self old.nodes.items _ old.behind_return before
    c.in-Some.ensures
    c.leave.ensures
    (ended_there old.nodes.items c.index_mut-node.result.now element.number c.len-end.result c.of.result within c.index_mut-node.ensures.value
    ∙ ap (λ n. end_node element.number n c.of.result old.nodes.items) (c.len-end.ensures ∙ old.nodes.ok.0)
    ∙ ap (λ t. end_node element.number (length old.nodes.items) t old.nodes.items) c.of.ensures)
    read
