use Rattle.std.proofs.Common.{◌∷◌, ◌++◌, [], ◌-◌, length, drop, false, sym, subst, ap, ◌∙◌}
use Rattle.xc_elements.specs.Steps.Views.{lent_text, name_view, attributes_at}
use Rattle.xc_elements.specs.Steps.Reading.{IsKeptOf}
use Rattle.xc_elements.specs.Items.{Empty}
use Rattle.xc_elements.proofs.KeptLaws.{kept_empty}
use Rattle.xc_elements.proofs.RefusalLaws.{handed_on, fine_tag, fine_empty, refused_tag, refused_empty}
use Rattle.xc_elements.proofs.reader.Reader.read_empty_tag.Goals as goal

pub returns-in_err-node-clause-refused : goal.returns-in_err-node-clause-refused
returns-in_err-node-clause-refused c =
    let old = c.args.self.now in
    let name = name_view c.args.tag.name in
    let pairs = attributes_at (lent_text c.args.tag.attributes) in
    handed_on c.from_residual.result c.in_err-node.field-0.0 _ c.from_residual.ensures
    (λ before read. refused_empty before name pairs c.in_err-node.field-0.0 (refused_tag old.opens old.scope old.nodes.items old.behind_return before name pairs c.in_err-node.field-0.0 read c.in_err-node.ensures.refused))

pub returns-clause-fine : goal.returns-clause-fine
returns-clause-fine c = λ before read.
    let old = c.args.self.now in
    let name = name_view c.args.tag.name in
    let pairs = attributes_at (lent_text c.args.tag.attributes) in
    fine_empty before name pairs (fine_tag old.opens old.scope c.begin_element.new.self.scope old.nodes.items old.behind_return before name pairs c.in_ok-node.node read c.in_ok-node.ensures.scope c.in_ok-node.ensures.node)

pub returns-clause-reads : goal.returns-clause-reads
returns-clause-reads c = λ before read.
    let old = c.args.self.now in
    let name = name_view c.args.tag.name in
    let pairs = attributes_at (lent_text c.args.tag.attributes) in
    subst (λ opens. IsKeptOf opens c.leave.new.self c.push.new.self.items false (Empty name pairs ∷ before)) (sym c.in_ok-node.ensures.opens)
    (kept_empty name pairs old.opens old.scope c.begin_element.new.self.scope c.leave.new.self old.nodes.items c.push.new.self.items c.in_ok-node.node old.behind_return before
    c.in_ok-node.ensures.scope
    (c.leave.ensures ∙ ap (λ n. drop (length c.begin_element.new.self.scope - n) c.begin_element.new.self.scope) c.len-outside.ensures)
    (c.in_ok-push.ensures.items ∙ ap (λ v. v.items ++ c.in_ok-node.node ∷ []) c.in_ok-node.ensures.nodes)
    c.in_ok-node.ensures.node
    read)
