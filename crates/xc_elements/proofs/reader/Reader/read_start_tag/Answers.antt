use Rattle.std.proofs.Common.{◌∷◌, ◌++◌, [], length, ap, ◌∙◌}
use Rattle.std.specs.Prelude.{string_bytes}
use Rattle.xc_elements.specs.Steps.Views.{lent_text, name_view, attributes_at}
use Rattle.xc_elements.proofs.KeptLaws.{kept_start, opened_as}
use Rattle.xc_elements.proofs.RefusalLaws.{handed_on, fine_tag, refused_tag}
use Rattle.xc_elements.proofs.reader.Reader.read_start_tag.Goals as goal

pub returns-in_err-node-clause-refused : goal.returns-in_err-node-clause-refused
returns-in_err-node-clause-refused c =
    let old = c.args.self.now in
    let name = name_view c.args.tag.name in
    let pairs = attributes_at (lent_text c.args.tag.attributes) in
    handed_on c.from_residual.result c.in_err-node.field-0.0 _ c.from_residual.ensures
    (λ before read. refused_tag old.opens old.scope old.nodes.items old.behind_return before name pairs c.in_err-node.field-0.0 read c.in_err-node.ensures.refused)

pub returns-clause-fine : goal.returns-clause-fine
returns-clause-fine c = λ before read.
    let old = c.args.self.now in
    fine_tag old.opens old.scope c.begin_element.new.self.scope old.nodes.items old.behind_return before (name_view c.args.tag.name) (attributes_at (lent_text c.args.tag.attributes)) c.in_ok-node.node read c.in_ok-node.ensures.scope c.in_ok-node.ensures.node

pub returns-clause-reads : goal.returns-clause-reads
returns-clause-reads c = λ before read.
    let old = c.args.self.now in
    kept_start (name_view c.args.tag.name) (attributes_at (lent_text c.args.tag.attributes)) old.opens c.push.new.self old.scope c.begin_element.new.self.scope old.nodes.items c.push-2.new.self.items c.in_ok-node.node old.behind_return before
    (opened_as c.len-number.result (length old.nodes.items) c.len-outside.result (length old.scope) (name_view c.args.tag.name) (string_bytes c.new.result) c.push.new.self c.begin_element.new.self.opens old.opens
    (c.len-number.ensures ∙ old.nodes.ok.0) c.len-outside.ensures c.new.ensures.bytes c.in_ok-node.ensures.opens c.in_ok-push.ensures)
    c.in_ok-node.ensures.scope
    (c.in_ok-push-2.ensures.items ∙ ap (λ v. v.items ++ c.in_ok-node.node ∷ []) c.in_ok-node.ensures.nodes)
    c.in_ok-node.ensures.node
    read
