use Rattle.std.proofs.Common.{◌∙◌, sym, ap, rules}
use Rattle.std.specs.Str.{chars}
use Rattle.xc_elements.specs.Steps.Views.{tag_part_view, attribute_view}
use Rattle.xc_elements.proofs.FrontLaws.{found}
use Rattle.xc_elements.proofs.TagLaws.{declares_none, declares_more, declares_all, declared_all, attribute_shorter, never_endless}
use Rattle.xc_elements.proofs.expanded.declare.Goals as goal

pub loop-part-init : goal.loop-part-init
loop-part-init c = (search rules, declares_none (chars c.args.tag.attributes.now) c.args.scope.now c.new-declared.result c.new-declared.ensures)

pub loop-part-smaller : goal.loop-part-smaller
loop-part-smaller c =
    attribute_shorter (chars c.loop-part.rest.now) (chars c.in-Some.after.now) (attribute_view c.in-Attribute.attribute)
    (sym (ap (λ t. found (tag_part_view t) (chars c.in-Some.after.now)) c.in-Attribute.is) ∙ c.in-Some.ensures.value)

pub loop-part-preserved : goal.loop-part-preserved
loop-part-preserved c = (
  search rules,
  declares_more (chars c.args.tag.attributes.now) (chars c.loop-part.rest.now) (chars c.in-Some.after.now) c.args.scope.now c.loop-part.scope _ c.loop-part.declared _ (attribute_view c.in-Attribute.attribute)
      (sym (ap (λ t. found (tag_part_view t) (chars c.in-Some.after.now)) c.in-Attribute.is) ∙ c.in-Some.ensures.value)
      c.in_ok-declare_attribute-in-Attribute.ensures.scope
      c.in_ok-declare_attribute-in-Attribute.ensures.declared
      c.loop-part.invariant.1,
)

pub returns-in-End-clause-scope : goal.returns-in-End-clause-scope
returns-in-End-clause-scope c =
    declares_all (chars c.args.tag.attributes.now) (chars c.loop-part.rest.now) (chars c.in-Some.after.now) c.args.scope.now c.loop-part.scope c.loop-part.declared c.in-End.field-0
    (sym (ap (λ t. found (tag_part_view t) (chars c.in-Some.after.now)) c.in-End.is) ∙ c.in-Some.ensures.value)
    c.loop-part.invariant.1

pub returns-in-End-clause-declared : goal.returns-in-End-clause-declared
returns-in-End-clause-declared c =
    declared_all (chars c.args.tag.attributes.now) (chars c.loop-part.rest.now) (chars c.in-Some.after.now) c.args.scope.now c.loop-part.scope c.loop-part.declared c.in-End.field-0
    (sym (ap (λ t. found (tag_part_view t) (chars c.in-Some.after.now)) c.in-End.is) ∙ c.in-Some.ensures.value)
    c.loop-part.invariant.1

pub returns-clause-scope : goal.returns-clause-scope
returns-clause-scope c =
    let d = c.loop-part.invariant.1 in
    absurd (never_endless (chars c.args.tag.attributes.now) (chars c.loop-part.rest.now) d.so_far c.requires c.in_default.ensures.value d.gathers)

pub returns-clause-declared : goal.returns-clause-declared
returns-clause-declared c =
    let d = c.loop-part.invariant.1 in
    absurd (never_endless (chars c.args.tag.attributes.now) (chars c.loop-part.rest.now) d.so_far c.requires c.in_default.ensures.value d.gathers)
