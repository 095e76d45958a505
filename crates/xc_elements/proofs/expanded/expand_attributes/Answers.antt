use Rattle.std.proofs.Common.{◌∙◌, ◌++◌, ◌∷◌, [], sym, ap, subst, rules}
use Rattle.std.specs.Prelude.{◌||◌}
use Rattle.std.specs.Str.{chars}
use Rattle.xc_elements.specs.Steps.Views.{tag_part_view, attribute_view}
use Rattle.xc_elements.proofs.FrontLaws.{found}
use Rattle.xc_elements.proofs.TagLaws.{Expands, expands_none, expands_more, expands_all, attribute_shorter, never_endless}
use Rattle.xc_elements.proofs.expanded.expand_attributes.Goals as goal

pub loop-part-init : goal.loop-part-init
loop-part-init c = (
  search rules,
  subst (λ made. Expands (chars c.args.tag.attributes.now) (chars c.args.tag.attributes.now) c.args.scope.now made _) (sym c.new-attributes.ensures.items) (expands_none (chars c.args.tag.attributes.now) c.args.scope.now),
)

pub loop-part-smaller : goal.loop-part-smaller
loop-part-smaller c =
    attribute_shorter (chars c.loop-part.rest.now) (chars c.in-Some.after.now) (attribute_view c.in-Attribute.attribute)
    (sym (ap (λ t. found (tag_part_view t) (chars c.in-Some.after.now)) c.in-Attribute.is) ∙ c.in-Some.ensures.value)

pub loop-part-preserved : goal.loop-part-preserved
loop-part-preserved c = (
  search rules,
  subst (λ made. Expands (chars c.args.tag.attributes.now) (chars c.in-Some.after.now) c.args.scope.now made (c.loop-part.lacks_any || c.in_ok-expanded-in-Attribute.lacks))
      (sym (c.in_ok-push-in-Attribute.ensures.items ∙ ap (λ a. c.loop-part.attributes.items ++ a ∷ []) c.in_ok-expanded-in-Attribute.ensures.attribute))
      (expands_more (chars c.args.tag.attributes.now) (chars c.loop-part.rest.now) (chars c.in-Some.after.now) c.args.scope.now c.loop-part.attributes.items c.loop-part.lacks_any c.in_ok-expanded-in-Attribute.lacks (attribute_view c.in-Attribute.attribute)
      (sym (ap (λ t. found (tag_part_view t) (chars c.in-Some.after.now)) c.in-Attribute.is) ∙ c.in-Some.ensures.value)
      c.in_ok-expanded-in-Attribute.ensures.lacks_space
      c.loop-part.invariant.1),
)

pub returns-in-End : goal.returns-in-End
returns-in-End c =
    let all = expands_all (chars c.args.tag.attributes.now) (chars c.loop-part.rest.now) (chars c.in-Some.after.now) c.args.scope.now c.loop-part.attributes.items c.loop-part.lacks_any c.in-End.field-0
    (sym (ap (λ t. found (tag_part_view t) (chars c.in-Some.after.now)) c.in-End.is) ∙ c.in-Some.ensures.value)
    c.loop-part.invariant.1
    in
    record { attributes = all.0; lacks_space = all.1 }

pub returns : goal.returns
returns c =
    let x = c.loop-part.invariant.1 in
    absurd (never_endless (chars c.args.tag.attributes.now) (chars c.loop-part.rest.now) x.so_far c.requires c.in_default.ensures.value x.gathers)
