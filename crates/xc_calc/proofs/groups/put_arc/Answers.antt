use Rattle.std.proofs.Common.{◌++◌, ◌∷◌, [], sym, ap, subst, ◌∙◌}
use Rattle.xc_calc.proofs.GroupSteps.{put_in_groups}
use Rattle.xc_calc.specs.Steps.Groups.{IsGroup, IsGroupOf}
use Rattle.xc_calc.proofs.groups.put_arc.Goals as goal

pub returns : goal.returns
returns c = λ arcs last so_far.
    let key = c.common_of-key.result in
    put_in_groups c.args.groups.now c.insert.new.self arcs c.args.keyed.now key c.group_after-group.result c.common_of-key.ensures
    c.in_ok-insert.ensures.updates
    (λ test own is. subst (λ a. IsGroup test (arcs ++ a ∷ []) c.group_after-group.result) c.arc.ensures
    (c.group_after-group.ensures test arcs last (ap test c.arc.ensures ∙ own) (subst (IsGroupOf test arcs) (sym (c.copied.ensures ∙ c.get.ensures.value)) is)))
    so_far
