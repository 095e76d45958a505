use Rattle.std.proofs.Common.{rules, ◌++◌, ◌∷◌, [], refl, sym, subst, ◌∙◌}
use Rattle.xc_calc.proofs.GroupSteps.{higher_group, same_group}
use Rattle.xc_calc.specs.Steps.Groups.{IsGroup}
use Rattle.xc_calc.proofs.groups.group_with.Goals as goal

pub returns-then-is_higher : goal.returns-then-is_higher
returns-then-is_higher c = λ test arcs last own is.
    subst (IsGroup test (arcs ++ c.args.last.now ∷ [])) (search rules)
    (higher_group test arcs c.args.last.now c.args.group c.args.at last own (sym c.is_higher.ensures ∙ c.if-is_higher.true) is)

pub returns : goal.returns
returns c = λ test arcs last own is.
    subst (IsGroup test (arcs ++ c.args.last.now ∷ [])) (search rules)
    (same_group test arcs c.args.last.now c.args.group _ own (sym c.is_higher.ensures ∙ c.if-is_higher.false) refl is)
