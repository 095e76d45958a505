use Rattle.std.proofs.Common.{◌++◌, ◌∷◌, [], sym, subst}
use Rattle.xc_calc.proofs.GroupSteps.{first_group}
use Rattle.xc_calc.specs.Steps.Groups.{IsGroup, IsGroupOf}
use Rattle.xc_calc.proofs.groups.group_after.Goals as goal

pub returns-in-None : goal.returns-in-None
returns-in-None c = λ test arcs last own is.
    subst (IsGroup test (arcs ++ c.args.last.now ∷ [])) (sym c.group_of.ensures)
    (first_group test arcs c.args.last.now c.args.at last own (subst (IsGroupOf test arcs) c.in-None.is is))
