use Rattle.std.proofs.Common.{sym, ap, subst, ◌∙◌}
use Rattle.std.specs.Option.{option_copied}
use Rattle.xc_calc.proofs.GroupAnswers.{effective_by_group, has_group}
use Rattle.xc_calc.specs.Steps.Common.{has_common}
use Rattle.xc_calc.specs.Steps.Groups.{IsGroupOf}
use Rattle.xc_calc.proofs.effective.is_effective.Goals as goal

pub returns-in-Some : goal.returns-in-Some
returns-in-Some c = λ arcs are own.
    let key = c.common_of.result in
    c.is_effective_by.ensures
    ∙ effective_by_group arcs c.args.at c.args.keyed.now key c.common_of.ensures own c.in-Some.group.now
    (subst (IsGroupOf (has_common key) arcs) (sym c.get.ensures.value ∙ ap option_copied c.in-Some.is) (are key))

pub returns-in-None : goal.returns-in-None
returns-in-None c = λ arcs are own.
    let key = c.common_of.result in
    absurd (has_group arcs c.args.at c.args.keyed.now key c.common_of.ensures own
    (subst (IsGroupOf (has_common key) arcs) (sym c.get.ensures.value ∙ ap option_copied c.in-None.is) (are key)))
