use Rattle.std.proofs.Common.{◌≡◌, List, ap, subst, ◌∙◌, arith}
use Rattle.std.proofs.lemmas.List.{get_or_default}
use Rattle.std.specs.Prelude.{All, IsTrue, ◌↔◌, []}
use Rattle.xc_system.specs.Forests.{IsUnit}
use Rattle.xc_system.specs.Systems.{equation_at}
use Rattle.xc_system.specs.declared.types.Entry.{Entry}
use Rattle.xc_system.specs.declared.types.Equation.{Equation}
use Rattle.xc_system.proofs.forests.has_unit_weights.Goals as goal

pub returns : goal.returns
returns c =
    let is : c.as_slice.result.now ≡ (equation_at c.args.equations.now c.args.number).entries =
    c.as_slice.ensures ∙ ap (λ (e : Equation). e.entries) (get_or_default c.args.equations.now c.args.number _ (record { entries = [] }) c.requires) in
    subst (λ (es : List Entry). IsTrue c.are_units.result ↔ All (λ entry. IsUnit entry.weight) es) is c.are_units.ensures
