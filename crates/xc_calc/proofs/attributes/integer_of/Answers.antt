use Rattle.std.proofs.Common.{rules, ap, sym, ◌∙◌}
use Rattle.std.proofs.lemmas.Int.{to_z-of_z}
use Rattle.std.specs.Int.{w64}
use Rattle.std.specs.Prelude.{FitsSigned}
use Rattle.xc_calc.proofs.Integers.{given, parsed}
use Rattle.xc_calc.proofs.attributes.integer_of.Goals as goal

pub returns-in-Ok : goal.returns-in-Ok
returns-in-Ok c =
    let fits : FitsSigned w64 c.in-Ok.number = search rules in
    simp to_z-of_z (ap given (sym c.in-Ok.is) ∙ parsed c.args.text.now c.parse.result c.parse.ensures.value.0)

pub returns-in-Err : goal.returns-in-Err
returns-in-Err c = ap given (sym c.in-Err.is) ∙ parsed c.args.text.now c.parse.result c.parse.ensures.value.0
