use Rattle.std.proofs.Common.{◌<◌, List, Option, length, below_more, ap, subst, arith}
use Rattle.xc_system.specs.Systems.{equation_at}
use Rattle.xc_system.specs.declared.types.Equation.{Equation}
use Rattle.xc_verify.specs.Feasible.{equation_terms}
use Rattle.xc_verify.specs.Objections.{IsMetIn, IsNothing}
use Rattle.xc_verify.specs.declared.types.Objection.{Objection}
use Rattle.xc_verify.specs.declared.types.What.TheVariants.{Binding}
use Rattle.xc_verify.proofs.feasible.equations_objection.Goals as goal

pub returns-in-Some : goal.returns-in-Some
returns-in-Some c =
    let n = c.loop-number.number in (
      n,
      subst (λ (l : List Equation). n < length l) c.equations-number-end.ensures.is c.loop-number-test.true,
      c.loop-number.invariant,
      subst (λ (met : Option Objection). IsMetIn (Binding n) IsNothing (equation_terms c.args.values.now (equation_at c.args.system.now.equations n).entries) met) c.in-Some.is c.equation_objection.ensures,
    )

pub loop-number-preserved : goal.loop-number-preserved
loop-number-preserved c =
    let n = c.loop-number.number in
    below_more _ _ c.loop-number.invariant
    (subst (λ (met : Option Objection). IsMetIn (Binding n) IsNothing (equation_terms c.args.values.now (equation_at c.args.system.now.equations n).entries) met) c.in_default.is c.equation_objection.ensures)

pub returns : goal.returns
returns c i h = c.loop-number.invariant i (omega (arith, h, c.loop-number-test.false, ap (λ (l : List Equation). length l) c.equations-number-end.ensures.is))
