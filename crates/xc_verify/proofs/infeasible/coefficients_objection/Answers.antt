use Rattle.std.proofs.Common.{◌<◌, Option, below_more, rules, subst}
use Rattle.xc_verify.specs.Infeasible.{coefficient_terms}
use Rattle.xc_verify.specs.Objections.{IsMetIn, IsNothing}
use Rattle.xc_verify.specs.declared.types.Objection.{Objection}
use Rattle.xc_verify.specs.declared.types.What.TheVariants.{Point}
use Rattle.xc_verify.proofs.infeasible.coefficients_objection.Goals as goal

pub returns-in-Some : goal.returns-in-Some
returns-in-Some c =
    let p = c.loop-point.point in
    let ts = coefficient_terms c.args.system.now c.args.refutation.now p in
    let within : p < c.args.system.now.points = search rules in
    (p, within, c.loop-point.invariant, subst (λ (met : Option Objection). IsMetIn (Point p) IsNothing ts met) c.in-Some.is (c.coefficient_objection.ensures ts (c.requires.added p within)))

pub loop-point-preserved : goal.loop-point-preserved
loop-point-preserved c =
    let p = c.loop-point.point in
    let ts = coefficient_terms c.args.system.now c.args.refutation.now p in
    let within : p < c.args.system.now.points = search rules in
    below_more _ _ c.loop-point.invariant (subst (λ (met : Option Objection). IsMetIn (Point p) IsNothing ts met) c.in_default.is (c.coefficient_objection.ensures ts (c.requires.added p within)))
