use Rattle.std.proofs.Common.{◌==◌, arith}
use Rattle.std.proofs.lemmas.Grind.{common_steps}
use Rattle.std.proofs.lemmas.List.Elements.{filter_more}
use Rattle.xc_calc.specs.declared.arc.Arc.{Arc}
use Rattle.xc_bind.proofs.arcs_from.ArcsFrom.of.Goals as goal

pub loop-arc-preserved : goal.loop-arc-preserved
loop-arc-preserved c = λ q. grind (arith, common_steps, filter_more (λ (arc : Arc). q == arc.from.0), c.loop-arc.invariant q)
