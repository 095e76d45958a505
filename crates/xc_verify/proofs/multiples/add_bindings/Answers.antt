use Rattle.std.proofs.Common.{◌+◌, drop}
use Rattle.xc_system.specs.Systems.{equation_at}
use Rattle.xc_verify.proofs.Adding.{continues_more, binding_split}
use Rattle.xc_verify.specs.Infeasible.{binding_terms, entry_terms}
use Rattle.xc_verify.specs.Steps.Running.{sum_at}
use Rattle.xc_verify.proofs.multiples.add_bindings.Goals as goal

pub loop-number-preserved : goal.loop-number-preserved
loop-number-preserved c =
    let equations = c.args.system.now.equations in
    let ms = c.args.lines.now in
    let i = c.loop-number.number-index in
    let m = c.loop-number-item.result in
    continues_more (binding_terms equations ms) (binding_terms equations (drop i ms)) (binding_terms equations (drop (i + 1) ms)) (entry_terms m.1 (equation_at equations m.0).entries)
    (sum_at c.args.sums.now c.args.stops.now) (sum_at c.loop-number.sums c.loop-number.stops) (sum_at c.add_equation.new.sums c.add_equation.new.stops)
    (λ p. binding_split equations ms i m p c.loop-number-test.true c.loop-number-item.is) c.add_equation.ensures c.loop-number.invariant
