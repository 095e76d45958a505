use Rattle.std.proofs.Common.{refl}
use Rattle.xc_bind.proofs.Owning.{zip_next}
use Rattle.xc_bind.specs.Systems.{IsEquationOf}
use Rattle.xc_bind.proofs.constraints.equations.Goals as goal

pub loop-binding-preserved : goal.loop-binding-preserved
loop-binding-preserved c = zip_next IsEquationOf c.args.bindings.now c.args.bindings.now c.loop-binding.equations.items c.push.new.self.items c.loop-binding.binding-index c.binding-item.result c.in_ok-equation_of.field-0
    refl c.loop-binding-test.true c.binding-item.is c.in_ok-push.ensures.items c.loop-binding.invariant c.in_ok-equation_of.ensures
