use Rattle.std.proofs.Common.{rules}
use Rattle.std.specs.Prelude.{FitsSigned}
use Rattle.std.specs.Int.{w128}
use Rattle.std.proofs.lemmas.Int.{to_z-of_z}
use Rattle.xc_model.proofs.Over.{sign_over}
use Rattle.xc_frac.proofs.frac.Frac.num.Goals as goal

pub returns-clause-sign : goal.returns-clause-sign
returns-clause-sign c n d h =
    let num : FitsSigned w128 c.self.inside.num = search rules in
    simp to_z-of_z (rw (← c.self.view_is) at (sign_over c.args.self n d h))
