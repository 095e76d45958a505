use Rattle.std.proofs.Common.{rules}
use Rattle.std.specs.Prelude.{FitsSigned}
use Rattle.std.specs.Int.{w128}
use Rattle.std.proofs.lemmas.Int.{to_z-of_z}
use Rattle.xc_model.specs.Order.{Orders}
use Rattle.xc_model.specs.Ratio.{fraction_of}
use Rattle.xc_model.proofs.Over.{order_over}
use Rattle.xc_frac.proofs.Compared.{by_cross}
use Rattle.xc_frac.specs.contracts.frac.Frac.{the_view}
use Rattle.xc_frac.proofs.frac.Frac.compare.Goals as goal
use Rattle.xc_frac.proofs.frac.Frac.compare.Goals.{After-order}

exact : (c : After-order) → Orders c.order.result (fraction_of c.args.self) (fraction_of c.args.other)
exact c =
    let num : FitsSigned w128 c.self.inside.num = search rules in
    let den : FitsSigned w128 c.self.inside.den = search rules in
    let other_num : FitsSigned w128 c.other.inside.num = search rules in
    let other_den : FitsSigned w128 c.other.inside.den = search rules in
    rw (← c.self.view_is, ← c.other.view_is) (by_cross _ (the_view c.self.inside) (the_view c.other.inside) (simp to_z-of_z at c.order.ensures))

pub returns-clause-exact : goal.returns-clause-exact
returns-clause-exact c = exact c

pub returns-clause-over : goal.returns-clause-over
returns-clause-over c n m d left right = order_over c.order.result c.args.self c.args.other n m d (exact c) left right
