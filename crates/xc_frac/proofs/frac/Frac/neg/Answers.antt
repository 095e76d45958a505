use Rattle.std.proofs.Common.{rules}
use Rattle.std.specs.Prelude.{FitsSigned}
use Rattle.std.specs.Int.{w128}
use Rattle.std.proofs.lemmas.Int.{to_z-of_z}
use Rattle.std.proofs.Common.{pos}
use Rattle.std.specs.Prelude.{◌-ℤ◌}
use Rattle.xc_model.specs.Fraction.{SameNumber, neg_of}
use Rattle.xc_model.specs.Ratio.{fraction_of}
use Rattle.xc_model.proofs.Over.{neg_over}
use Rattle.xc_frac.specs.contracts.frac.Frac.{the_view}
use Rattle.xc_frac.proofs.Inverses.{neg_lowest, neg_is}
use Rattle.xc_frac.proofs.frac.Frac.neg.Goals as goal
use Rattle.xc_frac.proofs.frac.Frac.neg.Goals.{After-lowest}

pub lowest-requires : goal.lowest-requires
lowest-requires c =
    let num : FitsSigned w128 c.self.inside.num = search rules in
    let den : FitsSigned w128 c.self.inside.den = search rules in
    let minus : FitsSigned w128 (pos 0 -ℤ c.self.inside.num) = search rules in
    simp to_z-of_z (neg_lowest _ _ c.self.inside.lowest)

exact : (c : After-lowest) → SameNumber (fraction_of c.lowest.result) (neg_of (fraction_of c.args.self))
exact c =
    let num : FitsSigned w128 c.self.inside.num = search rules in
    let den : FitsSigned w128 c.self.inside.den = search rules in
    let minus : FitsSigned w128 (pos 0 -ℤ c.self.inside.num) = search rules in
    let result_num = simp to_z-of_z at c.lowest.ensures.num in
    let result_den = simp to_z-of_z at c.lowest.ensures.den in
    rw (← c.self.view_is) (neg_is (the_view c.self.inside) c.lowest.result result_num result_den)

pub returns-clause-exact : goal.returns-clause-exact
returns-clause-exact c = exact c

pub returns-clause-over : goal.returns-clause-over
returns-clause-over c n d h = neg_over c.args.self c.lowest.result n d (exact c) h
