use Rattle.std.proofs.Common.{◌≡◌, ◌∙◌, pos, rules}
use Rattle.std.specs.Prelude.{FitsSigned, ◌+ℤ◌}
use Rattle.std.specs.Int.{w128}
use Rattle.std.proofs.lemmas.Int.{to_z-of_z}
use Rattle.xc_model.specs.Width.{IsNarrow}
use Rattle.xc_frac.specs.contracts.frac.Frac.{the_view}
use Rattle.xc_frac.proofs.QuickSums.{whole_lowest, whole_sum_is, whole_sum_fits, whole_sum_passes}
use Rattle.xc_frac.proofs.frac.Frac.whole_sum.Goals as goal

pub returns-in_default-clause-passes : goal.returns-in_default-clause-passes
returns-in_default-clause-passes c =
    let num : FitsSigned w128 c.self.inside.num = search rules in
    let other_num : FitsSigned w128 c.other.inside.num = search rules in
    let own : c.self.inside.den ≡ pos 1 = rw (← c.self.view_is) at c.requires.own in
    let others : c.other.inside.den ≡ pos 1 = rw (← c.other.view_is) at c.requires.others in
    rw (← c.self.view_is, ← c.other.view_is) (whole_sum_passes (the_view c.self.inside) (the_view c.other.inside) own others (simp to_z-of_z at c.in_default.ensures))

pub lowest-requires : goal.lowest-requires
lowest-requires c =
    let num : FitsSigned w128 c.self.inside.num = search rules in
    let other_num : FitsSigned w128 c.other.inside.num = search rules in
    let sum_fits : FitsSigned w128 c.in-Some.num = search rules in
    let sum : c.in-Some.num ≡ c.self.inside.num +ℤ c.other.inside.num = (simp to_z-of_z at c.in-Some.ensures).1 in
    let narrow : IsNarrow (c.self.inside.num +ℤ c.other.inside.num) = (simp to_z-of_z at c.in-Some.ensures).0 in
    simp to_z-of_z (whole_lowest c.in-Some.num (c.self.inside.num +ℤ c.other.inside.num) sum narrow)

pub returns-clause-exact : goal.returns-clause-exact
returns-clause-exact c =
    let num : FitsSigned w128 c.self.inside.num = search rules in
    let other_num : FitsSigned w128 c.other.inside.num = search rules in
    let own : c.self.inside.den ≡ pos 1 = rw (← c.self.view_is) at c.requires.own in
    let others : c.other.inside.den ≡ pos 1 = rw (← c.other.view_is) at c.requires.others in
    let sum_fits : FitsSigned w128 c.in-Some.num = search rules in
    let sum : c.in-Some.num ≡ c.self.inside.num +ℤ c.other.inside.num = (simp to_z-of_z at c.in-Some.ensures).1 in
    let narrow : IsNarrow (c.self.inside.num +ℤ c.other.inside.num) = (simp to_z-of_z at c.in-Some.ensures).0 in
    let num_is = simp to_z-of_z at c.lowest.ensures.num in
    rw (← c.self.view_is, ← c.other.view_is) (whole_sum_is (the_view c.self.inside) (the_view c.other.inside) own others c.lowest.result (num_is ∙ sum) c.lowest.ensures.den)

pub returns-clause-fits : goal.returns-clause-fits
returns-clause-fits c =
    let num : FitsSigned w128 c.self.inside.num = search rules in
    let other_num : FitsSigned w128 c.other.inside.num = search rules in
    let own : c.self.inside.den ≡ pos 1 = rw (← c.self.view_is) at c.requires.own in
    let others : c.other.inside.den ≡ pos 1 = rw (← c.other.view_is) at c.requires.others in
    let sum_fits : FitsSigned w128 c.in-Some.num = search rules in
    let sum : c.in-Some.num ≡ c.self.inside.num +ℤ c.other.inside.num = (simp to_z-of_z at c.in-Some.ensures).1 in
    let narrow : IsNarrow (c.self.inside.num +ℤ c.other.inside.num) = (simp to_z-of_z at c.in-Some.ensures).0 in
    rw (← c.self.view_is, ← c.other.view_is) (whole_sum_fits (the_view c.self.inside) (the_view c.other.inside) own others narrow)
