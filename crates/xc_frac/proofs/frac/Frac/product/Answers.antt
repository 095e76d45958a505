use Rattle.std.proofs.Common.{rules}
use Rattle.std.specs.Prelude.{FitsSigned}
use Rattle.std.specs.Int.{w128}
use Rattle.std.proofs.lemmas.Int.{to_z-of_z}
use Rattle.std.proofs.Common.{◌≡◌, ◌∙◌}
use Rattle.std.specs.Prelude.{◌*ℤ◌}
use Rattle.xc_model.specs.Fraction.{SameNumber, product_of}
use Rattle.xc_model.specs.Ratio.{fraction_of}
use Rattle.xc_model.proofs.Lowest.{product_fits}
use Rattle.xc_frac.proofs.ClearedTerms.{product_num_passes, product_den_passes, product_lowest, product_is}
use Rattle.xc_frac.proofs.frac.Frac.product.Goals as goal
use Rattle.xc_frac.proofs.frac.Frac.product.Goals.{After-lowest}

pub returns-in_default-clause-passes : goal.returns-in_default-clause-passes
returns-in_default-clause-passes c =
    let num : FitsSigned w128 c.self.inside.num = search rules in
    let den : FitsSigned w128 c.self.inside.den = search rules in
    let other_num : FitsSigned w128 c.other.inside.num = search rules in
    let other_den : FitsSigned w128 c.other.inside.den = search rules in
    let own_num : FitsSigned w128 c.cleared-own_num.result.0 = search rules in
    let other_den' : FitsSigned w128 c.cleared-own_num.result.1 = search rules in
    let other_num' : FitsSigned w128 c.cleared-other_num.result.0 = search rules in
    let own_den : FitsSigned w128 c.cleared-other_num.result.1 = search rules in
    let first = simp to_z-of_z at c.cleared-own_num.ensures.cleared in
    let second = simp to_z-of_z at c.cleared-other_num.ensures.cleared in
    rw (← c.self.view_is, ← c.other.view_is) (product_num_passes _ _ _ _ _ _ _ _ c.self.inside.lowest c.other.inside.lowest first second
    c.self.inside.lowest.positive c.other.inside.lowest.positive (simp to_z-of_z at c.in_default.ensures))

pub returns-in_default-product-clause-passes : goal.returns-in_default-product-clause-passes
returns-in_default-product-clause-passes c =
    let num : FitsSigned w128 c.self.inside.num = search rules in
    let den : FitsSigned w128 c.self.inside.den = search rules in
    let other_num : FitsSigned w128 c.other.inside.num = search rules in
    let other_den : FitsSigned w128 c.other.inside.den = search rules in
    let own_num : FitsSigned w128 c.cleared-own_num.result.0 = search rules in
    let other_den' : FitsSigned w128 c.cleared-own_num.result.1 = search rules in
    let other_num' : FitsSigned w128 c.cleared-other_num.result.0 = search rules in
    let own_den : FitsSigned w128 c.cleared-other_num.result.1 = search rules in
    let first = simp to_z-of_z at c.cleared-own_num.ensures.cleared in
    let second = simp to_z-of_z at c.cleared-other_num.ensures.cleared in
    rw (← c.self.view_is, ← c.other.view_is) (product_den_passes _ _ _ _ _ _ _ _ c.self.inside.lowest c.other.inside.lowest first second
    c.self.inside.lowest.positive c.other.inside.lowest.positive (simp to_z-of_z at c.in_default-product.ensures))

pub lowest-requires : goal.lowest-requires
lowest-requires c =
    let num : FitsSigned w128 c.self.inside.num = search rules in
    let den : FitsSigned w128 c.self.inside.den = search rules in
    let other_num : FitsSigned w128 c.other.inside.num = search rules in
    let other_den : FitsSigned w128 c.other.inside.den = search rules in
    let own_num : FitsSigned w128 c.cleared-own_num.result.0 = search rules in
    let other_den' : FitsSigned w128 c.cleared-own_num.result.1 = search rules in
    let other_num' : FitsSigned w128 c.cleared-other_num.result.0 = search rules in
    let own_den : FitsSigned w128 c.cleared-other_num.result.1 = search rules in
    let first = simp to_z-of_z at c.cleared-own_num.ensures.cleared in
    let second = simp to_z-of_z at c.cleared-other_num.ensures.cleared in
    let num_fits : FitsSigned w128 c.in-Some.num = search rules in
    let den_fits : FitsSigned w128 c.in-Some-product.den = search rules in
    let num_is : c.in-Some.num ≡ c.cleared-own_num.result.0 *ℤ c.cleared-other_num.result.0 = (simp to_z-of_z at c.in-Some.ensures).1 in
    let den_is : c.in-Some-product.den ≡ c.cleared-other_num.result.1 *ℤ c.cleared-own_num.result.1 = (simp to_z-of_z at c.in-Some-product.ensures).1 in
    let num_narrow = (simp to_z-of_z at c.in-Some.ensures).0 in
    let den_narrow = (simp to_z-of_z at c.in-Some-product.ensures).0 in
    simp to_z-of_z (rw (num_is, den_is) (product_lowest _ _ _ _ _ _ _ _ c.self.inside.lowest c.other.inside.lowest first second num_narrow den_narrow))

exact : (c : After-lowest) → SameNumber (fraction_of c.lowest.result) (product_of (fraction_of c.args.self) (fraction_of c.args.other))
exact c =
    let num : FitsSigned w128 c.self.inside.num = search rules in
    let den : FitsSigned w128 c.self.inside.den = search rules in
    let other_num : FitsSigned w128 c.other.inside.num = search rules in
    let other_den : FitsSigned w128 c.other.inside.den = search rules in
    let own_num : FitsSigned w128 c.cleared-own_num.result.0 = search rules in
    let other_den' : FitsSigned w128 c.cleared-own_num.result.1 = search rules in
    let other_num' : FitsSigned w128 c.cleared-other_num.result.0 = search rules in
    let own_den : FitsSigned w128 c.cleared-other_num.result.1 = search rules in
    let first = simp to_z-of_z at c.cleared-own_num.ensures.cleared in
    let second = simp to_z-of_z at c.cleared-other_num.ensures.cleared in
    let num_fits : FitsSigned w128 c.in-Some.num = search rules in
    let den_fits : FitsSigned w128 c.in-Some-product.den = search rules in
    let num_is : c.in-Some.num ≡ c.cleared-own_num.result.0 *ℤ c.cleared-other_num.result.0 = (simp to_z-of_z at c.in-Some.ensures).1 in
    let den_is : c.in-Some-product.den ≡ c.cleared-other_num.result.1 *ℤ c.cleared-own_num.result.1 = (simp to_z-of_z at c.in-Some-product.ensures).1 in
    let result_num = simp to_z-of_z at c.lowest.ensures.num in
    let result_den = simp to_z-of_z at c.lowest.ensures.den in
    rw (← c.self.view_is, ← c.other.view_is) (product_is _ _ _ _ _ _ _ _ c.self.inside.lowest c.other.inside.lowest first second
    c.self.inside.lowest.positive c.other.inside.lowest.positive _ _ _ (result_num ∙ num_is) (result_den ∙ den_is))

pub returns-clause-exact : goal.returns-clause-exact
returns-clause-exact c = exact c

pub returns-clause-fits : goal.returns-clause-fits
returns-clause-fits c =
    let r = c.lowest.result in
    product_fits (fraction_of r) (fraction_of c.args.self) (fraction_of c.args.other) (exact c) r.lowest.coprime r.lowest.num_narrow r.lowest.den_narrow
