use Rattle.std.proofs.Common.{rules}
use Rattle.std.specs.Prelude.{FitsSigned}
use Rattle.std.specs.Int.{w128}
use Rattle.std.proofs.lemmas.Int.{to_z-of_z}
use Rattle.std.proofs.Common.{◌≡◌, arith, pos}
use Rattle.std.specs.Prelude.{◌*ℤ◌, ◌+ℤ◌, ◌<ℤ◌}
use Rattle.std.proofs.lemmas.Int.{ints}
use Rattle.xc_model.proofs.Integers.{mul_positive}
use Rattle.xc_frac.proofs.ClearedTerms.{den_passes, left_passes, right_passes, sum_passes, none_passes, sum_is}
use Rattle.xc_frac.proofs.frac.Frac.unlike_sum.Goals as goal

pub returns-in_default-clause-passes : goal.returns-in_default-clause-passes
returns-in_default-clause-passes c =
    let num : FitsSigned w128 c.self.inside.num = search rules in
    let den : FitsSigned w128 c.self.inside.den = search rules in
    let other_num : FitsSigned w128 c.other.inside.num = search rules in
    let other_den : FitsSigned w128 c.other.inside.den = search rules in
    let own : FitsSigned w128 c.cofactors-own.result.0 = search rules in
    let others : FitsSigned w128 c.cofactors-own.result.1 = search rules in
    rw (← c.self.view_is, ← c.other.view_is) (den_passes _ _ _ _ _ _ c.self.inside.lowest.positive c.other.inside.lowest.positive
    (simp to_z-of_z at c.cofactors-own.ensures.cleared) (simp to_z-of_z at c.in_default.ensures))

pub returns-in_default-product-clause-passes : goal.returns-in_default-product-clause-passes
returns-in_default-product-clause-passes c =
    let num : FitsSigned w128 c.self.inside.num = search rules in
    let den : FitsSigned w128 c.self.inside.den = search rules in
    let other_num : FitsSigned w128 c.other.inside.num = search rules in
    let other_den : FitsSigned w128 c.other.inside.den = search rules in
    let own : FitsSigned w128 c.cofactors-own.result.0 = search rules in
    let others : FitsSigned w128 c.cofactors-own.result.1 = search rules in
    rw (← c.self.view_is, ← c.other.view_is) (left_passes _ _ _ _ _ _ c.self.inside.lowest.positive c.other.inside.lowest.positive
    (simp to_z-of_z at c.cofactors-own.ensures.cleared) (simp to_z-of_z at c.in_default-product.ensures))

pub returns-in_default-product-2-clause-passes : goal.returns-in_default-product-2-clause-passes
returns-in_default-product-2-clause-passes c =
    let num : FitsSigned w128 c.self.inside.num = search rules in
    let den : FitsSigned w128 c.self.inside.den = search rules in
    let other_num : FitsSigned w128 c.other.inside.num = search rules in
    let other_den : FitsSigned w128 c.other.inside.den = search rules in
    let own : FitsSigned w128 c.cofactors-own.result.0 = search rules in
    let others : FitsSigned w128 c.cofactors-own.result.1 = search rules in
    rw (← c.self.view_is, ← c.other.view_is) (right_passes _ _ _ _ _ _ c.self.inside.lowest.positive c.other.inside.lowest.positive
    (simp to_z-of_z at c.cofactors-own.ensures.cleared) (simp to_z-of_z at c.in_default-product-2.ensures))

pub returns-in_default-sum-clause-passes : goal.returns-in_default-sum-clause-passes
returns-in_default-sum-clause-passes c =
    let num : FitsSigned w128 c.self.inside.num = search rules in
    let den : FitsSigned w128 c.self.inside.den = search rules in
    let other_num : FitsSigned w128 c.other.inside.num = search rules in
    let other_den : FitsSigned w128 c.other.inside.den = search rules in
    let own : FitsSigned w128 c.cofactors-own.result.0 = search rules in
    let others : FitsSigned w128 c.cofactors-own.result.1 = search rules in
    let left_fits : FitsSigned w128 c.in-Some-product.left = search rules in
    let right_fits : FitsSigned w128 c.in-Some-product-2.right = search rules in
    let left : c.in-Some-product.left ≡ c.self.inside.num *ℤ c.cofactors-own.result.1 = (simp to_z-of_z at c.in-Some-product.ensures).1 in
    let right : c.in-Some-product-2.right ≡ c.other.inside.num *ℤ c.cofactors-own.result.0 = (simp to_z-of_z at c.in-Some-product-2.ensures).1 in
    rw (← c.self.view_is, ← c.other.view_is) (sum_passes _ _ _ _ _ _ c.self.inside.lowest.positive c.other.inside.lowest.positive
    (simp to_z-of_z at c.cofactors-own.ensures.cleared) (λ narrow. (simp to_z-of_z at c.in_default-sum.ensures) (rw (left, right) narrow)))

pub reduced-requires-clause-some : goal.reduced-requires-clause-some
reduced-requires-clause-some c =
    let num : FitsSigned w128 c.self.inside.num = search rules in
    let den : FitsSigned w128 c.self.inside.den = search rules in
    let other_num : FitsSigned w128 c.other.inside.num = search rules in
    let other_den : FitsSigned w128 c.other.inside.den = search rules in
    let own : FitsSigned w128 c.cofactors-own.result.0 = search rules in
    let others : FitsSigned w128 c.cofactors-own.result.1 = search rules in
    let den_fits : FitsSigned w128 c.in-Some.den = search rules in
    let common : c.in-Some.den ≡ c.self.inside.den *ℤ c.cofactors-own.result.1 = (simp to_z-of_z at c.in-Some.ensures).1 in
    let positive : pos 0 <ℤ (c.self.inside.den *ℤ c.cofactors-own.result.1) = mul_positive _ _ c.self.inside.lowest.positive (simp to_z-of_z at c.cofactors-own.ensures.cleared).positive in
    simp to_z-of_z (λ none. absurd (omega (arith, ints, positive, common, none)))

pub returns-clause-exact : goal.returns-clause-exact
returns-clause-exact c =
    let num : FitsSigned w128 c.self.inside.num = search rules in
    let den : FitsSigned w128 c.self.inside.den = search rules in
    let other_num : FitsSigned w128 c.other.inside.num = search rules in
    let other_den : FitsSigned w128 c.other.inside.den = search rules in
    let own : FitsSigned w128 c.cofactors-own.result.0 = search rules in
    let others : FitsSigned w128 c.cofactors-own.result.1 = search rules in
    let left_fits : FitsSigned w128 c.in-Some-product.left = search rules in
    let right_fits : FitsSigned w128 c.in-Some-product-2.right = search rules in
    let left : c.in-Some-product.left ≡ c.self.inside.num *ℤ c.cofactors-own.result.1 = (simp to_z-of_z at c.in-Some-product.ensures).1 in
    let right : c.in-Some-product-2.right ≡ c.other.inside.num *ℤ c.cofactors-own.result.0 = (simp to_z-of_z at c.in-Some-product-2.ensures).1 in
    let den_fits : FitsSigned w128 c.in-Some.den = search rules in
    let common : c.in-Some.den ≡ c.self.inside.den *ℤ c.cofactors-own.result.1 = (simp to_z-of_z at c.in-Some.ensures).1 in
    let num_fits : FitsSigned w128 c.in-Some-sum.num = search rules in
    let sum : c.in-Some-sum.num ≡ c.in-Some-product.left +ℤ c.in-Some-product-2.right = (simp to_z-of_z at c.in-Some-sum.ensures).1 in
    let ratio = rw (common, sum, left, right) at (simp to_z-of_z at c.reduced.ensures) in
    rw (← c.self.view_is, ← c.other.view_is) (sum_is _ _ _ _ _ _ c.self.inside.lowest.positive c.other.inside.lowest.positive
    (simp to_z-of_z at c.cofactors-own.ensures.cleared) _ _ _ ratio)

pub returns-clause-fits : goal.returns-clause-fits
returns-clause-fits c =
    let num : FitsSigned w128 c.self.inside.num = search rules in
    let den : FitsSigned w128 c.self.inside.den = search rules in
    let other_num : FitsSigned w128 c.other.inside.num = search rules in
    let other_den : FitsSigned w128 c.other.inside.den = search rules in
    let own : FitsSigned w128 c.cofactors-own.result.0 = search rules in
    let others : FitsSigned w128 c.cofactors-own.result.1 = search rules in
    let left_fits : FitsSigned w128 c.in-Some-product.left = search rules in
    let right_fits : FitsSigned w128 c.in-Some-product-2.right = search rules in
    let left : c.in-Some-product.left ≡ c.self.inside.num *ℤ c.cofactors-own.result.1 = (simp to_z-of_z at c.in-Some-product.ensures).1 in
    let right : c.in-Some-product-2.right ≡ c.other.inside.num *ℤ c.cofactors-own.result.0 = (simp to_z-of_z at c.in-Some-product-2.ensures).1 in
    let left_narrow = (simp to_z-of_z at c.in-Some-product.ensures).0 in
    let right_narrow = (simp to_z-of_z at c.in-Some-product-2.ensures).0 in
    let sum_narrow = rw (left, right) at (simp to_z-of_z at c.in-Some-sum.ensures).0 in
    rw (← c.self.view_is, ← c.other.view_is) (none_passes _ _ _ _ _ _ c.self.inside.lowest.positive c.other.inside.lowest.positive
    (simp to_z-of_z at c.cofactors-own.ensures.cleared) (simp to_z-of_z at c.in-Some.ensures).0 left_narrow right_narrow sum_narrow)
