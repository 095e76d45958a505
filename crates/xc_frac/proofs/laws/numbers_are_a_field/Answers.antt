use Rattle.xc_model.proofs.Arithmetic.{product-assoc, product-comm, product-one, product-sum, quotient_exists}
use Rattle.xc_model.proofs.Numbers.{same-product, quotient_unique}
use Rattle.xc_frac.proofs.laws.numbers_are_a_field.Goals as goal

pub returns-clause-products : goal.returns-clause-products
returns-clause-products c = same-product

pub returns-clause-associative : goal.returns-clause-associative
returns-clause-associative c = product-assoc

pub returns-clause-commutative : goal.returns-clause-commutative
returns-clause-commutative c = product-comm

pub returns-clause-one : goal.returns-clause-one
returns-clause-one c = product-one

pub returns-clause-distributive : goal.returns-clause-distributive
returns-clause-distributive c = product-sum

pub returns-clause-quotient : goal.returns-clause-quotient
returns-clause-quotient c = quotient_exists

pub returns-clause-one_quotient : goal.returns-clause-one_quotient
returns-clause-one_quotient c = quotient_unique
