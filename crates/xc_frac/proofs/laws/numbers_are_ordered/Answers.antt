use Rattle.xc_model.specs.Fraction.{SameNumber, IsBelow}
use Rattle.xc_model.proofs.Arithmetic.{sign_of_num}
use Rattle.xc_model.proofs.Orders.{alike, transitive, number_order, number_total, number_sum, number_neg, number_product, number_product_neg}
use Rattle.xc_frac.proofs.laws.numbers_are_ordered.Goals as goal

pub returns-clause-same : goal.returns-clause-same
returns-clause-same c = alike IsBelow SameNumber number_order

pub returns-clause-total : goal.returns-clause-total
returns-clause-total c = number_total

pub returns-clause-transitive : goal.returns-clause-transitive
returns-clause-transitive c = transitive IsBelow SameNumber number_order

pub returns-clause-sum : goal.returns-clause-sum
returns-clause-sum c = number_sum

pub returns-clause-negative : goal.returns-clause-negative
returns-clause-negative c = number_neg

pub returns-clause-positive_factor : goal.returns-clause-positive_factor
returns-clause-positive_factor c = number_product

pub returns-clause-negative_factor : goal.returns-clause-negative_factor
returns-clause-negative_factor c = number_product_neg

pub returns-clause-sign : goal.returns-clause-sign
returns-clause-sign c = sign_of_num
