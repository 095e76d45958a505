use Rattle.xc_model.specs.Parts.{SameParts, IsLess}
use Rattle.xc_frac.proofs.DeltaOrder.{reals_compare}
use Rattle.xc_model.proofs.Orders.{alike, transitive, pair_order, pair_total, pair_sum, pair_neg, pair_product, pair_product_neg}
use Rattle.xc_frac.proofs.laws.pairs_are_ordered.Goals as goal

pub returns-clause-same : goal.returns-clause-same
returns-clause-same c = alike IsLess SameParts pair_order

pub returns-clause-total : goal.returns-clause-total
returns-clause-total c = pair_total

pub returns-clause-transitive : goal.returns-clause-transitive
returns-clause-transitive c = transitive IsLess SameParts pair_order

pub returns-clause-sum : goal.returns-clause-sum
returns-clause-sum c = pair_sum

pub returns-clause-negative : goal.returns-clause-negative
returns-clause-negative c = pair_neg

pub returns-clause-positive_factor : goal.returns-clause-positive_factor
returns-clause-positive_factor c = pair_product

pub returns-clause-negative_factor : goal.returns-clause-negative_factor
returns-clause-negative_factor c = pair_product_neg

pub returns-clause-reals : goal.returns-clause-reals
returns-clause-reals c = reals_compare
