use Rattle.xc_model.proofs.Arithmetic.{sum-assoc, sum-comm, sum-zero, sum-neg}
use Rattle.xc_model.proofs.Numbers.{same-sum, same-neg}
use Rattle.xc_model.proofs.Orders.{same_number}
use Rattle.xc_frac.proofs.laws.numbers_are_a_group.Goals as goal

pub returns-clause-same : goal.returns-clause-same
returns-clause-same c = same_number

pub returns-clause-sums : goal.returns-clause-sums
returns-clause-sums c = same-sum

pub returns-clause-associative : goal.returns-clause-associative
returns-clause-associative c = sum-assoc

pub returns-clause-commutative : goal.returns-clause-commutative
returns-clause-commutative c = sum-comm

pub returns-clause-zero : goal.returns-clause-zero
returns-clause-zero c = sum-zero

pub returns-clause-negatives : goal.returns-clause-negatives
returns-clause-negatives c = same-neg

pub returns-clause-inverse : goal.returns-clause-inverse
returns-clause-inverse c = sum-neg
