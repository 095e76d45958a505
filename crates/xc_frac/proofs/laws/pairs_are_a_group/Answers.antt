use Rattle.xc_model.proofs.Arithmetic.{sum-assoc, sum-comm, sum-zero, sum-neg}
use Rattle.xc_model.proofs.Numbers.{same-sum, same-neg}
use Rattle.xc_model.proofs.Orders.{same_parts}
use Rattle.xc_frac.proofs.laws.pairs_are_a_group.Goals as goal

pub returns-clause-same : goal.returns-clause-same
returns-clause-same c = same_parts

pub returns-clause-sums : goal.returns-clause-sums
returns-clause-sums c x y x' y' h i = record {
  real = same-sum x.real y.real x'.real y'.real h.real i.real;
  tiny = same-sum x.tiny y.tiny x'.tiny y'.tiny h.tiny i.tiny;
}

pub returns-clause-associative : goal.returns-clause-associative
returns-clause-associative c x y z = record { real = sum-assoc x.real y.real z.real; tiny = sum-assoc x.tiny y.tiny z.tiny }

pub returns-clause-commutative : goal.returns-clause-commutative
returns-clause-commutative c x y = record { real = sum-comm x.real y.real; tiny = sum-comm x.tiny y.tiny }

pub returns-clause-zero : goal.returns-clause-zero
returns-clause-zero c x = record { real = sum-zero x.real; tiny = sum-zero x.tiny }

pub returns-clause-negatives : goal.returns-clause-negatives
returns-clause-negatives c x y h = record { real = same-neg x.real y.real h.real; tiny = same-neg x.tiny y.tiny h.tiny }

pub returns-clause-inverse : goal.returns-clause-inverse
returns-clause-inverse c x = record { real = sum-neg x.real; tiny = sum-neg x.tiny }
