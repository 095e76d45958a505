use Rattle.std.proofs.Common.{pos}
use Rattle.xc_model.specs.Fraction.{IsBelow, SameNumber, sum_of, neg_of, whole}
use Rattle.xc_model.specs.Parts.{IsLess, SameParts, sum_parts, neg_parts, zero_parts}
use Rattle.xc_interval.proofs.Numbers.{number_dense, number_group, pair_dense, pair_group}
use Rattle.xc_interval.proofs.Sums.{has_sums}
use Rattle.xc_interval.proofs.laws.sums.Goals as goal

pub returns-clause-numbers : goal.returns-clause-numbers
returns-clause-numbers c = has_sums IsBelow SameNumber sum_of neg_of (whole (pos 0)) number_dense number_group

pub returns-clause-pairs : goal.returns-clause-pairs
returns-clause-pairs c = has_sums IsLess SameParts sum_parts neg_parts zero_parts pair_dense pair_group
