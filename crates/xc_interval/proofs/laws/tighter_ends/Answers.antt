use Rattle.xc_model.specs.Fraction.{IsBelow, SameNumber}
use Rattle.xc_model.specs.Parts.{IsLess, SameParts}
use Rattle.xc_interval.proofs.Numbers.{number_dense, pair_dense}
use Rattle.xc_interval.proofs.Tighter.{low_tightness, high_tightness}
use Rattle.xc_interval.proofs.laws.tighter_ends.Goals as goal

pub returns-clause-low_numbers : goal.returns-clause-low_numbers
returns-clause-low_numbers c = low_tightness IsBelow SameNumber number_dense

pub returns-clause-high_numbers : goal.returns-clause-high_numbers
returns-clause-high_numbers c = high_tightness IsBelow SameNumber number_dense

pub returns-clause-low_pairs : goal.returns-clause-low_pairs
returns-clause-low_pairs c = low_tightness IsLess SameParts pair_dense

pub returns-clause-high_pairs : goal.returns-clause-high_pairs
returns-clause-high_pairs c = high_tightness IsLess SameParts pair_dense
