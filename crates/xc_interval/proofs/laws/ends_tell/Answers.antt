use Rattle.xc_model.specs.Fraction.{IsBelow, SameNumber}
use Rattle.xc_model.specs.Parts.{IsLess, SameParts}
use Rattle.xc_interval.proofs.Meeting.{ends_tell}
use Rattle.xc_interval.proofs.Numbers.{number_dense, pair_dense}
use Rattle.xc_interval.proofs.laws.ends_tell.Goals as goal

pub returns-clause-numbers : goal.returns-clause-numbers
returns-clause-numbers c = ends_tell IsBelow SameNumber number_dense

pub returns-clause-pairs : goal.returns-clause-pairs
returns-clause-pairs c = ends_tell IsLess SameParts pair_dense
