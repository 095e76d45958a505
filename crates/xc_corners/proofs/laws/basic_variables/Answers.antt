use Rattle.xc_corners.proofs.FirstCorner.{first_basic, first_other}
use Rattle.xc_corners.proofs.Moves.{kept_basic, kept_high, left_basic, entered_basic}
use Rattle.xc_corners.proofs.laws.basic_variables.Goals as goal

pub returns : goal.returns
returns c = record {
  first = λ p j. (first_basic p j, first_other p j);
  exchanged = λ p x above b q. record { entered = entered_basic p x above b q; left = left_basic p x above b q; basic = kept_basic p x above b q; high = kept_high p x above b q };
}
