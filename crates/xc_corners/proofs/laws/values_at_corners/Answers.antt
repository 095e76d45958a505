use Rattle.xc_corners.proofs.OneChoice.{value_same, within_same, past_not_within, one_leaving}
use Rattle.xc_corners.proofs.Values.{value_at_other}
use Rattle.xc_corners.proofs.laws.values_at_corners.Goals as goal

pub returns : goal.returns
returns c = record {
  others = value_at_other;
  one = λ p x s t j f g h. value_same p x s t j h f g;
  outside = λ p x s t above j f g h outside within. past_not_within p x s above j outside (within_same p x t s j h g f within);
  leaving = λ p x s t above other b d h f g k l. one_leaving p h x s t above other b d f g k l;
}
