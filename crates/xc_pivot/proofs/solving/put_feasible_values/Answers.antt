use Rattle.std.proofs.Common.{inl, inr}
use Rattle.xc_pivot.proofs.solving.put_feasible_values.Goals as goal

pub returns-in-Err-clause-some : goal.returns-in-Err-clause-some
returns-in-Err-clause-some c x t at = inl (c.in-Err.ensures.passes x t at)

pub returns-in-Err-put_values-clause-some : goal.returns-in-Err-put_values-clause-some
returns-in-Err-put_values-clause-some c x t at = inr (c.in-Ok.small, c.in-Ok.ensures.is x t at, c.in-Err-put_values.ensures.passes x t at)

pub returns-in-Ok-put_values-clause-none : goal.returns-in-Ok-put_values-clause-none
returns-in-Ok-put_values-clause-none c x t at = record {
  small = c.in-Ok.small;
  is_small = c.in-Ok.ensures.is x t at;
  are = c.in-Ok-put_values.ensures.are x t at;
  small_stays = c.in-Ok.ensures.stays x t at;
  values_stay = c.in-Ok-put_values.ensures.stays x t at;
}
