use Rattle.xc_frac.proofs.PartsOver.{neg_parts_over}
use Rattle.xc_frac.proofs.delta.DeltaExact.neg.Goals as goal

pub returns-clause-over : goal.returns-clause-over
returns-clause-over g c a d over = neg_parts_over _ _ a d (record { real = c.neg.ensures.exact.real; tiny = c.neg-2.ensures.exact.real }) over
