use Rattle.xc_frac.proofs.LeastCommons.{least_common_wide}
use Rattle.xc_frac.proofs.multiples.least_common.Goals as goal

pub returns-clause-none : goal.returns-clause-none
returns-clause-none c = least_common_wide _ _ _ _ c.checked_mul.ensures c.cofactor.ensures
