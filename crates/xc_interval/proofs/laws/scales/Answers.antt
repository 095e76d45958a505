use Rattle.xc_interval.proofs.Denominators.{have_scales, scales_grow}
use Rattle.xc_interval.proofs.laws.scales.Goals as goal

pub returns-clause-some : goal.returns-clause-some
returns-clause-some c = have_scales

pub returns-clause-grow : goal.returns-clause-grow
returns-clause-grow c = scales_grow
