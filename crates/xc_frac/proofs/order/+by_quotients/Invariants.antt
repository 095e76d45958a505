use Rattle.std.proofs.Common.{◌+◌}
use Rattle.xc_frac.proofs.order.+by_quotients.Given as goal

abbrev pub decreases-by_quotients : goal.decreases-by_quotients
decreases-by_quotients l = l.b + l.d
