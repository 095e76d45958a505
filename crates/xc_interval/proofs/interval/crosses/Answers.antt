use Rattle.std.proofs.Common.{◌≡◌, true, false}
use Rattle.xc_interval.proofs.Emptiness.{not_crossed}
use Rattle.xc_interval.proofs.interval.crosses.Goals as goal

no : false ≡ true → ⊥
no e = cc

pub returns-in-Less : goal.returns-in-Less
returns-in-Less g c = (
  λ e. absurd (no e),
  λ crosses. absurd (not_crossed g.E.Exact.parts c.args.low c.args.high c.value.result c.value-2.result c.value.ensures c.value-2.ensures c.in-Less.ensures.exact crosses),
)
