use Rattle.std.proofs.Common.{subst}
use Rattle.std.specs.Prelude.{IfSome, IfNone}
use Prim.Native.Nat.{◌∣◌}
use Rattle.xc_interval.specs.Scales.{IsMultipleOf, IsNoneBelow}
use Rattle.xc_interval.proofs.Denominators.{multiple_if_common, none_if_common}
use Rattle.xc_interval.proofs.scale.with_end.Goals as goal

pub returns-clause-some : goal.returns-clause-some
returns-clause-some c = subst (λ n. IfSome c.least_common.result (IsMultipleOf c.args.scale (λ m. n ∣ m))) c.den_size.ensures.is (multiple_if_common c.args.scale c.den_size.result c.least_common.result c.requires c.den_size.ensures.some c.least_common.ensures.some)

pub returns-clause-none : goal.returns-clause-none
returns-clause-none c = subst (λ n. IfNone c.least_common.result (IsNoneBelow c.args.scale (λ m. n ∣ m))) c.den_size.ensures.is (none_if_common c.args.scale c.den_size.result c.least_common.result c.den_size.ensures.some c.least_common.ensures.none)
