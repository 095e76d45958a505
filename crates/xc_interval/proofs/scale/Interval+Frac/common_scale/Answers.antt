use Rattle.std.proofs.Common.{subst}
use Rattle.std.specs.Prelude.{IfSome, IfNone}
use Rattle.xc_interval.specs.Ends.{value_of}
use Rattle.xc_interval.specs.Scales.{IsOnScale, IsMultipleOf, IsNoneBelow}
use Rattle.xc_interval.proofs.Denominators.{both_multiples, none_of_first, none_of_second}
use Rattle.xc_interval.proofs.scale.Interval+Frac.common_scale.Goals as goal

pub returns-in_default-clause-none : goal.returns-in_default-clause-none
returns-in_default-clause-none c =
    none_of_first (λ m. IsOnScale m (value_of c.args.self.now.low)) (λ m. IsOnScale m (value_of c.args.self.now.high)) c.args.scale
    (subst (λ x. IsNoneBelow c.args.scale (λ m. IsOnScale m x)) c.value.ensures c.in_default.ensures.none)

pub returns-clause-some : goal.returns-clause-some
returns-clause-some c =
    both_multiples (λ m. IsOnScale m (value_of c.args.self.now.low)) (λ m. IsOnScale m (value_of c.args.self.now.high)) c.args.scale c.in-Some.with_low
    (subst (λ x. IsMultipleOf c.args.scale (λ m. IsOnScale m x) c.in-Some.with_low) c.value.ensures c.in-Some.ensures.some)
    c.with_end-2.result (subst (λ x. IfSome c.with_end-2.result (IsMultipleOf c.in-Some.with_low (λ m. IsOnScale m x))) c.value-2.ensures c.with_end-2.ensures.some)

pub returns-clause-none : goal.returns-clause-none
returns-clause-none c =
    none_of_second (λ m. IsOnScale m (value_of c.args.self.now.low)) (λ m. IsOnScale m (value_of c.args.self.now.high)) c.args.scale c.in-Some.with_low
    (subst (λ x. IsMultipleOf c.args.scale (λ m. IsOnScale m x) c.in-Some.with_low) c.value.ensures c.in-Some.ensures.some)
    c.with_end-2.result (subst (λ x. IfNone c.with_end-2.result (IsNoneBelow c.in-Some.with_low (λ m. IsOnScale m x))) c.value-2.ensures c.with_end-2.ensures.none)
