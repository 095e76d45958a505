use Rattle.xc_frac.proofs.DeltaOrder.{by_real, by_tiny}
use Rattle.xc_frac.proofs.PartsOver.{order_parts_over}
use Rattle.xc_frac.proofs.delta.DeltaExact.compare.Goals as goal

pub returns-in-Equal : goal.returns-in-Equal
returns-in-Equal g c =
    let left = g.met.K.Scalar.no_tiny c.args.self.tiny in
    let right = g.met.K.Scalar.no_tiny c.args.other.tiny in
    let exact = by_tiny c.compare-in-Equal.result _ _ _ _ left right c.in-Equal.ensures.exact c.compare-in-Equal.ensures.exact in
    record { exact = exact; over = λ a b d own others. order_parts_over c.compare-in-Equal.result _ _ a b d exact own others }

pub returns-in_default : goal.returns-in_default
returns-in_default g c =
    let left = g.met.K.Scalar.no_tiny c.args.self.real in
    let right = g.met.K.Scalar.no_tiny c.args.other.real in
    let exact = by_real c.compare.result _ _ (g.K.Exact.parts c.args.self.tiny) (g.K.Exact.parts c.args.other.tiny) c.in_default.not-Equal left right c.compare.ensures.exact in
    record { exact = exact; over = λ a b d own others. order_parts_over c.compare.result _ _ a b d exact own others }
