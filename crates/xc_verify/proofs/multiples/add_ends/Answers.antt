use Rattle.std.proofs.Common.{◌+◌, ◌<◌, length, drop, sym, subst}
use Rattle.xc_system.specs.Systems.{point_at}
use Rattle.xc_verify.proofs.Adding.{continues_more, end_split, point_of}
use Rattle.xc_verify.specs.Infeasible.{Line, end_term, end_terms}
use Rattle.xc_verify.specs.Steps.Running.{Adds, at_point, sum_at}
use Rattle.xc_verify.proofs.multiples.add_ends.Goals as goal

pub loop-fact-preserved : goal.loop-fact-preserved
loop-fact-preserved c =
    let side = c.args.side in
    let bounds = c.args.system.now.bounds in
    let ms = c.args.lines.now in
    let i = c.loop-fact.fact-index in
    let m = c.loop-fact-item.result in
    let now = sum_at c.loop-fact.sums c.loop-fact.stops in
    let next = sum_at c.add_end.new.sums c.add_end.new.stops in
    continues_more (end_terms side bounds ms) (end_terms side bounds (drop i ms)) (end_terms side bounds (drop (i + 1) ms)) (at_point (point_at bounds m.0) (end_term side m.1))
    (sum_at c.args.sums.now c.args.stops.now) now next
    (λ p. end_split side bounds ms i m p c.loop-fact-test.true c.loop-fact-item.is)
    (subst (λ q. Adds (at_point q (end_term side m.1)) now next) (point_of bounds c.bounds.result.now m.0 c.index-bounds-fact.result c.bounds.ensures.is (subst (λ (x : Line). x.0 < length bounds) (sym c.loop-fact-item.is) (c.requires.known i m c.loop-fact-test.true))) c.add_end.ensures) c.loop-fact.invariant
