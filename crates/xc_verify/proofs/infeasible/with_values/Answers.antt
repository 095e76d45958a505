use Rattle.std.proofs.Common.{◌+◌, drop, Option, option_map, option_to_list, subst}
use Rattle.xc_interval.specs.declared.interval.Interval.{Interval}
use Rattle.xc_model.specs.Ratio.{Ratio}
use Rattle.xc_system.specs.Systems.{range_at}
use Rattle.xc_verify.proofs.Results.{given_split, sum_more}
use Rattle.xc_verify.specs.Infeasible.{Line, value_term, value_terms}
use Rattle.xc_verify.specs.Sums.{IsSum}
use Rattle.xc_verify.proofs.infeasible.with_values.Goals as goal

pub loop-fact-preserved : goal.loop-fact-preserved
loop-fact-preserved c end =
    let side = c.args.side in
    let bounds = c.args.bounds.now in
    let ms = c.args.lines.now in
    let i = c.loop-fact.fact-index in
    let m = c.loop-fact-item.result in
    sum_more c.args.start c.loop-fact.sum c.with_fact-sum.result end (value_terms side bounds ms) (value_terms side bounds (drop i ms)) (option_to_list (option_map (value_term side m.1) (range_at bounds m.0))) (value_terms side bounds (drop (i + 1) ms))
    (given_split (λ (n : Line). option_map (value_term side n.1) (range_at bounds n.0)) ms i m c.loop-fact-test.true c.loop-fact-item.is)
    (subst (λ (o : Option (Interval Ratio)). IsSum c.loop-fact.sum (option_to_list (option_map (value_term side m.1) o)) c.with_fact-sum.result) c.interval_of.ensures c.with_fact-sum.ensures)
    c.loop-fact.invariant
