use Rattle.std.proofs.Common.{◌≡◌, ◌+◌, drop, [], arith, subst, sym}
use Rattle.std.proofs.lemmas.Grind.{common_steps}
use Rattle.xc_points.proofs.FactEnds.{AreFirstEnds, one_more_end, all_ends}
use Rattle.xc_points.proofs.intervals.intervals_of.Goals as goal

pub loop-fact-init : goal.loop-fact-init
loop-fact-init c = subst (λ done. AreFirstEnds c.args.mode c.args.facts.now 0 done) (sym c.new-ends.ensures.items) (λ rest are. are)

pub loop-fact-preserved : goal.loop-fact-preserved
loop-fact-preserved c =
    subst (λ done. AreFirstEnds c.args.mode c.args.facts.now (c.loop-fact.fact-index + 1) done) (sym c.in_ok-put_last.ensures)
    (one_more_end c.args.mode c.args.facts.now c.loop-fact.fact-index c.fact-item.result c.loop-fact.ends.items c.interval_of.result c.loop-fact-test.true c.fact-item.is c.interval_of.ensures c.loop-fact.invariant)

pub returns : goal.returns
returns c =
    let all : drop c.loop-fact.fact-index c.args.facts.now ≡ [] = grind (arith, common_steps) in
    all_ends c.args.mode c.args.facts.now c.loop-fact.fact-index c.loop-fact.ends.items all c.loop-fact.invariant
