use Rattle.std.proofs.Common.{◌≡◌, [], drop, arith}
use Rattle.std.proofs.lemmas.Grind.{common_steps}
use Rattle.xc_points.proofs.Spreading.{none_spread, more_spread, all_spread}
use Rattle.xc_points.proofs.groups.members_by_first.Goals as goal

pub loop-fact-init : goal.loop-fact-init
loop-fact-init c = none_spread c.args.firsts.now c.in_ok-members.members.items c.in_ok-members.ensures

pub loop-fact-preserved : goal.loop-fact-preserved
loop-fact-preserved c =
    more_spread c.args.firsts.now c.loop-fact.fact c.loop-fact.members.items c.index_mut.result.now c.push.new.self c.loop-fact-test.true
    (c.requires.inside c.loop-fact.fact 0 c.loop-fact-test.true) c.index_mut.ensures.value c.in_ok-push.ensures c.loop-fact.invariant

pub returns : goal.returns
returns c =
    let none : drop c.loop-fact.fact c.args.firsts.now ≡ [] = grind (arith, common_steps) in
    all_spread c.args.firsts.now c.loop-fact.fact c.loop-fact.members.items none c.loop-fact.invariant
