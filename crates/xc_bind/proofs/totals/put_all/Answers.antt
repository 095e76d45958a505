use Rattle.std.proofs.Common.{rules, ◌≡◌, get_or, ◌∙◌}
use Rattle.xc_bind.proofs.TotalPoints.{put_more}
use Rattle.xc_bind.proofs.totals.put_all.Goals as goal

pub loop-number-preserved : goal.loop-number-preserved
loop-number-preserved c = λ k.
    let left = c.args.numbers.now in
    let i = c.loop-number.number-index in
    let item : get_or left i 0 ≡ get_or left i 0 = search rules in
    put_more c.loop-number.totals.keys c.insert.new.self.keys left i (get_or left i 0) c.loop-number-test.true search rules c.in_ok-insert.ensures.keys k ∙ c.loop-number.invariant k
