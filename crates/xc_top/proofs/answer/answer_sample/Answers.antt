use Rattle.xc_top.proofs.Leaving.{no_fetch}
use Rattle.xc_top.proofs.Sampled.{sample_over}
use Rattle.xc_top.proofs.Told.{if_answers_both}
use Rattle.xc_top.proofs.answer.answer_sample.Goals as goal

pub returns-clause-answer : goal.returns-clause-answer
returns-clause-answer g c =
    let shelf = g.S.Shelf in
    if_answers_both c.answer_size.result (λ answer is settled. sample_over shelf.held shelf.steady shelf.faults c.args._shelf.now c.args.count answer is settled) c.answer_size.ensures.answer c.answer_size.ensures.settles

pub returns-clause-left : goal.returns-clause-left
returns-clause-left g c = let shelf = g.S.Shelf in no_fetch shelf.held shelf.steady shelf.faults shelf.fetches c.args._shelf.now
