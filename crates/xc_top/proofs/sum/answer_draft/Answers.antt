use Rattle.std.proofs.Common.{inr}
use Rattle.xc_report.specs.Drafts.{draft_view}
use Rattle.xc_top.specs.Steps.Named.{named_sum}
use Rattle.xc_top.specs.Steps.Views.{asked}
use Rattle.xc_top.proofs.Numbering.{numbered_answer}
use Rattle.xc_top.proofs.Told.{if_answers}
use Rattle.xc_top.proofs.sum.answer_draft.Goals as goal

pub returns-clause-answer : goal.returns-clause-answer
returns-clause-answer c =
    if_answers c.answer_facts.result (λ answer is.
    inr (numbered_answer (named_sum c.args.sum.now) (draft_view c.args.draft) c.prefixes.result.now c.numbers_of.new.names c.in_ok-named.named.total c.in_ok-named.named.terms.items c.in_ok-wanted.wanted c.in_ok-networks.networks.items (asked c.question_of.result) answer
    c.prefixes.ensures c.in_ok-named.ensures.bound c.in_ok-named.ensures.total c.in_ok-named.ensures.terms c.in_ok-networks.ensures c.in_ok-wanted.ensures.nodes c.in_ok-wanted.ensures.typed c.question_of.ensures is))
    c.answer_facts.ensures.answer
