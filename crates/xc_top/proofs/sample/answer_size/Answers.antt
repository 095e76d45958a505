use Rattle.std.proofs.Common.{◌∙◌, ap}
use Rattle.xc_top.proofs.Sampled.{sample_answered}
use Rattle.xc_top.proofs.Told.{if_answers}
use Rattle.xc_top.proofs.sample.answer_size.Goals as goal
use Rattle.xc_top.specs.Samples.{sample_check}
use Rattle.xc_top.specs.Steps.Chain.{SummaryOf, over_asked}
use Rattle.xc_top.specs.Steps.Named.{named_check}

pub returns-clause-answer : goal.returns-clause-answer
returns-clause-answer c =
    let n = c.args.count in
    let texts = c.in_ok-sample.ensures.texts in
    let sought = SummaryOf n c.in_ok-root.root in
    if_answers c.answer_documents.result (λ answer is.
    sample_answered n c.sample_words.result.kind (over_asked (named_check c.sample_words.result) sought) c.in_ok-sample.sample.report.items c.in_ok-documents.documents.items answer
    c.sample_words.ensures.kind
    (c.sample_words.ensures.asked sought ∙ ap (λ root. over_asked sample_check (SummaryOf n root)) c.in_ok-root.ensures)
    texts.report
    (c.in_ok-documents.ensures n texts.schema texts.linkbase) is)
    c.answer_documents.ensures.answer
