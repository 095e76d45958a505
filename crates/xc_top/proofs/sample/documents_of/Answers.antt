use Rattle.std.proofs.Common.{subst, sym, ◌∙◌, [], ◌∷◌, ◌++◌, ap}
use Rattle.xc_top.proofs.Sampled.{sample_documents}
use Rattle.xc_top.proofs.sample.documents_of.Goals as goal
use Rattle.xc_top.specs.Documents.{AreDocumentsOf}
use Rattle.xc_top.specs.Samples.{sample_check, sample_files}

pub returns : goal.returns
returns c = λ n schema_is linkbase_is.
    let one = c.in_ok-document_in.field-0 in
    let other = c.in_ok-document_in-2.field-0 in
    subst (λ documents. AreDocumentsOf (sample_files n) sample_check.documents documents)
    (sym (c.in_ok-push-2.ensures.items ∙ ap (λ documents. documents ++ other ∷ []) (c.in_ok-push.ensures.items ∙ ap (λ documents. documents ++ one ∷ []) c.new-documents.ensures.items)))
    (sample_documents n c.args.schema.items c.args.linkbase.items one other schema_is linkbase_is
    c.in_ok-document_in.ensures.word c.in_ok-document_in.ensures.content c.in_ok-document_in-2.ensures.word c.in_ok-document_in-2.ensures.content)
