use Rattle.std.proofs.Common.{subst}
use Rattle.xc_top.specs.Documents.{IsContentOf}
use Rattle.xc_top.proofs.Fetched.{one_told}
use Rattle.xc_top.proofs.documents.fetch_document.Goals as goal

pub returns-clause-document : goal.returns-clause-document
returns-clause-document g c =
    let document = c.in_ok-document_of.field-0 in
    one_told (g.S.Shelf.held c.args.shelf.now) c.args.word.now c.in_ok-bytes.bytes.items document
    c.in_ok-bytes.ensures.held c.in_ok-bytes.ensures.short c.in_ok-document_of.ensures.word
    (subst (λ bytes. IsContentOf bytes document.content) c.deref.ensures.value c.in_ok-document_of.ensures.content)
