use Rattle.std.proofs.Common.{◌≡◌, ◌<◌, ◌≤◌, ◌+◌, [], inr, length, drop, ap, subst, sym, ◌∙◌, arith}
use Rattle.std.proofs.lemmas.Grind.{common_steps}
use Rattle.xc_top.specs.Run.{IsReadFaultOf}
use Rattle.xc_top.specs.Steps.Fetches.{IsUnfetched}
use Rattle.xc_top.specs.Words.{texts}
use Rattle.xc_top.proofs.Fetched.{all_told, first_told, more_told, next_left}
use Rattle.xc_top.proofs.Leaving.{left_unread, more_fetches, stop_through}
use Rattle.xc_top.proofs.documents.fetch_documents.Goals as goal

-- the document of a word cannot be fetched
pub returns-in_err-fetch_document-clause-unfetched : goal.returns-in_err-fetch_document-clause-unfetched
returns-in_err-fetch_document-clause-unfetched g c =
    let more : c.loop-word.word-index < length c.args.words.now = grind (arith, common_steps) in
    let shelf = g.S.Shelf in
    stop_through (λ a. IsUnfetched shelf.held shelf.steady shelf.faults c.args.shelf.now c.fetch_document.new.shelf (texts c.args.words.now) a)
    c.from_residual.result c.in_err-fetch_document.field-0.0 c.from_residual.ensures.1
    (left_unread shelf.held shelf.steady shelf.faults shelf.fetches c.args.shelf.now c.loop-word.shelf c.fetch_document.new.shelf c.loop-word.word-index
    (texts c.args.words.now) (texts (drop c.loop-word.word-index c.args.words.now)) c.as_str.result.now (texts (drop (c.loop-word.word-index + 1) c.args.words.now)) c.in_err-fetch_document.field-0.0
    (next_left c.args.words.now c.loop-word.word-index c.word-item.result c.as_str.result.now more c.word-item.is c.as_str.ensures.value)
    c.loop-word.invariant.left c.loop-word.invariant.worked c.loop-word.invariant.line
    (first_told (shelf.held c.args.shelf.now) (texts c.args.words.now) (texts (drop c.loop-word.word-index c.args.words.now)) c.loop-word.documents.items c.loop-word.invariant.told)
    c.in_err-fetch_document.ensures.unfetched)

pub returns-in_err-fetch_document-clause-left : goal.returns-in_err-fetch_document-clause-left
returns-in_err-fetch_document-clause-left g c =
    let more : c.loop-word.word-index + 1 ≤ length c.args.words.now = grind (arith, common_steps) in
    more_fetches _ _ _ _ _ _ _ c.loop-word.word-index 1 (length c.args.words.now) more c.loop-word.invariant.left c.fetch_document.ensures.left

pub returns-in_err-push-clause-left : goal.returns-in_err-push-clause-left
returns-in_err-push-clause-left g c =
    let more : c.loop-word.word-index + 1 ≤ length c.args.words.now = grind (arith, common_steps) in
    more_fetches _ _ _ _ _ _ _ c.loop-word.word-index 1 (length c.args.words.now) more c.loop-word.invariant.left c.fetch_document.ensures.left

pub loop-word-preserved : goal.loop-word-preserved
loop-word-preserved g c =
    let more : c.loop-word.word-index < length c.args.words.now = grind (arith, common_steps) in
    let next = next_left c.args.words.now c.loop-word.word-index c.word-item.result c.as_str.result.now more c.word-item.is c.as_str.ensures.value in
    let held = g.S.Shelf.held in
    record {
      told = more_told (held c.args.shelf.now) (held c.loop-word.shelf) (texts c.args.words.now) (texts (drop c.loop-word.word-index c.args.words.now)) (texts (drop (c.loop-word.word-index + 1) c.args.words.now)) c.as_str.result.now c.loop-word.documents.items c.push.new.self.items c.in_ok-fetch_document.field-0
          c.loop-word.invariant.left.same c.in_ok-push.ensures.items next c.loop-word.invariant.told c.in_ok-fetch_document.ensures.document;
      worked = c.in_ok-fetch_document.ensures.worked ∙ c.loop-word.invariant.worked;
      left = more_fetches _ _ _ _ _ _ _ c.loop-word.word-index 1 (c.loop-word.word-index + 1) (omega arith) c.loop-word.invariant.left c.fetch_document.ensures.left;
      line = λ text is. c.loop-word.invariant.line text (subst (λ ws. IsReadFaultOf ws text) (sym next) (inr is));
    }

pub returns-clause-documents : goal.returns-clause-documents
returns-clause-documents g c =
    let all : drop c.loop-word.word-index c.args.words.now ≡ [] = grind (arith, common_steps) in
    all_told (g.S.Shelf.held c.args.shelf.now) (texts c.args.words.now) (texts (drop c.loop-word.word-index c.args.words.now)) c.loop-word.documents.items (ap texts all) c.loop-word.invariant.told
