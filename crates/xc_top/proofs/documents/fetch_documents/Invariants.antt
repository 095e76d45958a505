use Rattle.std.proofs.Common.{◌≡◌, ℕ, List, drop, IfSome}
use Rattle.xc_top.specs.Run.{IsReadFaultOf}
use Rattle.xc_top.specs.Steps.Fetches.{Leaves}
use Rattle.xc_top.specs.Words.{texts}
use Rattle.xc_top.proofs.Fetched.{Fetched}
use Rattle.xc_top.proofs.documents.fetch_documents.Given as goal

-- the documents so far are those of the words so far, each was fetched once, and no fetch failed
abbrev pub invariant-loop-word : goal.invariant-loop-word
invariant-loop-word g l =
    let shelf = g.S.Shelf in
    record {
      told : IfSome (shelf.held l.fn.shelf) (λ files. Fetched files (texts l.words) (texts (drop l.word-index l.words)) l.documents.items);
      worked : shelf.faults l.shelf ≡ shelf.faults l.fn.shelf;
      left : Leaves shelf.held shelf.steady shelf.faults shelf.fetches l.fn.shelf l.shelf l.word-index;
      line : (text : List ℕ) → IsReadFaultOf (texts (drop l.word-index l.words)) text → IsReadFaultOf (texts l.words) text;
    }
