-- Words of which the first are fetched.
use Rattle.std.proofs.Common.{◌≡◌, ℕ, ◌+◌, ◌<◌, ◌≤◌, List, [], ◌∷◌, ◌++◌, length, drop, get_or, Option, Some, None, refl, sym, ap, subst, ◌∙◌, append_assoc, append-nil, IfSome}
use Rattle.std.proofs.lemmas.List.{drop_more}
use Rattle.std.specs.Option.{option_or}
use Rattle.std.specs.Prelude.{String, string_bytes}
use Rattle.std.specs.declared.alloc.Global.{Global}
use Rattle.xc_io.specs.Shelf.{Files}
use Rattle.xc_top.specs.Documents.{limit, unfetched, first_unfetched, IsContentOf, IsDocumentOf, AreDocumentsOf, AreFetched}
use Rattle.xc_top.specs.Words.{texts}
use Rattle.xc_top.specs.declared.documents.Document.{Document}
use Rattle.xc_top.specs.declared.status.Answer.{Answer}
use Rattle.xc_top.proofs.Leaving.{short_fetched}
use Rattle.xc_top.proofs.Stops.{if_both, if_then}

-- one word is fetched
one_fetched : (files : Files) (word bytes : List ℕ) (document : Document)
    → files word ≡ Some bytes → length bytes ≤ limit → document.word ≡ word → IsContentOf bytes document.content
    → AreFetched files (word ∷ []) (document ∷ [])
one_fetched files word bytes document held short named content =
    let this : IsDocumentOf files word document = record { named = named; bytes = bytes; held = held; content = content } in
    record {
      fetched = ap (λ o. option_or o None) (short_fetched files word bytes held short);
      read = (this, tt);
    }

-- of these words some are left: with a document for each of them, all have theirs, and the first of them that has none is the first of all
pub record Fetched (files : Files) (words left : List (List ℕ)) (done : List Document) : Type 0 where
  pub documents : (rest : List Document) → AreDocumentsOf files left rest → AreDocumentsOf files words (done ++ rest)
  pub first : first_unfetched files left ≡ first_unfetched files words

pub fetched_none : (files : Files) (words : List (List ℕ)) → Fetched files words words []
fetched_none files words = record { documents = λ rest h. h; first = λ i. first_unfetched files words }

-- one more word is fetched
fetched_more : (files : Files) (words left after : List (List ℕ)) (word : List ℕ) (done : List Document) (document : Document)
    → left ≡ word ∷ after → AreFetched files (word ∷ []) (document ∷ [])
    → Fetched files words left done → Fetched files words after (done ++ document ∷ [])
fetched_more files words left after word done document e one fetched =
    record {
      documents = λ rest are.
          subst (λ ds. AreDocumentsOf files words ds) (sym (append_assoc done (document ∷ []) rest))
          (fetched.documents (document ∷ rest) (subst (λ ws. AreDocumentsOf files ws (document ∷ rest)) (sym e) (one.read.0, are)));
      first = sym (behind files word after one.fetched) ∙ sym (ap (first_unfetched files) e) ∙ fetched.first;
    }
  where
    given : (o rest : Option Answer) → option_or o None ≡ None → option_or o rest ≡ rest
    given None rest none = refl
    given (Some a) rest none = absurd (cc)

    behind : (files : Files) (word : List ℕ) (after : List (List ℕ)) → first_unfetched files (word ∷ []) ≡ None → first_unfetched files (word ∷ after) ≡ first_unfetched files after
    behind files word after none = given (unfetched files word) (first_unfetched files after) none

-- all are fetched
fetched_all : (files : Files) (words left : List (List ℕ)) (done : List Document) → left ≡ [] → Fetched files words left done → AreFetched files words done
fetched_all files words left done e fetched = record {
  fetched = sym fetched.first ∙ ap (first_unfetched files) e;
  read = subst (λ ds. AreDocumentsOf files words ds) (append-nil done) (fetched.documents [] (subst (λ ws. AreDocumentsOf files ws []) (sym e) tt));
}

-- the same of what is told
pub first_told : (told : Option Files) (words left : List (List ℕ)) (done : List Document) → IfSome told (λ files. Fetched files words left done)
    → IfSome told (λ files. first_unfetched files left ≡ first_unfetched files words)
first_told told words left done fetched = if_then told (λ files f. f.first) fetched

pub more_told : (told still : Option Files) (words left after : List (List ℕ)) (word : List ℕ) (done more : List Document) (document : Document)
    → still ≡ told → more ≡ done ++ document ∷ [] → left ≡ word ∷ after
    → IfSome told (λ files. Fetched files words left done) → IfSome still (λ files. AreFetched files (word ∷ []) (document ∷ []))
    → IfSome told (λ files. Fetched files words after more)
more_told told still words left after word done more document same pushed e fetched one =
    subst (λ ds. IfSome told (λ files. Fetched files words after ds)) (sym pushed)
    (if_both told (λ files f o. fetched_more files words left after word done document e o f) fetched
    (subst (λ o. IfSome o (λ files. AreFetched files (word ∷ []) (document ∷ []))) same one))

pub all_told : (told : Option Files) (words left : List (List ℕ)) (done : List Document) → left ≡ [] → IfSome told (λ files. Fetched files words left done)
    → IfSome told (λ files. AreFetched files words done)
all_told told words left done e fetched = if_then told (λ files f. fetched_all files words left done e f) fetched

-- the next of the words that are left
pub next_left : (words : List (String Global)) (i : ℕ) (item : String Global) (word : List ℕ) → i < length words → item ≡ get_or words i item → word ≡ string_bytes item → texts (drop i words) ≡ word ∷ texts (drop (i + 1) words)
next_left words i item word h is named =
    ap texts (drop_more words i item h ∙ ap (λ x. x ∷ drop (i + 1) words) (sym is)) ∙ ap (λ w. w ∷ texts (drop (i + 1) words)) (sym named)

pub one_told : (told : Option Files) (word bytes : List ℕ) (document : Document)
    → IfSome told (λ files. files word ≡ Some bytes) → length bytes ≤ limit → document.word ≡ word → IsContentOf bytes document.content
    → IfSome told (λ files. AreFetched files (word ∷ []) (document ∷ []))
one_told told word bytes document held short named content = if_then told (λ files is. one_fetched files word bytes document is short named content) held
