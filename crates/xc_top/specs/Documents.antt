-- The documents of a run: what is fetched, and what is read of it.
use Rattle.std.specs.Prelude.{◌≡◌, ℕ, List, [], ◌∷◌, length, Option, Some, None, nat_lt, codes, if◌then◌else◌}
use Rattle.xc_calc.specs.Linkbases.{is_linkbase}
use Rattle.xc_lists.specs.Places.{first_given}
use Rattle.xc_concepts.specs.Schemas.{is_schema}
use Rattle.xc_elements.specs.DocumentTrees.{IsTreeOf, IsFirstFault}
use Rattle.xc_elements.specs.declared.nodes.Node.{Node}
use Rattle.xc_io.specs.Shelf.{Files}
use Rattle.xc_top.specs.Answers.{unread, refused, tree_refusal}
use Rattle.xc_top.specs.declared.documents.Content.{Content}
use Rattle.xc_top.specs.declared.documents.Content.TheVariants.{Elements, Broken}
use Rattle.xc_top.specs.declared.documents.Document.{Document}
use Rattle.xc_top.specs.declared.status.Answer.{Answer}

-- the greatest size of a file, in bytes
abbrev pub limit : ℕ
limit = 67108864

-- what is answered of a word under which this is held: nothing is held, or more than the limit
abbrev pub unfetched_of : List ℕ → Option (List ℕ) → Option Answer
unfetched_of word None = Some (unread word)
unfetched_of word (Some bytes) = if nat_lt limit (length bytes) then Some (refused word (codes "xc:tooLong")) else None

-- the same of a word over these files
abbrev pub unfetched : Files → List ℕ → Option Answer
unfetched files word = unfetched_of word (files word)

-- what is answered of the first of these words under which nothing is held, or more than the limit
abbrev pub first_unfetched : Files → List (List ℕ) → Option Answer
first_unfetched files words = first_given (unfetched files) words

-- what these bytes hold: the elements of an XML document, or their first fault
abbrev pub IsContentOf : List ℕ → Content → Type 0
IsContentOf bytes (Elements nodes) = IsTreeOf bytes nodes
IsContentOf bytes (Broken fault) = IsFirstFault bytes fault

-- the document is that of this word
pub record IsDocumentOf (files : Files) (word : List ℕ) (document : Document) : Type 0 where
  pub named : document.word ≡ word
  pub bytes : List ℕ
  pub held : files word ≡ Some bytes
  pub content : IsContentOf bytes document.content

-- the documents are those of these words, one by one
abbrev pub AreDocumentsOf : Files → List (List ℕ) → List Document → Type 0
AreDocumentsOf files [] [] = Unit {0}
AreDocumentsOf files [] (document ∷ documents) = ⊥
AreDocumentsOf files (word ∷ words) [] = ⊥
AreDocumentsOf files (word ∷ words) (document ∷ documents) = IsDocumentOf files word document × AreDocumentsOf files words documents

-- all of these words are fetched, and the documents are theirs
pub record AreFetched (files : Files) (words : List (List ℕ)) (documents : List Document) : Type 0 where
  pub fetched : first_unfetched files words ≡ None
  pub read : AreDocumentsOf files words documents

-- elements whose root is neither that of a schema nor that of a linkbase
abbrev pub root_refusal : List ℕ → List Node → Option Answer
root_refusal word nodes =
    if is_schema nodes then None
    else if is_linkbase nodes then None
    else Some (refused word (codes "xc:notTaxonomy"))

-- what is answered of a document that is no XML document, or neither a schema nor a linkbase
abbrev pub content_refusal : List ℕ → Content → Option Answer
content_refusal word (Elements nodes) = root_refusal word nodes
content_refusal word (Broken fault) = tree_refusal word fault

-- the same with its word
abbrev pub document_refusal : Document → Option Answer
document_refusal document = content_refusal document.word document.content

-- what is answered of the first such document
abbrev pub first_unread : List Document → Option Answer
first_unread documents = first_given document_refusal documents
