-- What follows from the definitions.
use Rattle.std.specs.Prelude.{◌≡◌, ◌⊎◌, ◌++◌, ℕ, List, Option, Some, None}
use Rattle.xc_io.specs.Shelf.{Files}
use Rattle.xc_joint.specs.Kinds.{Kind}
use Rattle.xc_lines.specs.Summary.{kind_line}
use Rattle.xc_top.specs.Answer.{IsAnswerOf}
use Rattle.xc_top.specs.Documents.{AreDocumentsOf}
use Rattle.xc_top.specs.Run.{IsJudged}
use Rattle.xc_top.specs.Words.{CommandWords, SumOf, CheckOf, VerifyOf, SampleOf, words_of}
use Rattle.xc_top.specs.declared.documents.Document.{Document}
use Rattle.xc_top.specs.declared.status.Answer.{Answer}

-- files hold one list of documents
abbrev pub DocumentsAreOne : Type 0
DocumentsAreOne = (files : Files) (words : List (List ℕ)) (one other : List Document) → AreDocumentsOf files words one → AreDocumentsOf files words other → one ≡ other

-- the words ask for the joint part
abbrev pub IsCheck : Option CommandWords → Type 0
IsCheck None = ⊥
IsCheck (Some (SumOf sum)) = ⊥
IsCheck (Some (CheckOf check)) = Unit {0}
IsCheck (Some (VerifyOf verify)) = ⊥
IsCheck (Some (SampleOf n)) = ⊥

-- the same status and the same findings, behind which joint parts with the same first line stand: the certificate, or the causes, may be others
pub record AreOfOneKind (one other : Answer) : Type 0 where
  pub status : one.status ≡ other.status
  pub findings : List ℕ
  pub kind : Kind
  pub rest : List ℕ
  pub other_rest : List ℕ
  pub one_is : one.text ≡ findings ++ (kind_line kind ++ rest)
  pub other_is : other.text ≡ findings ++ (kind_line kind ++ other_rest)

-- the answers are one, or, where this holds, of one kind
abbrev pub AreOneIf : Type 0 → Answer → Answer → Type 0
AreOneIf P one other = (one ≡ other) ⊎ (P × AreOfOneKind one other)

-- words and files have one answer, whatever the numbers that names get: whether there is a refusal, and which; the findings and the status; and the whole text, but where `check` judges: there only what stands behind the first line of the joint part may be another
abbrev pub AnswersAreOne : Type 0
AnswersAreOne = (words : List (List ℕ)) (files : Files) (one other : Answer) → IsAnswerOf words files one → IsAnswerOf words files other → AreOneIf (IsCheck (words_of words) × IsJudged one.status) one other
