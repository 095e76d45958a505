-- What is answered of a sample, from what is answered of its texts.
use Rattle.std.proofs.Common.{◌≡◌, ℕ, List, [], ◌∷◌, Bool, Option, Some, codes, inr, refl, sym, ap, subst}
use Rattle.xc_calc.specs.declared.arc.ArcKind.{ArcKind}
use Rattle.xc_io.specs.Shelf.{Files}
use Rattle.xc_sample.specs.Samples.{linkbase_text, report_text, schema_text}
use Rattle.xc_top.proofs.Stops.{if_any}
use Rattle.xc_top.specs.Documents.{IsContentOf, AreDocumentsOf}
use Rattle.xc_top.specs.Samples.{sample_check, sample_files}
use Rattle.xc_top.specs.Steps.Chain.{Asked, IsDocumentsAnswer, IsSampleAnswer, over_asked, sample_sought}
use Rattle.xc_top.specs.Steps.Fetches.{IsOver}
use Rattle.xc_top.specs.Steps.Stops.{IsSettled}
use Rattle.xc_top.specs.Words.{SampleOf}
use Rattle.xc_top.specs.declared.documents.Document.{Document}
use Rattle.xc_top.specs.declared.status.Answer.{Answer}

-- the documents of a sample are those of its texts
pub sample_documents : (n : ℕ) (schema linkbase : List ℕ) (one other : Document) → schema ≡ schema_text n → linkbase ≡ linkbase_text n
    → one.word ≡ codes "sample.xsd" → IsContentOf schema one.content → other.word ≡ codes "sample-calc.xml" → IsContentOf linkbase other.content
    → AreDocumentsOf (sample_files n) sample_check.documents (one ∷ other ∷ [])
sample_documents n schema linkbase one other schema_is linkbase_is named content other_named other_content = (
  record { named = named; bytes = schema; held = ap (λ bytes. Some bytes) (sym schema_is); content = content },
  (record { named = other_named; bytes = linkbase; held = ap (λ bytes. Some bytes) (sym linkbase_is); content = other_content }, tt),
)

-- what is answered of its documents and its report is answered of it
pub sample_answered : (n : ℕ) (kind : ArcKind) (asked : Asked) (report : List ℕ) (documents : List Document) (answer : Answer)
    → kind ≡ sample_check.kind → asked ≡ over_asked sample_check (sample_sought n) → report ≡ report_text n → AreDocumentsOf (sample_files n) sample_check.documents documents
    → IsDocumentsAnswer kind asked report documents answer → IsSampleAnswer n (sample_files n) answer
sample_answered n kind asked report documents answer same_kind same_asked report_is read is = record {
  bytes = report;
  held = ap (λ bytes. Some bytes) (sym report_is);
  documents = documents;
  read = read;
  answered =
      subst (λ k. IsDocumentsAnswer k (over_asked sample_check (sample_sought n)) report documents answer) same_kind
      (subst (λ a. IsDocumentsAnswer kind a report documents answer) same_asked is);
}

-- so the command is over, whatever is held
pub sample_over : {S : Type 0} (held : S → Option Files) (steady : S → Bool) (faults : S → ℕ) (shelf : S) (n : ℕ) (answer : Answer)
    → IsSampleAnswer n (sample_files n) answer → IsSettled answer.status → IsOver held steady faults shelf shelf (SampleOf n) answer
sample_over held steady faults shelf n answer is settled = inr (record {
  ended = settled;
  worked = refl;
  told = if_any (held shelf) (λ files. inr (record { fetched = refl; answered = is }));
})
