-- A judgement over words and files is made of their content; and files that hold the same have the same content.
use Rattle.std.proofs.Common.{◌≡◌, ◌∙◌, ◌⊎◌, ℕ, List, [], ◌∷◌, Bool, true, false, Some, None, cond, decimal, option_map, inl, inr, ap}
use Rattle.std.specs.List.{AllByRecursion}
use Rattle.xc_calc.specs.declared.arc.Network.{Network}
use Rattle.xc_cert.specs.Codes as certificate
use Rattle.xc_cert.specs.declared.fault.CertFault.TheVariants.{NotCertificate}
use Rattle.xc_io.specs.Shelf.{Files}
use Rattle.xc_names.specs.Codes as name_fault
use Rattle.xc_names.specs.Prefixes.{Bindings}
use Rattle.xc_names.specs.declared.expansion.NameFault.TheVariants.{NoPrefix}
use Rattle.xc_report.specs.Codes as report_fault
use Rattle.xc_report.specs.declared.reports.Report.{Report}
use Rattle.xc_report.specs.declared.reports.ReportFault.{ReportFault}
use Rattle.xc_top.proofs.Unjudged.{IsUnjudged, given_has, refused_unjudged, refusal_unjudged, taxonomy_unjudged}
use Rattle.xc_top.specs.Answer.{IsHeldAnswer, IsMadeOfContent}
use Rattle.xc_top.specs.Answers.{name_refusal, report_refusal}
use Rattle.xc_top.specs.Contents.{HasContent, report_word}
use Rattle.xc_top.specs.Documents.{AreDocumentsOf}
use Rattle.xc_top.specs.FirstFaults.{AreRefused, IsNotOpen, IsNotOpenOver, IsNotSaid, IsUncertified, IsFirstFault}
use Rattle.xc_top.specs.Run.{IsJudged}
use Rattle.xc_top.specs.Samples.{sample_check}
use Rattle.xc_top.specs.Sums.{is_bound, named_words, unbound}
use Rattle.xc_top.specs.Words.{CheckWords, VerifyWords, CommandWords, SumOf, CheckOf, VerifyOf, SampleOf}
use Rattle.xc_top.specs.declared.documents.Document.{Document}
use Rattle.xc_top.specs.declared.status.Answer.{Answer}

-- ---- a judgement is none of the refusals

unbound_unjudged : (prefixes : Bindings) (report : List ℕ) (word : List ℕ × List ℕ) (a : Answer) → unbound prefixes report word ≡ Some a → IsUnjudged a
unbound_unjudged prefixes report word a e = by (is_bound prefixes word.1) e
  where
    by : (b : Bool) → cond b None (name_refusal report NoPrefix word.0) ≡ Some a → IsUnjudged a
    by true e = absurd (cc)
    by false e = refusal_unjudged report (name_fault.code_of NoPrefix) (Some word.0) a e

module _ (files : Files) (a : Answer) where
  report_unjudged : (word : List ℕ) (fault : ReportFault) → report_refusal word fault ≡ Some a → IsUnjudged a
  report_unjudged word fault e = refusal_unjudged word (report_fault.code_of fault) (report_fault.place_of fault) a e

  closed_unjudged : (word : List ℕ) → IsNotOpen word files a → IsUnjudged a
  closed_unjudged word h = report_unjudged word h.fault h.refused

  documents_unjudged : (check : CheckWords) → AreRefused check files a ⊎ IsNotOpenOver check files a → IsUnjudged a
  documents_unjudged check (inl h) = taxonomy_unjudged check.kind h.documents a h.refused
  documents_unjudged check (inr h) = closed_unjudged check.report h.closed

  not_said_unjudged : (command : CommandWords) → IsNotSaid command files a → IsUnjudged a
  not_said_unjudged (SumOf sum) (inl h) = closed_unjudged sum.report h
  not_said_unjudged (SumOf sum) (inr h) = given_has IsUnjudged (unbound h.parts.prefixes sum.report) (unbound_unjudged h.parts.prefixes sum.report) (named_words sum) a h.lacks
  not_said_unjudged (CheckOf check) h = documents_unjudged check h
  not_said_unjudged (VerifyOf verify) h = documents_unjudged verify.over h
  not_said_unjudged (SampleOf n) h = documents_unjudged sample_check h

  uncertified_unjudged : (command : CommandWords) → IsUncertified command files a → IsUnjudged a
  uncertified_unjudged (SumOf sum) h = absurd h
  uncertified_unjudged (CheckOf check) h = absurd h
  uncertified_unjudged (VerifyOf verify) h =
      refusal_unjudged verify.certificate (certificate.code_of (NotCertificate h.lacks.0)) (option_map decimal (certificate.place_of (NotCertificate h.lacks.0))) a h.lacks.2
  uncertified_unjudged (SampleOf n) h = absurd h

  fault_unjudged : (command : CommandWords) → IsFirstFault command files a → IsUnjudged a
  fault_unjudged command (inl h) = not_said_unjudged command h
  fault_unjudged command (inr (inl h)) = report_unjudged (report_word command) h.fault h.refused
  fault_unjudged command (inr (inr (inl h))) = refused_unjudged a (ap (λ x. x.status) h.is)
  fault_unjudged command (inr (inr (inr h))) = uncertified_unjudged command h

  -- a judgement is made of the content
  pub reached : (command : CommandWords) → IsJudged a.status → IsHeldAnswer command files a → IsMadeOfContent command files a
  reached command judged (inl fault) = absurd (fault_unjudged command fault judged)
  reached command judged (inr h) = h

-- ---- the same content

same_documents : (files later : Files) (words : List (List ℕ)) (documents : List Document) → AllByRecursion (λ word. later word ≡ files word) words → AreDocumentsOf files words documents → AreDocumentsOf later words documents
same_documents files later [] [] same h = tt
same_documents files later [] (d ∷ ds) same h = absurd h
same_documents files later (word ∷ words) [] same h = absurd h
same_documents files later (word ∷ words) (d ∷ ds) same h = (
  record { named = h.0.named; bytes = h.0.bytes; held = same.0 ∙ h.0.held; content = h.0.content },
  same_documents files later words ds same.1 h.1,
)

-- where later files hold the same report and documents, `verify` has the content of `check`
pub content_later : (verify : VerifyWords) (files later : Files) (networks : List Network) (report : Report) → HasContent (CheckOf verify.over) files networks report
    → later verify.over.report ≡ files verify.over.report → AllByRecursion (λ word. later word ≡ files word) verify.over.documents
    → HasContent (VerifyOf verify) later networks report
content_later verify files later networks report content same_report same =
    let read = content.read in
    let open_parts = read.over.opened_as in
    let said = read.over.said in
    record {
      read = record {
        names = read.names;
        wanted = read.wanted;
        parts = read.parts;
        over = record {
          opened_as = record { bytes = open_parts.bytes; held = same_report ∙ open_parts.held; opens = open_parts.opens };
          said = record { documents = said.documents; read = same_documents files later verify.over.documents said.documents same said.read; taxonomy = said.taxonomy };
        };
        stated = read.stated;
        states = read.states;
        after = read.after;
        kept = read.kept;
        numbered = read.numbered;
      };
      few = content.few;
    }
