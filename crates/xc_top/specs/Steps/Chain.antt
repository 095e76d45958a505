-- How the parts of a run hand on what they read, and what is answered where one ends: `Contents` and `FirstFaults` say the same in two sentences (`proofs/Chain`).
use Rattle.std.specs.List.{zip}
use Rattle.std.specs.Prelude.{◌≡◌, ℕ, List, length, Result, Ok, Err, Some, MatchBool, codes, ◌⊎◌, [], ◌∷◌, None}
use Rattle.xc_calc.specs.declared.arc.ArcKind.{ArcKind}
use Rattle.xc_calc.specs.declared.arc.Network.{Network}
use Rattle.xc_interval.specs.declared.mode.Mode.{Mode}
use Rattle.xc_io.specs.Shelf.{Files}
use Rattle.xc_lists.specs.Places.{first_given}
use Rattle.xc_names.specs.Names.{KeepsNumbers}
use Rattle.xc_names.specs.declared.expanded.Expanded.{Expanded}
use Rattle.xc_names.specs.declared.expanded.NameId.{NameId}
use Rattle.xc_names.specs.declared.wanted.Wanted.{Wanted}
use Rattle.xc_report.specs.Numbered.{IsReport}
use Rattle.xc_report.specs.Opened.{Opened, opened}
use Rattle.xc_report.specs.StatedFacts.{stated_facts}
use Rattle.xc_report.specs.Wanted.{known_of}
use Rattle.xc_report.specs.declared.reports.Fact.{Fact}
use Rattle.xc_report.specs.declared.reports.Report.{Report}
use Rattle.xc_report.specs.declared.reports.ReportFault.{ReportFault}
use Rattle.xc_report.specs.declared.stated.StatedFact.{StatedFact}
use Rattle.xc_sample.specs.Samples.{value}
use Rattle.xc_top.specs.Answers.{refused, report_refusal}
use Rattle.xc_top.specs.Certified.{IsJudgementIn, IsNoCertificate}
use Rattle.xc_top.specs.Contents.{are_too_many}
use Rattle.xc_top.specs.Documents.{AreDocumentsOf, first_unfetched}
use Rattle.xc_top.specs.Findings.{IsFindings, IsJointFindings, IsSummary}
use Rattle.xc_top.specs.Samples.{files_read, sample_check}
use Rattle.xc_top.specs.Sums.{AreSumNumbers, sum_network, named_words, unbound}
use Rattle.xc_top.specs.Taxonomies.{IsTaxonomyOf, IsTaxonomyRefusal}
use Rattle.xc_top.specs.Words.{SumWords, CheckWords, VerifyWords, CommandWords, SumOf, CheckOf, VerifyOf, SampleOf, file_words}
use Rattle.xc_top.specs.declared.documents.Document.{Document}
use Rattle.xc_top.specs.declared.status.Answer.{Answer}

-- what is sought in facts: their findings; these, with the joint part; the judgement of a certificate, by the word of its file and its bytes; or the summary of a sample, by how many nodes it has and the value of the first
pub data Sought : Type 0 where
  FindingsAlone : Sought
  FindingsAndJoint : Sought
  JudgementOf : List ℕ → List ℕ → Sought
  SummaryOf : ℕ → ℕ → Sought

-- the joint part is among it
abbrev pub IsJoint : Sought → Type 0
IsJoint FindingsAlone = ⊥
IsJoint FindingsAndJoint = Unit {0}
IsJoint (JudgementOf word bytes) = ⊥
IsJoint (SummaryOf n root) = ⊥

-- what is asked of a report: its word, the mode, and what is sought in its facts
pub record Asked : Type 0 where
  pub word : List ℕ
  pub mode : Mode
  pub sought : Sought

-- what is answered of these bytes of the file of this word: that they are no certificate, or the judgement of the one that they are
abbrev pub IsCertified : Mode → List ℕ → List ℕ → List Network → List Fact → Answer → Type 0
IsCertified mode word bytes networks facts answer = IsNoCertificate word bytes answer ⊎ IsJudgementIn mode bytes networks facts answer

-- what is answered of facts that are not too many
abbrev pub IsSought : Mode → Sought → List Network → List Fact → Answer → Type 0
IsSought mode FindingsAlone networks facts answer = IsFindings mode networks facts answer
IsSought mode FindingsAndJoint networks facts answer = IsJointFindings mode networks facts answer
IsSought mode (JudgementOf word bytes) networks facts answer = IsCertified mode word bytes networks facts answer
IsSought mode (SummaryOf n root) networks facts answer = IsSummary n root mode networks facts answer

-- what is answered of facts, which may be too many
abbrev pub IsCounted : Asked → List Network → List Fact → Answer → Type 0
IsCounted asked networks facts answer = MatchBool (are_too_many (length facts) (length networks)) (answer ≡ refused asked.word (codes "xc:tooMany")) (IsSought asked.mode asked.sought networks facts answer)

-- what is answered of stated facts, whatever the numbers of further names
pub record IsStated (asked : Asked) (names : List Expanded) (networks : List Network) (facts : List StatedFact) (answer : Answer) : Type 0 where
  pub after : List Expanded
  pub kept : KeepsNumbers names after
  pub report : Report
  pub numbered : IsReport after facts report
  pub counted : IsCounted asked networks report.facts answer

-- what is answered of what was read of the facts
abbrev pub IsRead : Asked → List Expanded → List Network → Result (List StatedFact) ReportFault → Answer → Type 0
IsRead asked names networks (Ok facts) answer = IsStated asked names networks facts answer
IsRead asked names networks (Err fault) answer = report_refusal asked.word fault ≡ Some answer

-- what is answered of an opened report, of which these concepts are wanted
abbrev pub IsFactsAnswer : Asked → List Expanded → List Network → Wanted → Opened → Answer → Type 0
IsFactsAnswer asked names networks wanted opened answer = IsRead asked names networks (stated_facts (known_of opened.prefixes names wanted) opened.facts) answer

-- ---- over the documents of a taxonomy

-- what is answered of what was read of the report
abbrev pub IsOpenedAnswer : Asked → List Expanded → List Network → Wanted → Result Opened ReportFault → Answer → Type 0
IsOpenedAnswer asked names networks wanted (Ok opened) answer = IsFactsAnswer asked names networks wanted opened answer
IsOpenedAnswer asked names networks wanted (Err fault) answer = report_refusal asked.word fault ≡ Some answer

-- what is answered over a taxonomy
pub record IsTaxonomyAnswer (kind : ArcKind) (asked : Asked) (report : List ℕ) (documents : List Document) (answer : Answer) : Type 0 where
  pub names : List Expanded
  pub networks : List Network
  pub wanted : Wanted
  pub taxonomy : IsTaxonomyOf kind documents names networks wanted
  pub answered : IsOpenedAnswer asked names networks wanted (opened report) answer

-- what is answered of the report's bytes and the documents: the first fault of the documents, or else what is answered over them
abbrev pub IsDocumentsAnswer : ArcKind → Asked → List ℕ → List Document → Answer → Type 0
IsDocumentsAnswer kind asked report documents answer = IsTaxonomyRefusal kind documents answer ⊎ IsTaxonomyAnswer kind asked report documents answer

-- what is asked of the report where this is sought over its taxonomy
abbrev pub over_asked : CheckWords → Sought → Asked
over_asked check sought = record { word = check.report; mode = check.mode; sought = sought }

-- what is answered of the report and the documents that are held, where this is sought
pub record IsOverFiles (check : CheckWords) (sought : Sought) (files : Files) (answer : Answer) : Type 0 where
  pub bytes : List ℕ
  pub held : files check.report ≡ Some bytes
  pub documents : List Document
  pub read : AreDocumentsOf files check.documents documents
  pub answered : IsDocumentsAnswer check.kind (over_asked check sought) bytes documents answer

-- what `check` answers: the findings, with the joint part
abbrev pub IsCheckAnswer : CheckWords → Files → Answer → Type 0
IsCheckAnswer check files answer = IsOverFiles check FindingsAndJoint files answer

-- what `verify` answers: the judgement of the certificate that is held
abbrev pub IsVerifyAnswer : VerifyWords → Files → Answer → Type 0
IsVerifyAnswer verify files answer = (bytes : List ℕ) × (files verify.certificate ≡ Some bytes) × IsOverFiles verify.over (JudgementOf verify.certificate bytes) files answer

-- what is sought in the facts of a sample
abbrev pub sample_sought : ℕ → Sought
sample_sought n = SummaryOf n (value n 0)

-- what `sample` answers: the summary
abbrev pub IsSampleAnswer : ℕ → Files → Answer → Type 0
IsSampleAnswer n files answer = IsOverFiles sample_check (sample_sought n) files answer

-- ---- `sum`

-- what is asked of the report of `sum`
abbrev pub sum_asked : SumWords → Asked
sum_asked sum = record { word = sum.report; mode = sum.mode; sought = FindingsAlone }

-- what is answered of an opened report that declares the prefixes of all names, whatever the numbers of these
pub record IsNumberedAnswer (sum : SumWords) (opened : Opened) (answer : Answer) : Type 0 where
  pub bound : first_given (unbound opened.prefixes sum.report) (named_words sum) ≡ None
  pub names : List Expanded
  pub total : NameId
  pub terms : List NameId
  pub wanted : Wanted
  pub numbers : AreSumNumbers opened.prefixes names sum total terms wanted
  pub answered : IsFactsAnswer (sum_asked sum) names (sum_network total (zip sum.terms terms) ∷ []) wanted opened answer

-- what is answered of what was read of the report: the first name whose prefix is not declared, or else what is answered of its facts
abbrev pub IsReportAnswer : SumWords → Result Opened ReportFault → Answer → Type 0
IsReportAnswer sum (Ok opened) answer = (first_given (unbound opened.prefixes sum.report) (named_words sum) ≡ Some answer) ⊎ IsNumberedAnswer sum opened answer
IsReportAnswer sum (Err fault) answer = report_refusal sum.report fault ≡ Some answer

-- what is answered of the file that is held
pub record IsSumAnswer (sum : SumWords) (files : Files) (answer : Answer) : Type 0 where
  pub bytes : List ℕ
  pub held : files sum.report ≡ Some bytes
  pub answered : IsReportAnswer sum (opened bytes) answer

-- what is answered of a command whose files are all held
abbrev pub IsHeldStep : CommandWords → Files → Answer → Type 0
IsHeldStep (SumOf sum) files answer = IsSumAnswer sum files answer
IsHeldStep (CheckOf check) files answer = IsCheckAnswer check files answer
IsHeldStep (VerifyOf verify) files answer = IsVerifyAnswer verify files answer
IsHeldStep (SampleOf n) files answer = IsSampleAnswer n files answer

-- all files are held and none is too long, and this is answered of those in which the command reads
pub record IsFetchedStep (command : CommandWords) (files : Files) (answer : Answer) : Type 0 where
  pub fetched : first_unfetched files (file_words command) ≡ None
  pub answered : IsHeldStep command (files_read command files) answer

-- what is answered of a command, step by step
abbrev pub IsCommandStep : CommandWords → Files → Answer → Type 0
IsCommandStep command files answer = (first_unfetched files (file_words command) ≡ Some answer) ⊎ IsFetchedStep command files answer
