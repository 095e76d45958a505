-- The first fault of words and files that are all held: what comes later is asked only where nothing before it is at fault.
use Rattle.std.specs.Prelude.{◌≡◌, ◌⊎◌, ℕ, List, length, true, Some, Err, codes}
use Rattle.xc_calc.specs.declared.arc.Network.{Network}
use Rattle.xc_io.specs.Shelf.{Files}
use Rattle.xc_lists.specs.Places.{first_given}
use Rattle.xc_names.specs.declared.expanded.Expanded.{Expanded}
use Rattle.xc_names.specs.declared.wanted.Wanted.{Wanted}
use Rattle.xc_report.specs.Opened.{Opened, opened}
use Rattle.xc_report.specs.StatedFacts.{stated_facts}
use Rattle.xc_report.specs.Wanted.{known_of}
use Rattle.xc_report.specs.declared.reports.Report.{Report}
use Rattle.xc_report.specs.declared.reports.ReportFault.{ReportFault}
use Rattle.xc_top.specs.Answers.{refused, report_refusal}
use Rattle.xc_top.specs.Certified.{IsNoCertificate}
use Rattle.xc_top.specs.Contents.{IsOpen, IsSaidByDocuments, IsReadOver, IsReadFrom, HasContent, are_too_many, report_word}
use Rattle.xc_top.specs.Documents.{AreDocumentsOf}
use Rattle.xc_top.specs.Samples.{sample_check}
use Rattle.xc_top.specs.Sums.{named_words, unbound}
use Rattle.xc_top.specs.Taxonomies.{IsTaxonomyRefusal}
use Rattle.xc_top.specs.Words.{SumWords, CheckWords, VerifyWords, CommandWords, SumOf, CheckOf, VerifyOf, SampleOf}
use Rattle.xc_top.specs.declared.documents.Document.{Document}
use Rattle.xc_top.specs.declared.status.Answer.{Answer}

-- a document is no XML document, or no schema and no linkbase; or else a schema breaks a rule; or else a linkbase does
pub record AreRefused (check : CheckWords) (files : Files) (answer : Answer) : Type 0 where
  pub documents : List Document
  pub read : AreDocumentsOf files check.documents documents
  pub refused : IsTaxonomyRefusal check.kind documents answer

-- the report does not open
pub record IsNotOpen (word : List ℕ) (files : Files) (answer : Answer) : Type 0 where
  pub bytes : List ℕ
  pub held : files word ≡ Some bytes
  pub fault : ReportFault
  pub fails : opened bytes ≡ Err fault
  pub refused : report_refusal word fault ≡ Some answer

-- the documents are no fault, and the report does not open
pub record IsNotOpenOver (check : CheckWords) (files : Files) (answer : Answer) : Type 0 where
  pub names : List Expanded
  pub networks : List Network
  pub wanted : Wanted
  pub said : IsSaidByDocuments check files names networks wanted
  pub closed : IsNotOpen check.report files answer

-- the report opens, and does not declare the prefix of a name in the words of `sum`
pub record LacksPrefix (sum : SumWords) (files : Files) (answer : Answer) : Type 0 where
  pub parts : Opened
  pub opened_as : IsOpen sum.report files parts
  pub lacks : first_given (unbound parts.prefixes sum.report) (named_words sum) ≡ Some answer

-- the documents are refused, or else the report does not open; for `sum` the report does not open, or else lacks a prefix
abbrev pub IsNotSaid : CommandWords → Files → Answer → Type 0
IsNotSaid (SumOf sum) files answer = IsNotOpen sum.report files answer ⊎ LacksPrefix sum files answer
IsNotSaid (CheckOf check) files answer = AreRefused check files answer ⊎ IsNotOpenOver check files answer
IsNotSaid (VerifyOf verify) files answer = AreRefused verify.over files answer ⊎ IsNotOpenOver verify.over files answer
IsNotSaid (SampleOf n) files answer = AreRefused sample_check files answer ⊎ IsNotOpenOver sample_check files answer

-- a fact of the report cannot be read
pub record AreUnread (command : CommandWords) (files : Files) (answer : Answer) : Type 0 where
  pub parts : Opened
  pub names : List Expanded
  pub networks : List Network
  pub wanted : Wanted
  pub over : IsReadOver command files parts names networks wanted
  pub fault : ReportFault
  pub fails : stated_facts (known_of parts.prefixes names wanted) parts.facts ≡ Err fault
  pub refused : report_refusal (report_word command) fault ≡ Some answer

-- the facts are read, and are too many for the networks
pub record AreTooMany (command : CommandWords) (files : Files) (answer : Answer) : Type 0 where
  pub networks : List Network
  pub report : Report
  pub read : IsReadFrom command files networks report
  pub many : are_too_many (length report.facts) (length networks) ≡ true
  pub is : answer ≡ refused (report_word command) (codes "xc:tooMany")

-- there is a content, and the file of the certificate holds none
pub record LacksCertificate (verify : VerifyWords) (files : Files) (answer : Answer) : Type 0 where
  pub networks : List Network
  pub report : Report
  pub content : HasContent (VerifyOf verify) files networks report
  pub bytes : List ℕ
  pub held : files verify.certificate ≡ Some bytes
  pub lacks : IsNoCertificate verify.certificate bytes answer

-- so for `verify`; the others ask for none
abbrev pub IsUncertified : CommandWords → Files → Answer → Type 0
IsUncertified (SumOf sum) files answer = ⊥
IsUncertified (CheckOf check) files answer = ⊥
IsUncertified (VerifyOf verify) files answer = LacksCertificate verify files answer
IsUncertified (SampleOf n) files answer = ⊥

-- the first fault of words and files, and what is answered of it: documents, report or names are refused; or else its facts are not read; or else they are too many; or else there is no certificate
abbrev pub IsFirstFault : CommandWords → Files → Answer → Type 0
IsFirstFault command files answer = IsNotSaid command files answer ⊎ AreUnread command files answer ⊎ AreTooMany command files answer ⊎ IsUncertified command files answer
