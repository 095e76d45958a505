-- The content of words and of the files in which they are read: the networks and the facts, with what they come from.
use Rattle.std.specs.Prelude.{◌≡◌, ℕ, ◌+◌, ◌*◌, ◌^◌, List, [], ◌∷◌, length, Bool, false, not, nat_lt, Some, None, Ok}
use Rattle.std.specs.List.{zip}
use Rattle.xc_calc.specs.declared.arc.Network.{Network}
use Rattle.xc_io.specs.Shelf.{Files}
use Rattle.xc_lists.specs.Places.{first_given}
use Rattle.xc_names.specs.Names.{KeepsNumbers}
use Rattle.xc_names.specs.declared.expanded.Expanded.{Expanded}
use Rattle.xc_names.specs.declared.expanded.NameId.{NameId}
use Rattle.xc_names.specs.declared.wanted.Wanted.{Wanted}
use Rattle.xc_report.specs.Numbered.{IsReport}
use Rattle.xc_report.specs.Opened.{Opened, opened}
use Rattle.xc_report.specs.StatedFacts.{stated_facts}
use Rattle.xc_report.specs.Wanted.{known_of}
use Rattle.xc_report.specs.declared.reports.Report.{Report}
use Rattle.xc_report.specs.declared.stated.StatedFact.{StatedFact}
use Rattle.xc_top.specs.Documents.{AreDocumentsOf}
use Rattle.xc_top.specs.Samples.{sample_check}
use Rattle.xc_top.specs.Sums.{AreSumNumbers, named_words, sum_network, unbound}
use Rattle.xc_top.specs.Taxonomies.{IsTaxonomyOf}
use Rattle.xc_top.specs.Words.{SumWords, CheckWords, CommandWords, SumOf, CheckOf, VerifyOf, SampleOf}
use Rattle.xc_top.specs.declared.documents.Document.{Document}

-- the word of the report
abbrev pub report_word : CommandWords → List ℕ
report_word (SumOf sum) = sum.report
report_word (CheckOf check) = check.report
report_word (VerifyOf verify) = verify.over.report
report_word (SampleOf n) = sample_check.report

-- the report that is held opens to these parts
pub record IsOpen (word : List ℕ) (files : Files) (parts : Opened) : Type 0 where
  pub bytes : List ℕ
  pub held : files word ≡ Some bytes
  pub opens : opened bytes ≡ Ok parts

-- the documents that are held are schemas and linkbases that break no rule, and say these networks, and which concepts are wanted
pub record IsSaidByDocuments (check : CheckWords) (files : Files) (names : List Expanded) (networks : List Network) (wanted : Wanted) : Type 0 where
  pub documents : List Document
  pub read : AreDocumentsOf files check.documents documents
  pub taxonomy : IsTaxonomyOf check.kind documents names networks wanted

-- the report declares the prefixes of all names in the words of `sum`, and these say this one network, and which concepts are wanted
pub record IsSaidByWords (sum : SumWords) (parts : Opened) (names : List Expanded) (networks : List Network) (wanted : Wanted) : Type 0 where
  pub bound : first_given (unbound parts.prefixes sum.report) (named_words sum) ≡ None
  pub total : NameId
  pub terms : List NameId
  pub numbers : AreSumNumbers parts.prefixes names sum total terms wanted
  pub network : networks ≡ sum_network total (zip sum.terms terms) ∷ []

-- what is said of networks and of wanted concepts, whatever the numbers of their names: by the documents, and for `sum` by its words
abbrev pub IsSaid : CommandWords → Files → Opened → List Expanded → List Network → Wanted → Type 0
IsSaid (SumOf sum) files parts names networks wanted = IsSaidByWords sum parts names networks wanted
IsSaid (CheckOf check) files parts names networks wanted = IsSaidByDocuments check files names networks wanted
IsSaid (VerifyOf verify) files parts names networks wanted = IsSaidByDocuments verify.over files names networks wanted
IsSaid (SampleOf n) files parts names networks wanted = IsSaidByDocuments sample_check files names networks wanted

-- the report is open, and this is said of networks and of the concepts that are wanted of it
pub record IsReadOver (command : CommandWords) (files : Files) (parts : Opened) (names : List Expanded) (networks : List Network) (wanted : Wanted) : Type 0 where
  pub opened_as : IsOpen (report_word command) files parts
  pub said : IsSaid command files parts names networks wanted

-- these networks are said, and these are the report's facts of the wanted concepts, whatever the numbers of further names
pub record IsReadFrom (command : CommandWords) (files : Files) (networks : List Network) (report : Report) : Type 0 where
  pub names : List Expanded
  pub wanted : Wanted
  pub parts : Opened
  pub over : IsReadOver command files parts names networks wanted
  pub stated : List StatedFact
  pub states : stated_facts (known_of parts.prefixes names wanted) parts.facts ≡ Ok stated
  pub after : List Expanded
  pub kept : KeepsNumbers names after
  pub numbered : IsReport after stated report

-- the number of facts, times one more than the number of networks, is too great
abbrev pub are_too_many : ℕ → ℕ → Bool
are_too_many facts networks = not (nat_lt (facts * (networks + 1)) (2 ^ 31))

-- the content of words and files: these networks, and the facts of this report, which are not too many
pub record HasContent (command : CommandWords) (files : Files) (networks : List Network) (report : Report) : Type 0 where
  pub read : IsReadFrom command files networks report
  pub few : are_too_many (length report.facts) (length networks) ≡ false
