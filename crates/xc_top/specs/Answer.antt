-- What a run writes and how it ends, of its words and of what is held.
use Rattle.std.specs.Prelude.{◌≡◌, ◌⊎◌, ℕ, List, Option, Some, None}
use Rattle.xc_calc.specs.declared.arc.Network.{Network}
use Rattle.xc_io.specs.Shelf.{Files}
use Rattle.xc_lines.specs.Lines.{usage_line}
use Rattle.xc_report.specs.declared.reports.Fact.{Fact}
use Rattle.xc_report.specs.declared.reports.Report.{Report}
use Rattle.xc_sample.specs.Samples.{value}
use Rattle.xc_top.specs.Answers.{make_answer}
use Rattle.xc_top.specs.Certified.{IsJudgementIn}
use Rattle.xc_top.specs.Contents.{HasContent}
use Rattle.xc_top.specs.Documents.{first_unfetched}
use Rattle.xc_top.specs.Findings.{IsFindings, IsJointFindings, IsSummary}
use Rattle.xc_top.specs.FirstFaults.{IsFirstFault}
use Rattle.xc_top.specs.Samples.{files_read, sample_check}
use Rattle.xc_top.specs.Words.{VerifyWords, CommandWords, SumOf, CheckOf, VerifyOf, SampleOf, file_words, words_of}
use Rattle.xc_top.specs.declared.status.Answer.{Answer}
use Rattle.xc_top.specs.declared.status.Status.TheVariants.{Usage}

-- the judgement of the certificate that is held
pub record IsHeldJudgement (verify : VerifyWords) (files : Files) (networks : List Network) (facts : List Fact) (answer : Answer) : Type 0 where
  pub bytes : List ℕ
  pub held : files verify.certificate ≡ Some bytes
  pub judged : IsJudgementIn verify.over.mode bytes networks facts answer

-- what a command makes of networks and facts: `sum` the findings, `check` these and the joint part, `verify` the judgement of a certificate, `sample` the summary
abbrev pub IsMade : CommandWords → Files → List Network → List Fact → Answer → Type 0
IsMade (SumOf sum) files networks facts answer = IsFindings sum.mode networks facts answer
IsMade (CheckOf check) files networks facts answer = IsJointFindings check.mode networks facts answer
IsMade (VerifyOf verify) files networks facts answer = IsHeldJudgement verify files networks facts answer
IsMade (SampleOf n) files networks facts answer = IsSummary n (value n 0) sample_check.mode networks facts answer

-- the answer is what the command makes of the content
pub record IsMadeOfContent (command : CommandWords) (files : Files) (answer : Answer) : Type 0 where
  pub networks : List Network
  pub report : Report
  pub content : HasContent command files networks report
  pub made : IsMade command files networks report.facts answer

-- what is answered of a command whose files are all held: the refusal of their first fault, or what the command makes of their content
abbrev pub IsHeldAnswer : CommandWords → Files → Answer → Type 0
IsHeldAnswer command files answer = IsFirstFault command files answer ⊎ IsMadeOfContent command files answer

-- all files are held and none is too long, and this is answered of those in which the command reads
pub record IsFetchedAnswer (command : CommandWords) (files : Files) (answer : Answer) : Type 0 where
  pub fetched : first_unfetched files (file_words command) ≡ None
  pub answered : IsHeldAnswer command (files_read command files) answer

-- what is answered of a command: the first of its files that is not held or too long, or else what is answered of them
abbrev pub IsCommandAnswer : CommandWords → Files → Answer → Type 0
IsCommandAnswer command files answer = (first_unfetched files (file_words command) ≡ Some answer) ⊎ IsFetchedAnswer command files answer

-- what is answered of words that were read, where these files are held
abbrev pub IsAnswer : Option CommandWords → Files → Answer → Type 0
IsAnswer None files answer = answer ≡ make_answer Usage usage_line
IsAnswer (Some command) files answer = IsCommandAnswer command files answer

-- what is answered of words, where these files are held
abbrev pub IsAnswerOf : List (List ℕ) → Files → Answer → Type 0
IsAnswerOf words files answer = IsAnswer (words_of words) files answer
