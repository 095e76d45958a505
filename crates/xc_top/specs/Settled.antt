-- Settled joint questions: what `verify` answers of what `check` wrote, and where `check` always settles.
use Rattle.std.specs.Prelude.{◌≡◌, ◌≤◌, ◌++◌, ℕ, List, length, Some, codes, IsTrue}
use Rattle.std.specs.List.{AllByRecursion, list_any}
use Rattle.xc_calc.specs.declared.arc.Network.{Network}
use Rattle.xc_cert.specs.Certificates.{IsTextOf}
use Rattle.xc_io.specs.Shelf.{Files}
use Rattle.xc_joint.specs.Settling.{HasNarrowForests}
use Rattle.xc_joint.specs.declared.types.Joint.TheVariants.{Settled}
use Rattle.xc_lines.specs.JointPart.{Claims, IsClaim}
use Rattle.xc_lines.specs.Judgements.{claim}
use Rattle.xc_report.specs.declared.reports.Report.{Report}
use Rattle.xc_system.specs.Systems.{Constraints}
use Rattle.xc_system.specs.declared.types.Certificate.{Certificate}
use Rattle.xc_top.specs.Answer.{IsAnswerOf}
use Rattle.xc_top.specs.Answers.{make_answer}
use Rattle.xc_top.specs.Certified.{IsSystemIn}
use Rattle.xc_top.specs.Contents.{HasContent}
use Rattle.xc_top.specs.Documents.{limit}
use Rattle.xc_top.specs.Findings.{IsJointFindings, is_too_wide}
use Rattle.xc_top.specs.Run.{IsJudged}
use Rattle.xc_top.specs.Words.{CheckWords, VerifyWords, CheckOf, VerifyOf, words_of}
use Rattle.xc_top.specs.declared.status.Answer.{Answer}
use Rattle.xc_top.specs.declared.status.Status.TheVariants.{Sound, TooWide}
use Rattle.xc_verify.specs.Judgements.{Proves}

-- the bindings are judged, and the joint part makes this claim: `feasible` or `infeasible`
pub record IsSettledAs (word : List ℕ) (answer : Answer) : Type 0 where
  pub judged : IsJudged answer.status
  pub claims : Claims answer.text word

-- ---- what `check` wrote, `verify` accepts

-- the later files hold this text as the certificate, and as the report and the documents what the files before held
pub record HoldsCertificate (verify : VerifyWords) (text : List ℕ) (before later : Files) : Type 0 where
  pub certificate : later verify.certificate ≡ Some text
  pub fits : length text ≤ limit
  pub report : later verify.over.report ≡ before verify.over.report
  pub documents : AllByRecursion (λ word. later word ≡ before word) verify.over.documents

-- the certificate is accepted: it proves this claim
abbrev pub acceptance : List ℕ → Answer
acceptance word = make_answer Sound (codes "accepted " ++ word ++ codes "\n")

-- where an answer to `check` makes a claim, `verify` with the same words otherwise, over its text and the same files otherwise, accepts it:
-- whatever is an answer is that
abbrev pub SettledIsAccepted : Type 0
SettledIsAccepted = (words others : List (List ℕ)) (verify : VerifyWords) → words_of words ≡ Some (CheckOf verify.over) → words_of others ≡ Some (VerifyOf verify)
    → (files later : Files) (written : Answer) (word : List ℕ) → IsAnswerOf words files written → IsClaim word → IsSettledAs word written
    → HoldsCertificate verify written.text files later → (answer : Answer) → IsAnswerOf others later answer → answer ≡ acceptance word

-- ---- narrow forests are settled

-- the system of what words and files have is one of narrow forests
abbrev pub HoldsNarrowForests : CheckWords → Files → Type 0
HoldsNarrowForests check files = (networks : List Network) (report : Report) (system : Constraints) → HasContent (CheckOf check) files networks report
    → IsSystemIn check.mode networks report.facts system → HasNarrowForests system

-- behind the findings of the report that is held stands a certificate, which proves what the joint part claims of the system of them; and
-- the answer is too wide only where a verdict is
pub record IsSettledBy (check : CheckWords) (files : Files) (answer : Answer) : Type 0 where
  pub networks : List Network
  pub report : Report
  pub content : HasContent (CheckOf check) files networks report
  pub found : IsJointFindings check.mode networks report.facts answer
  pub certificate : Certificate
  pub joint : found.joint ≡ Settled certificate
  pub settled : IsSettledAs (claim certificate) answer
  pub text : IsTextOf answer.text certificate
  pub proves : Proves found.system certificate
  pub wide : answer.status ≡ TooWide → IsTrue (list_any is_too_wide found.verdicts)

-- where the bindings are judged and the system is one of narrow forests, the joint question is settled
abbrev pub ForestsAreSettled : Type 0
ForestsAreSettled = (words : List (List ℕ)) (check : CheckWords) → words_of words ≡ Some (CheckOf check)
    → (files : Files) → HoldsNarrowForests check files → (answer : Answer) → IsAnswerOf words files answer → IsJudged answer.status → IsSettledBy check files answer
