-- What is answered of a certificate.
use Rattle.std.specs.Prelude.{◌≡◌, ℕ, List, Some}
use Rattle.xc_bind.specs.Bindings.{bindings_of}
use Rattle.xc_bind.specs.Systems.{IsSystemOf}
use Rattle.xc_calc.specs.declared.arc.Network.{Network}
use Rattle.xc_cert.specs.Certificates.{IsTextOf}
use Rattle.xc_cert.specs.Faults.{IsFaultAt}
use Rattle.xc_cert.specs.declared.fault.CertFault.TheVariants.{NotCertificate}
use Rattle.xc_interval.specs.declared.mode.Mode.{Mode}
use Rattle.xc_lines.specs.Judgements.{judgement_line}
use Rattle.xc_points.specs.Gathered.{ArePoints}
use Rattle.xc_points.specs.Kept.{Gathered}
use Rattle.xc_report.specs.declared.reports.Fact.{Fact}
use Rattle.xc_system.specs.Systems.{Constraints, IsSystem}
use Rattle.xc_system.specs.declared.types.Certificate.{Certificate}
use Rattle.xc_top.specs.Answers.{make_answer, certificate_refusal}
use Rattle.xc_top.specs.declared.status.Answer.{Answer}
use Rattle.xc_top.specs.declared.status.Status.{Status}
use Rattle.xc_top.specs.declared.status.Status.TheVariants.{Sound, Findings, TooWide}
use Rattle.xc_verify.specs.Judgements.{IsJudgement}
use Rattle.xc_verify.specs.declared.types.Judgement.{Judgement}
use Rattle.xc_verify.specs.declared.types.Judgement.TheVariants as judgement

-- sound where the certificate is accepted; findings where it misses something; too wide where a fact or a number is
abbrev pub judged_status : Judgement → Status
judged_status judgement.Accepted = Sound
judged_status (judgement.Misses what) = Findings
judged_status (judgement.WideFact fact) = TooWide
judged_status (judgement.TooWide what wide) = TooWide

-- the system of facts: their data points, with the bindings of the networks
pub record IsSystemIn (mode : Mode) (networks : List Network) (facts : List Fact) (system : Constraints) : Type 0 where
  pub points : Gathered
  pub points_are : ArePoints mode facts points
  pub system_is : IsSystemOf points (bindings_of networks points.points) system

-- the judgement of a certificate over a system of facts, in which every bound and every entry names a point, and every point has a bound
pub record IsJudgedBy (system : Constraints) (certificate : Certificate) (facts : List Fact) (answer : Answer) : Type 0 where
  pub kept : IsSystem system
  pub judgement : Judgement
  pub judgement_is : IsJudgement system certificate judgement
  pub is : answer ≡ make_answer (judged_status judgement) (judgement_line facts certificate judgement)

-- the judgement of the certificate in these bytes over the system of facts
pub record IsJudgementIn (mode : Mode) (bytes : List ℕ) (networks : List Network) (facts : List Fact) (answer : Answer) : Type 0 where
  pub certificate : Certificate
  pub text : IsTextOf bytes certificate
  pub system : Constraints
  pub system_is : IsSystemIn mode networks facts system
  pub judged : IsJudgedBy system certificate facts answer

-- the bytes are no certificate, and the first line of theirs that fits nowhere is named
abbrev pub IsNoCertificate : List ℕ → List ℕ → Answer → Type 0
IsNoCertificate word bytes answer = (n : ℕ) × IsFaultAt bytes n × (certificate_refusal word (NotCertificate n) ≡ Some answer)
