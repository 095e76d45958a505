-- What an accepted certificate proves of the files that are held.
use Rattle.std.specs.Prelude.{◌≡◌, ℕ, List, Some}
use Rattle.xc_calc.specs.declared.arc.Network.{Network}
use Rattle.xc_cert.specs.Certificates.{IsTextOf}
use Rattle.xc_io.specs.Shelf.{Files}
use Rattle.xc_report.specs.declared.reports.Report.{Report}
use Rattle.xc_system.specs.Systems.{Constraints}
use Rattle.xc_system.specs.declared.types.Certificate.{Certificate}
use Rattle.xc_top.specs.Certified.{IsSystemIn}
use Rattle.xc_top.specs.Contents.{HasContent}
use Rattle.xc_top.specs.Words.{VerifyWords, VerifyOf}
use Rattle.xc_verify.specs.Judgements.{Proves}

-- the certificate that is held proves what it claims of the system of the report that is held: its values solve it, or its multipliers contradict it
pub record IsProven (verify : VerifyWords) (files : Files) : Type 0 where
  pub networks : List Network
  pub report : Report
  pub content : HasContent (VerifyOf verify) files networks report
  pub system : Constraints
  pub system_is : IsSystemIn verify.over.mode networks report.facts system
  pub bytes : List ℕ
  pub held : files verify.certificate ≡ Some bytes
  pub certificate : Certificate
  pub text : IsTextOf bytes certificate
  pub proves : Proves system certificate
