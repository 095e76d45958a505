-- What is found of facts and said of their system, as it is handed on.
use Rattle.std.specs.List.{list_any}
use Rattle.std.specs.Prelude.{◌≡◌, List, Bool, if◌then◌else◌}
use Rattle.xc_bind.specs.Bindings.{bindings_of}
use Rattle.xc_bind.specs.declared.types.Verdict.{Verdict}
use Rattle.xc_calc.specs.declared.arc.Network.{Network}
use Rattle.xc_interval.specs.declared.mode.Mode.{Mode}
use Rattle.xc_joint.specs.Answers.{IsAnswer}
use Rattle.xc_joint.specs.Kinds.{kind_of}
use Rattle.xc_joint.specs.declared.types.Joint.{Joint}
use Rattle.xc_lines.specs.Joints.{joint_lines}
use Rattle.xc_report.specs.declared.reports.Fact.{Fact}
use Rattle.xc_system.specs.Systems.{Constraints, IsSmall, IsSystem}
use Rattle.xc_top.specs.Findings.{AreVerdicts, findings_of, has_finding, is_too_wide, is_contradicted, is_caused}
use Rattle.xc_top.specs.declared.findings.Findings.{Findings}
use Rattle.xc_top.specs.declared.joint.JointPart.{JointPart}
use Rattle.xc_top.specs.declared.status.Status.TheVariants as status
use Rattle.xc_top.specs.declared.status.Status.{Status}

-- the lines and the kind of what is said
pub record IsPartOf (s : Constraints) (facts : List Fact) (part : JointPart) : Type 0 where
  pub kept : IsSystem s
  pub small : IsSmall s
  pub joint : Joint
  pub said : IsAnswer s joint
  pub lines : part.lines.items ≡ joint_lines facts joint
  pub contradicted : part.contradicted ≡ is_contradicted (kind_of joint)
  pub caused : part.caused ≡ is_caused (kind_of joint)

-- what the verdicts on facts come to: their lines, whether something disagrees, and whether a binding is too wide
pub record HasVerdicts (mode : Mode) (networks : List Network) (facts : List Fact) (findings : Findings) : Type 0 where
  pub verdicts : List Verdict
  pub are : AreVerdicts mode facts findings.points.points (bindings_of networks findings.points.points) verdicts
  pub lines : findings.lines.items ≡ findings_of mode networks facts findings.points.points verdicts
  pub disagrees : findings.disagrees ≡ has_finding findings.points.points verdicts
  pub too_wide : findings.too_wide ≡ list_any is_too_wide verdicts

-- findings where something disagrees; else too wide where something is; else sound
abbrev pub status_by : Bool → Bool → Status
status_by disagrees too_wide = if disagrees then status.Findings else if too_wide then status.TooWide else status.Sound
