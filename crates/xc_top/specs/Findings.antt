-- What is found of facts: their data points, the bindings of the networks, a verdict for each, and what is said of all of them together.
use Rattle.std.specs.Prelude.{◌≡◌, ◌++◌, ℕ, List, [], ◌∷◌, length, Bool, true, false, ◌||◌, if◌then◌else◌}
use Rattle.std.specs.List.{list_any}
use Rattle.xc_bind.specs.Bindings.{bindings_of}
use Rattle.xc_bind.specs.Systems.{IsSystemOf}
use Rattle.xc_bind.specs.declared.types.Binding.{Binding}
use Rattle.xc_bind.specs.declared.types.Verdict.{Verdict}
use Rattle.xc_calc.specs.declared.arc.Network.{Network}
use Rattle.xc_interval.specs.Ranges.{is_empty_range}
use Rattle.xc_interval.specs.declared.mode.Mode.{Mode}
use Rattle.xc_joint.specs.Answers.{IsAnswer}
use Rattle.xc_joint.specs.Kinds.{Kind, Solved, Contradicted, Caused, kind_of}
use Rattle.xc_joint.specs.declared.types.Joint.{Joint}
use Rattle.xc_lines.specs.Findings.{findings}
use Rattle.xc_lines.specs.Joints.{joint_lines}
use Rattle.xc_lines.specs.Summary.{summary}
pub use Rattle.xc_lines.specs.Summary.{is_inconsistent, is_too_wide}
use Rattle.xc_points.specs.Gathered.{ArePoints}
use Rattle.xc_points.specs.Kept.{Gathered}
use Rattle.xc_points.specs.declared.types.Point.{Point}
use Rattle.xc_report.specs.declared.reports.Fact.{Fact}
use Rattle.xc_system.specs.Systems.{Constraints, IsSmall, IsSystem}
use Rattle.xc_top.specs.Answers.{make_answer}
use Rattle.xc_top.specs.declared.status.Answer.{Answer}
use Rattle.xc_top.specs.declared.status.Status.{Status}
use Rattle.xc_top.specs.declared.status.Status.TheVariants.{Sound, Findings, TooWide}
use Rattle.xc_verdict.specs.Verdicts.{IsVerdict}

-- ---- verdicts

-- no value satisfies all facts of a data point: duplicates disagree
abbrev pub is_empty_point : Point → Bool
is_empty_point point = is_empty_range point.range

-- a total disagrees, or no value satisfies a data point
abbrev pub has_finding : List Point → List Verdict → Bool
has_finding points verdicts = list_any is_inconsistent verdicts || list_any is_empty_point points

-- findings where there is one; else too wide where a binding is; else sound
abbrev pub status_of : List Point → List Verdict → Status
status_of points verdicts = if has_finding points verdicts then Findings else if list_any is_too_wide verdicts then TooWide else Sound

-- one verdict for each binding, in their order
abbrev pub AreVerdicts : Mode → List Fact → List Point → List Binding → List Verdict → Type 0
AreVerdicts mode facts points [] [] = Unit {0}
AreVerdicts mode facts points [] (v ∷ verdicts) = ⊥
AreVerdicts mode facts points (binding ∷ bindings) [] = ⊥
AreVerdicts mode facts points (binding ∷ bindings) (v ∷ verdicts) = IsVerdict mode facts points binding v × AreVerdicts mode facts points bindings verdicts

-- what is written of points, bindings and verdicts
abbrev pub findings_of : Mode → List Network → List Fact → List Point → List Verdict → List ℕ
findings_of mode networks facts points verdicts = findings mode facts networks points (bindings_of networks points) verdicts

-- the findings of facts
pub record IsFindings (mode : Mode) (networks : List Network) (facts : List Fact) (answer : Answer) : Type 0 where
  pub points : Gathered
  pub points_are : ArePoints mode facts points
  pub verdicts : List Verdict
  pub verdicts_are : AreVerdicts mode facts points.points (bindings_of networks points.points) verdicts
  pub is : answer ≡ make_answer (status_of points.points verdicts) (findings_of mode networks facts points.points verdicts)

-- ---- the joint part

-- no assignment satisfies all
abbrev pub is_contradicted : Kind → Bool
is_contradicted Solved = false
is_contradicted Contradicted = true
is_contradicted Caused = false

-- some component has no answer
abbrev pub is_caused : Kind → Bool
is_caused Solved = false
is_caused Contradicted = false
is_caused Caused = true

-- findings where there is one, or no assignment satisfies all; else too wide where a binding is, or some component has no answer; else sound
abbrev pub joint_status : List Point → List Verdict → Kind → Status
joint_status points verdicts kind =
    if has_finding points verdicts || is_contradicted kind then Findings
    else if list_any is_too_wide verdicts || is_caused kind then TooWide
    else Sound

-- what is found of facts, and what is said of the system of their points and bindings; so it is written
pub record IsJudgedJointly (lines : List Point → List Verdict → Joint → List ℕ) (mode : Mode) (networks : List Network) (facts : List Fact) (answer : Answer) : Type 0 where
  pub points : Gathered
  pub points_are : ArePoints mode facts points
  pub verdicts : List Verdict
  pub verdicts_are : AreVerdicts mode facts points.points (bindings_of networks points.points) verdicts
  pub system : Constraints
  pub system_is : IsSystemOf points (bindings_of networks points.points) system
  pub kept : IsSystem system
  pub small : IsSmall system
  pub joint : Joint
  pub joint_is : IsAnswer system joint
  pub is : answer ≡ make_answer (joint_status points.points verdicts (kind_of joint)) (lines points.points verdicts joint)

-- the findings of facts, and behind them the joint part
abbrev pub IsJointFindings : Mode → List Network → List Fact → Answer → Type 0
IsJointFindings mode networks facts answer = IsJudgedJointly (λ points verdicts joint. findings_of mode networks facts points verdicts ++ joint_lines facts joint) mode networks facts answer

-- the summary of the facts of a sample of n nodes, of which the first has the value `root`
abbrev pub IsSummary : ℕ → ℕ → Mode → List Network → List Fact → Answer → Type 0
IsSummary n root mode networks facts answer = IsJudgedJointly (λ points verdicts joint. summary n (length (bindings_of networks points)) (length points) verdicts root (kind_of joint)) mode networks facts answer
