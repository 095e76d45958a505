-- What follows from the definitions for all bindings.
use Rattle.std.specs.Prelude.{◌≡◌, List}
use Rattle.xc_bind.specs.declared.types.Binding.{Binding}
use Rattle.xc_bind.specs.declared.types.Verdict.{Verdict}
use Rattle.xc_interval.specs.declared.mode.Mode.{Mode}
use Rattle.xc_points.specs.declared.types.Point.{Point}
use Rattle.xc_report.specs.declared.reports.Fact.{Fact}
use Rattle.xc_verdict.specs.Verdicts.{IsVerdict}

-- a binding has at most one verdict
abbrev pub HasOneVerdict : Type 0
HasOneVerdict = (mode : Mode) (facts : List Fact) (points : List Point) (binding : Binding) (one other : Verdict)
    → IsVerdict mode facts points binding one → IsVerdict mode facts points binding other → one ≡ other
