-- A binding has at most one verdict, since each line excludes those before it.
use Rattle.std.proofs.Common.{◌≡◌, List, inl, inr, refl}
use Rattle.xc_bind.specs.declared.types.Binding.{Binding}
use Rattle.xc_bind.specs.declared.types.Verdict.{Verdict}
use Rattle.xc_bind.specs.declared.types.Verdict.TheVariants.{Consistent, Inconsistent, Unjudged, TooWide}
use Rattle.xc_interval.specs.declared.mode.Mode.{Mode}
use Rattle.xc_points.specs.declared.types.Point.{Point}
use Rattle.xc_report.specs.declared.reports.Fact.{Fact}
use Rattle.xc_verdict.specs.Verdicts.{IsVerdict}

pub one_verdict : (mode : Mode) (facts : List Fact) (points : List Point) (binding : Binding) (one other : Verdict)
    → IsVerdict mode facts points binding one → IsVerdict mode facts points binding other → one ≡ other
one_verdict mode facts points binding TooWide TooWide x y = refl
one_verdict mode facts points binding TooWide Unjudged (inl wide) y = absurd (y.0 wide)
one_verdict mode facts points binding TooWide Unjudged (inr passed) y = absurd (passed.none_empty y.1)
one_verdict mode facts points binding TooWide Consistent (inl wide) y = absurd (y.0.none_wide wide)
one_verdict mode facts points binding TooWide Consistent (inr passed) y = absurd (passed.passed y.0.narrow)
one_verdict mode facts points binding TooWide Inconsistent (inl wide) y = absurd (y.0.none_wide wide)
one_verdict mode facts points binding TooWide Inconsistent (inr passed) y = absurd (passed.passed y.0.narrow)
one_verdict mode facts points binding Unjudged TooWide x (inl wide) = absurd (x.0 wide)
one_verdict mode facts points binding Unjudged TooWide x (inr passed) = absurd (passed.none_empty x.1)
one_verdict mode facts points binding Unjudged Unjudged x y = refl
one_verdict mode facts points binding Unjudged Consistent x y = absurd (y.0.none_empty x.1)
one_verdict mode facts points binding Unjudged Inconsistent x y = absurd (y.0.none_empty x.1)
one_verdict mode facts points binding Consistent TooWide x (inl wide) = absurd (x.0.none_wide wide)
one_verdict mode facts points binding Consistent TooWide x (inr passed) = absurd (passed.passed x.0.narrow)
one_verdict mode facts points binding Consistent Unjudged x y = absurd (x.0.none_empty y.1)
one_verdict mode facts points binding Consistent Consistent x y = refl
one_verdict mode facts points binding Consistent Inconsistent x y = absurd (y.1 x.1)
one_verdict mode facts points binding Inconsistent TooWide x (inl wide) = absurd (x.0.none_wide wide)
one_verdict mode facts points binding Inconsistent TooWide x (inr passed) = absurd (passed.passed x.0.narrow)
one_verdict mode facts points binding Inconsistent Unjudged x y = absurd (x.0.none_empty y.1)
one_verdict mode facts points binding Inconsistent Consistent x y = absurd (x.1 y.1)
one_verdict mode facts points binding Inconsistent Inconsistent x y = refl
