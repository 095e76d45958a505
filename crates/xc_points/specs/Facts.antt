-- What a fact says of the value of its data point (Calculations 1.1).
use Rattle.std.specs.Prelude.{ℕ, ℤ, ◌^◌, ◌<◌, ◌⊎◌, unsigned_abs, List, [], ◌∷◌, Option, Some, None, slice_get}
use Rattle.std.specs.List.{filter_map}
use Rattle.xc_decimal.specs.Shortest.{Shortest}
use Rattle.xc_frac.specs.declared.wide.Wide.{Wide}
use Rattle.xc_interval.specs.Admits as standard
use Rattle.xc_interval.specs.Reported.{ReportPasses}
use Rattle.xc_interval.specs.declared.mode.Mode.{Mode}
use Rattle.xc_model.specs.Ratio.{Ratio, IsOver}
use Rattle.xc_report.specs.declared.reports.Fact.{Fact}
use Rattle.xc_report.specs.declared.reports.Reading.{Reading}
use Rattle.xc_report.specs.declared.reports.Reading.TheVariants as read
use Rattle.xc_points.specs.declared.types.Point.{Point}

-- a fact with this value and these decimals may stand for p/q, by the standard's table
abbrev pub ValueAdmits : Mode → Option ℤ → Reading → ℤ → ℕ → Type 0
ValueAdmits mode decimals (read.Number v) p q = standard.Admits mode decimals v.digits v.places p q
ValueAdmits mode decimals read.Wide p q = ⊥

-- the fact may stand for p/q
abbrev pub Admits : Mode → Fact → ℤ → ℕ → Type 0
Admits mode fact p q = ValueAdmits mode fact.decimals fact.value p q

-- the decimals pass 37 in magnitude
abbrev pub AreFar : Option ℤ → Type 0
AreFar None = ⊥
AreFar (Some d) = 37 < unsigned_abs d

-- an operation passes that gives an end of the interval of a fact with this number as its value
pub record EndPasses (mode : Mode) (decimals : Option ℤ) (number : Shortest) : Type 0 where
  pub value : Ratio
  pub is : IsOver value number.digits (10 ^ number.places)
  pub operation : Wide
  pub passes : ReportPasses mode decimals value operation

-- a fact with this value and these decimals is wide: its text is, its decimals pass 37 in magnitude, or an operation for an end passes
abbrev pub IsWideValue : Mode → Option ℤ → Reading → Type 0
IsWideValue mode decimals (read.Number v) = AreFar decimals ⊎ EndPasses mode decimals v
IsWideValue mode decimals read.Wide = Unit {0}

-- the fact is wide
abbrev pub IsWide : Mode → Fact → Type 0
IsWide mode fact = IsWideValue mode fact.decimals fact.value

-- the facts of these numbers
abbrev pub facts_at : List Fact → List ℕ → List Fact
facts_at facts numbers = filter_map (λ f. slice_get facts f) numbers

-- every one of these facts may stand for p/q
abbrev pub AllAdmit : Mode → List Fact → ℤ → ℕ → Type 0
AllAdmit mode [] p q = Unit {0}
AllAdmit mode (fact ∷ facts) p q = Admits mode fact p q × AllAdmit mode facts p q

-- one of these facts is wide
abbrev pub SomeIsWide : Mode → List Fact → Type 0
SomeIsWide mode [] = ⊥
SomeIsWide mode (fact ∷ facts) = IsWide mode fact ⊎ SomeIsWide mode facts

-- what a point stands for: all its facts admit p/q
abbrev pub PointAdmits : Mode → List Fact → Point → ℤ → ℕ → Type 0
PointAdmits mode facts point p q = AllAdmit mode (facts_at facts point.facts) p q

-- a point is wide where one of its facts is
abbrev pub IsWidePoint : Mode → List Fact → Point → Type 0
IsWidePoint mode facts point = SomeIsWide mode (facts_at facts point.facts)

-- a point is empty where no number is admitted by all its facts
abbrev pub IsEmptyPoint : Mode → List Fact → Point → Type 0
IsEmptyPoint mode facts point = (p : ℤ) (q : ℕ) → 0 < q → ¬ PointAdmits mode facts point p q
