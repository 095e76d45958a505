use Rattle.std.proofs.Common.{rules, sym, subst, Option, ℤ}
use Rattle.std.specs.Prelude.{FitsSigned, IfOk, OnOk}
use Rattle.std.specs.Int.{w32}
use Rattle.std.proofs.lemmas.Int.{to_z-of_z}
use Rattle.xc_model.specs.Ratio.{fraction_of}
use Rattle.xc_frac.specs.declared.wide.Wide.{Wide}
use Rattle.xc_interval.specs.Intervals.{numbers_of}
use Rattle.xc_interval.specs.Reported.{reported, IsSameInterval, ReportPasses}
use Rattle.xc_interval.specs.declared.mode.Mode.{Mode}
use Rattle.xc_interval.specs.declared.mode.Mode.TheVariants.{Rounding, Truncation}
use Rattle.xc_interval.proofs.facts.interval_of.Goals as goal

pub returns-in-Rounding-clause-ends : goal.returns-in-Rounding-clause-ends
returns-in-Rounding-clause-ends c =
    let fits : FitsSigned w32 c.in-Some.decimals = search rules in
    let half = simp to_z-of_z at c.half_of.ensures in
    let P : Mode → Option ℤ → Type 0 = λ m o. IfOk c.rounded.result (λ i. IsSameInterval (numbers_of i) (reported m o (fraction_of c.args.value))) in
    subst (λ m. P m c.args.decimals) (sym c.in-Rounding.is) (subst (λ o. P Rounding o) (sym c.in-Some.is) (c.rounded.ensures.ends c.in-Some.decimals half))

pub returns-in-Rounding-clause-fits : goal.returns-in-Rounding-clause-fits
returns-in-Rounding-clause-fits c =
    let fits : FitsSigned w32 c.in-Some.decimals = search rules in
    let half = simp to_z-of_z at c.half_of.ensures in
    let P : Mode → Option ℤ → Type 0 = λ m o. OnOk c.rounded.result ((w : Wide) → ¬ ReportPasses m o c.args.value w) in
    subst (λ m. P m c.args.decimals) (sym c.in-Rounding.is) (subst (λ o. P Rounding o) (sym c.in-Some.is) (c.rounded.ensures.fits c.in-Some.decimals half))

pub returns-in-Truncation-clause-ends : goal.returns-in-Truncation-clause-ends
returns-in-Truncation-clause-ends c =
    let fits : FitsSigned w32 c.in-Some.decimals = search rules in
    let unit = simp to_z-of_z at c.unit_of.ensures in
    let P : Mode → Option ℤ → Type 0 = λ m o. IfOk c.truncated.result (λ i. IsSameInterval (numbers_of i) (reported m o (fraction_of c.args.value))) in
    subst (λ m. P m c.args.decimals) (sym c.in-Truncation.is) (subst (λ o. P Truncation o) (sym c.in-Some.is) (c.truncated.ensures.ends c.in-Some.decimals unit))

pub returns-in-Truncation-clause-fits : goal.returns-in-Truncation-clause-fits
returns-in-Truncation-clause-fits c =
    let fits : FitsSigned w32 c.in-Some.decimals = search rules in
    let unit = simp to_z-of_z at c.unit_of.ensures in
    let P : Mode → Option ℤ → Type 0 = λ m o. OnOk c.truncated.result ((w : Wide) → ¬ ReportPasses m o c.args.value w) in
    subst (λ m. P m c.args.decimals) (sym c.in-Truncation.is) (subst (λ o. P Truncation o) (sym c.in-Some.is) (c.truncated.ensures.fits c.in-Some.decimals unit))
