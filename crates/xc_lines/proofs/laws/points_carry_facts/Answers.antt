use Rattle.std.proofs.Common.{◌≡◌, ◌<◌, ℕ, suc, List, [], ◌∷◌, Option, length, get_or, refl, ap, subst}
use Rattle.std.proofs.lemmas.Bool.Decides.{Decides-eqb}
use Rattle.std.proofs.lemmas.List.Folds.{list_any_at}
use Rattle.std.proofs.lemmas.Option.{slice_get-get_or}
use Rattle.std.specs.Prelude.{◌==◌}
use Rattle.xc_interval.specs.declared.interval.Interval.{Interval}
use Rattle.xc_interval.specs.declared.mode.Mode.{Mode}
use Rattle.xc_model.specs.Ratio.{Ratio}
use Rattle.xc_points.specs.Gathered.{AreEnds}
use Rattle.xc_points.specs.Kept.{HasFact}
use Rattle.xc_points.specs.declared.types.Point.{Point}
use Rattle.xc_report.specs.declared.reports.Fact.{Fact}
use Rattle.xc_lines.proofs.laws.points_carry_facts.Goals as goal

-- there are as many intervals as facts
as_many : (mode : Mode) (facts : List Fact) (ends : List (Option (Interval Ratio))) → AreEnds mode facts ends → length ends ≡ length facts
as_many mode [] [] are = refl
as_many mode [] (e ∷ es) are = absurd are
as_many mode (fact ∷ facts) [] are = absurd are
as_many mode (fact ∷ facts) (e ∷ es) are = ap suc (as_many mode facts es are.1)

-- each listed number is one of the point's
has_listed : (point : Point) (j d : ℕ) → j < length point.facts → HasFact point (get_or point.facts j d)
has_listed point j d within = list_any_at (λ g. g == get_or point.facts j d) point.facts j d within ((Decides-eqb _ _).1 refl)

pub returns : goal.returns
returns c = λ mode facts gathered are kept k d within j e listed.
    let point = get_or gathered.points k d in
    subst (λ n. get_or point.facts j e < n) (as_many mode facts gathered.ends are.ends) (kept.within k point (slice_get-get_or gathered.points k d within) (get_or point.facts j e) (has_listed point j e listed))
