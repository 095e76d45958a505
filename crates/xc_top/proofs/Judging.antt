-- Bindings of which the first are judged.
use Rattle.std.proofs.Common.{◌≡◌, ℕ, ◌+◌, ◌<◌, List, [], ◌∷◌, ◌++◌, length, drop, get_or, sym, ap, subst, ◌∙◌, append_assoc, append-nil}
use Rattle.std.proofs.lemmas.List.{drop_more}
use Rattle.xc_bind.specs.declared.types.Binding.{Binding}
use Rattle.xc_bind.specs.declared.types.Verdict.{Verdict}
use Rattle.xc_interval.specs.declared.mode.Mode.{Mode}
use Rattle.xc_points.specs.Gathered.{ArePoints}
use Rattle.xc_points.specs.Kept.{Gathered}
use Rattle.xc_report.specs.declared.reports.Fact.{Fact}
use Rattle.xc_top.specs.Findings.{AreVerdicts}
use Rattle.xc_verdict.specs.Verdicts.{IsVerdict}

-- the first i bindings have these verdicts: with one for each that is left, all have theirs
abbrev pub Judged : Gathered → List Binding → ℕ → List Verdict → Type 0
Judged points bindings i done = (mode : Mode) (facts : List Fact) → ArePoints mode facts points → (rest : List Verdict)
    → AreVerdicts mode facts points.points (drop i bindings) rest → AreVerdicts mode facts points.points bindings (done ++ rest)

pub judged_none : (points : Gathered) (bindings : List Binding) → Judged points bindings 0 []
judged_none points bindings = λ mode facts are rest h. h

pub judged_more : (points : Gathered) (bindings : List Binding) (i : ℕ) (binding : Binding) (done : List Verdict) (verdict : Verdict)
    → i < length bindings → binding ≡ get_or bindings i binding
    → ((mode : Mode) (facts : List Fact) → ArePoints mode facts points → IsVerdict mode facts points.points binding verdict)
    → Judged points bindings i done → Judged points bindings (i + 1) (done ++ verdict ∷ [])
judged_more points bindings i binding done verdict h e v judged = λ mode facts are rest verdicts.
    let next : drop i bindings ≡ binding ∷ drop (i + 1) bindings = drop_more bindings i binding h ∙ ap (λ b. b ∷ drop (i + 1) bindings) (sym e) in
    subst (λ vs. AreVerdicts mode facts points.points bindings vs) (sym (append_assoc done (verdict ∷ []) rest))
    (judged mode facts are (verdict ∷ rest) (subst (λ bs. AreVerdicts mode facts points.points bs (verdict ∷ rest)) (sym next) (v mode facts are, verdicts)))

pub judged_all : (points : Gathered) (bindings : List Binding) (i : ℕ) (done : List Verdict) → drop i bindings ≡ [] → Judged points bindings i done
    → (mode : Mode) (facts : List Fact) → ArePoints mode facts points → AreVerdicts mode facts points.points bindings done
judged_all points bindings i done all judged = λ mode facts are.
    subst (λ vs. AreVerdicts mode facts points.points bindings vs) (append-nil done)
    (judged mode facts are [] (subst (λ bs. AreVerdicts mode facts points.points bs []) (sym all) tt))
