-- The interval of a fact by its value and decimals, and the intervals of the first facts of a list.
use Rattle.std.proofs.Common.{◌≡◌, ℕ, ℤ, ◌+◌, ◌^◌, ◌<◌, List, [], ◌∷◌, ◌++◌, length, drop, get_or, Option, Some, None, arith, sym, ap, subst, ◌∙◌, append_assoc, append-nil, inl, inr}
use Rattle.std.proofs.lemmas.List.{drop_more}
use Rattle.xc_decimal.specs.Shortest.{Shortest, ten_positive, tenths}
use Rattle.xc_model.specs.Laws.{HasOneLowest}
use Rattle.xc_frac.specs.declared.wide.Wide.{Wide}
use Rattle.xc_interval.specs.Reported.{IsNearPlace, ReportPasses}
use Rattle.xc_interval.specs.declared.interval.Interval.{Interval}
use Rattle.xc_interval.specs.declared.mode.Mode.{Mode}
use Rattle.xc_model.proofs.Numbers.{same-sym, same-trans}
use Rattle.xc_model.proofs.Over.{over_same}
use Rattle.xc_model.specs.Ratio.{Ratio, IsOver, fraction_of}
use Rattle.xc_points.specs.Facts.{AreFar, IsWideValue}
use Rattle.xc_points.specs.Gathered.{AreEnds, AreEndsOf}
use Rattle.xc_points.specs.Values.{AreEndsOfValue}
use Rattle.xc_report.specs.declared.reports.Fact.{Fact}
use Rattle.xc_report.specs.declared.reports.Reading.{Reading}
use Rattle.xc_report.specs.declared.reports.Reading.TheVariants as read

not_far : (decimals : Option ℤ) → IsNearPlace decimals → AreFar decimals → ⊥
not_far None near far = far
not_far (Some d) near far = omega arith

-- one number has one fraction
one_value : HasOneLowest → (digits : ℤ) (places : ℕ) (f g : Ratio) → IsOver f digits (10 ^ places) → IsOver g digits (10 ^ places) → f ≡ g
one_value unique digits places f g of_f of_g =
    unique f g (same-trans (fraction_of f) (tenths digits places) (fraction_of g)
    (over_same f digits (10 ^ places) (ten_positive places) of_f)
    (same-sym (fraction_of g) (tenths digits places) (over_same g digits (10 ^ places) (ten_positive places) of_g)))

-- where the decimals are near and no operation passes, the value is not wide
pub narrow_value : (mode : Mode) (decimals : Option ℤ) (number : Shortest) (value : Ratio) → HasOneLowest → IsNearPlace decimals → IsOver value number.digits (10 ^ number.places)
    → ((w : Wide) → ¬ ReportPasses mode decimals value w) → ¬ IsWideValue mode decimals (read.Number number)
narrow_value mode decimals number value unique near over fits (inl far) = not_far decimals near far
narrow_value mode decimals number value unique near over fits (inr e) =
    fits e.operation (subst (λ v. ReportPasses mode decimals v e.operation) (one_value unique number.digits number.places e.value value e.is over) e.passes)

-- the interval of a value is that of the fact that has it
pub as_fact : (mode : Mode) (fact : Fact) (value : Reading) (ends : Option (Interval Ratio)) → fact.value ≡ value → AreEndsOfValue mode fact.decimals value ends → AreEndsOf mode fact ends
as_fact mode fact value ends is h = subst (λ v. AreEndsOfValue mode fact.decimals v ends) (sym is) h

-- these are the intervals of the first facts: with those of the facts that are left, they are those of all
abbrev pub AreFirstEnds : Mode → List Fact → ℕ → List (Option (Interval Ratio)) → Type 0
AreFirstEnds mode facts i done = (rest : List (Option (Interval Ratio))) → AreEnds mode (drop i facts) rest → AreEnds mode facts (done ++ rest)

pub one_more_end : (mode : Mode) (facts : List Fact) (i : ℕ) (fact : Fact) (done : List (Option (Interval Ratio))) (ends : Option (Interval Ratio)) → i < length facts → fact ≡ get_or facts i fact
    → AreEndsOf mode fact ends → AreFirstEnds mode facts i done → AreFirstEnds mode facts (i + 1) (done ++ ends ∷ [])
one_more_end mode facts i fact done ends h is own so_far rest are =
    let next : drop i facts ≡ fact ∷ drop (i + 1) facts = drop_more facts i fact h ∙ ap (λ f. f ∷ drop (i + 1) facts) (sym is) in
    let with_next : AreEnds mode (drop i facts) (ends ∷ rest) = subst (λ fs. AreEnds mode fs (ends ∷ rest)) (sym next) (own, are) in
    subst (λ es. AreEnds mode facts es) (sym (append_assoc done (ends ∷ []) rest)) (so_far (ends ∷ rest) with_next)

pub all_ends : (mode : Mode) (facts : List Fact) (i : ℕ) (done : List (Option (Interval Ratio))) → drop i facts ≡ [] → AreFirstEnds mode facts i done → AreEnds mode facts done
all_ends mode facts i done all so_far =
    let none : AreEnds mode (drop i facts) [] = subst (λ fs. AreEnds mode fs []) (sym all) tt in
    subst (λ es. AreEnds mode facts es) (append-nil done) (so_far [] none)
