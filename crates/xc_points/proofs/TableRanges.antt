-- The ranges that intervals give are those that the standard's table gives.
use Rattle.std.proofs.Common.{ℕ, ℤ, suc, zero, ◌<◌, List, [], ◌∷◌, Option, Some, None, slice_get, inl, inr}
use Rattle.std.specs.List.{cons_option}
use Rattle.xc_interval.specs.declared.interval.Interval.{Interval}
use Rattle.xc_interval.specs.declared.mode.Mode.{Mode}
use Rattle.xc_interval.specs.declared.range.Range.{Range}
use Rattle.xc_interval.specs.declared.range.Range.TheVariants as range
use Rattle.xc_model.specs.Ratio.{Ratio}
use Rattle.xc_points.specs.Facts.{AllAdmit, SomeIsWide, facts_at}
use Rattle.xc_points.specs.Gathered.{AreEnds, AreEndsOf, IsRange}
use Rattle.xc_interval.specs.Ranges.{AllKnown, LiesInAll, IsRangeOf}
use Rattle.xc_points.specs.Kept.{ends_of}
use Rattle.xc_points.specs.declared.types.Point.{Point}
use Rattle.xc_report.specs.declared.reports.Fact.{Fact}

-- a fact with its interval, or neither
abbrev pub AreBoth : Mode → Option Fact → Option (Option (Interval Ratio)) → Type 0
AreBoth mode None None = Unit {0}
AreBoth mode None (Some e) = ⊥
AreBoth mode (Some fact) None = ⊥
AreBoth mode (Some fact) (Some e) = AreEndsOf mode fact e

-- at each place a fact stands with its interval
both_at : (mode : Mode) (facts : List Fact) (ends : List (Option (Interval Ratio))) (f : ℕ) → AreEnds mode facts ends → AreBoth mode (slice_get facts f) (slice_get ends f)
both_at mode [] [] f are = tt
both_at mode [] (e ∷ es) f are = absurd are
both_at mode (fact ∷ facts) [] f are = absurd are
both_at mode (fact ∷ facts) (e ∷ es) zero are = are.0
both_at mode (fact ∷ facts) (e ∷ es) (suc f) are = both_at mode facts es f are.1

put_both : (mode : Mode) (o : Option Fact) (e : Option (Option (Interval Ratio))) (facts : List Fact) (es : List (Option (Interval Ratio))) → AreBoth mode o e → AreEnds mode facts es → AreEnds mode (cons_option o facts) (cons_option e es)
put_both mode None None facts es both are = are
put_both mode None (Some e) facts es both are = absurd both
put_both mode (Some fact) None facts es both are = absurd both
put_both mode (Some fact) (Some e) facts es both are = (both, are)

-- the intervals of some facts are those of these facts
pub ends_at : (mode : Mode) (facts : List Fact) (ends : List (Option (Interval Ratio))) (numbers : List ℕ) → AreEnds mode facts ends → AreEnds mode (facts_at facts numbers) (ends_of ends numbers)
ends_at mode facts ends [] are = tt
ends_at mode facts ends (f ∷ fs) are = put_both mode (slice_get facts f) (slice_get ends f) (facts_at facts fs) (ends_of ends fs) (both_at mode facts ends f are) (ends_at mode facts ends fs are)

-- where all intervals are known, none of the facts is wide
known_narrow : (mode : Mode) (facts : List Fact) (es : List (Option (Interval Ratio))) → AreEnds mode facts es → AllKnown es → ¬ SomeIsWide mode facts
known_narrow mode [] [] are known wide = wide
known_narrow mode [] (e ∷ es) are known wide = absurd are
known_narrow mode (fact ∷ facts) [] are known wide = absurd are
known_narrow mode (fact ∷ facts) (None ∷ es) are known wide = absurd known
known_narrow mode (fact ∷ facts) (Some i ∷ es) are known (inl own) = are.0.narrow own
known_narrow mode (fact ∷ facts) (Some i ∷ es) are known (inr other) = known_narrow mode facts es are.1 known other

-- where not all are known, one of the facts is wide
unknown_wide : (mode : Mode) (facts : List Fact) (es : List (Option (Interval Ratio))) → AreEnds mode facts es → ¬ AllKnown es → SomeIsWide mode facts
unknown_wide mode [] [] are unknown = absurd (unknown tt)
unknown_wide mode [] (e ∷ es) are unknown = absurd are
unknown_wide mode (fact ∷ facts) [] are unknown = absurd are
unknown_wide mode (fact ∷ facts) (None ∷ es) are unknown = inl are.0
unknown_wide mode (fact ∷ facts) (Some i ∷ es) are unknown = inr (unknown_wide mode facts es are.1 unknown)

-- what all facts admit lies in all their intervals, where they are known
admitted_lies : (mode : Mode) (facts : List Fact) (es : List (Option (Interval Ratio))) (p : ℤ) (q : ℕ) (positive : 0 < q) → AreEnds mode facts es → AllKnown es → AllAdmit mode facts p q → LiesInAll es (record { num = p; den = q; positive = positive })
admitted_lies mode [] [] p q positive are known admit = tt
admitted_lies mode [] (e ∷ es) p q positive are known admit = absurd are
admitted_lies mode (fact ∷ facts) [] p q positive are known admit = absurd are
admitted_lies mode (fact ∷ facts) (None ∷ es) p q positive are known admit = absurd known
admitted_lies mode (fact ∷ facts) (Some i ∷ es) p q positive are known admit = ((are.0.numbers p q positive).0 admit.0, admitted_lies mode facts es p q positive are.1 known admit.1)

-- and what lies in all of them all facts admit
lying_admitted : (mode : Mode) (facts : List Fact) (es : List (Option (Interval Ratio))) (p : ℤ) (q : ℕ) (positive : 0 < q) → AreEnds mode facts es → LiesInAll es (record { num = p; den = q; positive = positive }) → AllAdmit mode facts p q
lying_admitted mode [] [] p q positive are lies = tt
lying_admitted mode [] (e ∷ es) p q positive are lies = absurd are
lying_admitted mode (fact ∷ facts) [] p q positive are lies = absurd are
lying_admitted mode (fact ∷ facts) (None ∷ es) p q positive are lies = absurd lies
lying_admitted mode (fact ∷ facts) (Some i ∷ es) p q positive are lies = ((are.0.numbers p q positive).1 lies.0, lying_admitted mode facts es p q positive are.1 lies.1)

-- the range that the intervals of a point's facts give is the one that the table gives
pub range_is : (mode : Mode) (facts : List Fact) (es : List (Option (Interval Ratio))) (point : Point) (r : Range) → AreEnds mode (facts_at facts point.facts) es → IsRangeOf es r → IsRange mode facts point r
range_is mode facts es point (range.Meets i) are met = record {
  narrow = known_narrow mode (facts_at facts point.facts) es are met.known;
  numbers = λ p q positive. (
    (λ admit. (met.numbers (record { num = p; den = q; positive = positive })).1 (admitted_lies mode (facts_at facts point.facts) es p q positive are met.known admit)),
    (λ lies. lying_admitted mode (facts_at facts point.facts) es p q positive are ((met.numbers (record { num = p; den = q; positive = positive })).0 lies)),
  );
  some = met.some;
}
range_is mode facts es point range.Empty are met = (
  known_narrow mode (facts_at facts point.facts) es are met.known,
  (λ p q positive admit. met.none (record { num = p; den = q; positive = positive }) (admitted_lies mode (facts_at facts point.facts) es p q positive are met.known admit)),
)
range_is mode facts es point range.Wide are unknown = unknown_wide mode (facts_at facts point.facts) es are unknown
