-- A point has one range.
use Rattle.std.proofs.Common.{◌≡◌, List, [], ◌∷◌, Option, Some, None, refl, ap, inl, inr}
use Rattle.xc_interval.specs.Intervals.{Crosses, frac_parts, numbers_of, pairs_of, HasNoPair}
use Rattle.xc_interval.specs.Laws.{EndsTell, HasOneInterval}
use Rattle.xc_interval.specs.declared.ends.End.{End}
use Rattle.xc_interval.specs.declared.ends.End.TheVariants.{Closed, Open}
use Rattle.xc_interval.specs.declared.interval.Interval.{Interval}
use Rattle.xc_interval.specs.declared.mode.Mode.{Mode}
use Rattle.xc_interval.specs.declared.range.Range.TheVariants as range
use Rattle.xc_model.specs.Fraction.{Fraction, SameNumber, IsBelow}
use Rattle.xc_model.specs.Ratio.{Ratio}
use Rattle.xc_points.specs.Gathered.{AreEndsOf, IsMet}
use Rattle.xc_points.specs.Facts.{IsEmptyPoint}
use Rattle.xc_points.specs.Laws.{HasOneEnds, HasOneRange}
use Rattle.xc_points.specs.declared.types.Point.{Point}
use Rattle.xc_report.specs.declared.reports.Fact.{Fact}

-- ends that cross as numbers do so as pairs
crosses_pairs : (e f : End Ratio) → Crosses IsBelow SameNumber (numbers_of (record { low = e; high = f })) → HasNoPair (pairs_of frac_parts (record { low = e; high = f }))
crosses_pairs (Closed a) (Closed b) (inl below) = inl (inl below)
crosses_pairs (Closed a) (Open b) (inl below) = inl (inl below)
crosses_pairs (Open a) (Closed b) (inl below) = inl (inl below)
crosses_pairs (Open a) (Open b) (inl below) = inl (inl below)
crosses_pairs (Closed a) (Closed b) (inr same) = inr ((record { real = same.0; tiny = record { cross = refl } }), same.1)
crosses_pairs (Closed a) (Open b) (inr same) = inr ((record { real = same.0; tiny = record { cross = refl } }), same.1)
crosses_pairs (Open a) (Closed b) (inr same) = inr ((record { real = same.0; tiny = record { cross = refl } }), same.1)
crosses_pairs (Open a) (Open b) (inr same) = inr ((record { real = same.0; tiny = record { cross = refl } }), same.1)

-- where a number is met, the point is not empty
met_some : (mode : Mode) (facts : List Fact) (point : Point) (i : Interval Ratio) → EndsTell IsBelow SameNumber → IsMet mode facts point i → IsEmptyPoint mode facts point → ⊥
met_some mode facts point i tell met empty =
    let some = (tell (numbers_of i)).1 (λ crosses. met.some (crosses_pairs i.low i.high crosses)) in
    let x : Fraction = some.0 in
    empty x.num x.den x.positive ((met.numbers x.num x.den x.positive).1 some.1)

-- intervals that are met have the same numbers, and so are one
one_met : (mode : Mode) (facts : List Fact) (point : Point) (i j : Interval Ratio) → HasOneInterval → IsMet mode facts point i → IsMet mode facts point j → i ≡ j
one_met mode facts point i j one r s = one i j r.some s.some (λ x. (
  (λ in_i. (s.numbers x.num x.den x.positive).0 ((r.numbers x.num x.den x.positive).1 in_i)),
  (λ in_j. (r.numbers x.num x.den x.positive).0 ((s.numbers x.num x.den x.positive).1 in_j)),
))

pub one_range : EndsTell IsBelow SameNumber → HasOneInterval → HasOneRange
one_range tell one mode facts point (range.Meets i) (range.Meets j) r s = ap range.Meets (one_met mode facts point i j one r s)
one_range tell one mode facts point (range.Meets i) range.Empty r s = absurd (met_some mode facts point i tell r s.1)
one_range tell one mode facts point (range.Meets i) range.Wide r s = absurd (r.narrow s)
one_range tell one mode facts point range.Empty (range.Meets j) r s = absurd (met_some mode facts point j tell s r.1)
one_range tell one mode facts point range.Empty range.Empty r s = refl
one_range tell one mode facts point range.Empty range.Wide r s = absurd (r.0 s)
one_range tell one mode facts point range.Wide (range.Meets j) r s = absurd (s.narrow r)
one_range tell one mode facts point range.Wide range.Empty r s = absurd (s.0 r)
one_range tell one mode facts point range.Wide range.Wide r s = refl

-- ---- the intervals of facts

one_end : (mode : Mode) (fact : Fact) (d e : Option (Interval Ratio)) → HasOneInterval → AreEndsOf mode fact d → AreEndsOf mode fact e → d ≡ e
one_end mode fact None None one r s = refl
one_end mode fact None (Some j) one r s = absurd (s.narrow r)
one_end mode fact (Some i) None one r s = absurd (r.narrow s)
one_end mode fact (Some i) (Some j) one r s = ap (λ k. Some k) (one i j r.some s.some (λ x. (
  (λ in_i. (s.numbers x.num x.den x.positive).0 ((r.numbers x.num x.den x.positive).1 in_i)),
  (λ in_j. (r.numbers x.num x.den x.positive).0 ((s.numbers x.num x.den x.positive).1 in_j)),
)))

pub one_ends : HasOneInterval → HasOneEnds
one_ends one mode [] [] [] r s = refl
one_ends one mode [] [] (e ∷ es) r s = absurd s
one_ends one mode [] (d ∷ ds) es r s = absurd r
one_ends one mode (fact ∷ facts) [] es r s = absurd r
one_ends one mode (fact ∷ facts) (d ∷ ds) [] r s = absurd s
one_ends one mode (fact ∷ facts) (d ∷ ds) (e ∷ es) r s = λ i. one_end mode fact d e one r.0 s.0 i ∷ one_ends one mode facts ds es r.1 s.1 i
