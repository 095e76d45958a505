-- The ranges of the forest of a component: some value lies in each, and their ends are ends of facts.
use Rattle.std.proofs.Common.{◌≡◌, ℕ, zero, suc, ◌<◌, Option, List, [], ◌∷◌, ◌++◌, length, map, get_or, Some, None, inl, inr, refl, sym, ap, subst, ◌∙◌, arith}
use Rattle.std.specs.Prelude.{IsSome}
use Rattle.xc_interval.specs.Ends.{value_of, end_at}
use Rattle.xc_interval.specs.Intervals.{numbers_of, HasNoNumber, HasNumber, IsPast, IsBefore}
use Rattle.xc_interval.specs.Ranges.{AllKnown, LiesInAll, IsRangeOf as IsRange}
use Rattle.xc_interval.specs.declared.interval.Interval.{Interval}
use Rattle.xc_interval.specs.Laws.{EndsTell, RangesHaveNumbers}
use Rattle.xc_model.specs.Fraction.{Fraction, SameNumber, IsBelow}
use Rattle.xc_model.specs.Parts.{Parts}
use Rattle.xc_model.specs.Ratio.{Ratio, fraction_of}
use Rattle.xc_interval.specs.declared.range.Range.{Range}
use Rattle.xc_interval.specs.declared.range.Range.TheVariants as range
use Rattle.xc_joint.specs.Causes.{IsEmptyPoint}
use Rattle.xc_joint.specs.PointRanges.{AreRangesOf, IsLowOf, IsHighOf}
use Rattle.xc_joint.specs.Small.{closed_pairs, low_pair, high_pair}
use Rattle.xc_joint.specs.Solved.{HaveNumbers}
use Rattle.xc_joint.specs.Lists.{AreEach}
use Rattle.xc_joint.specs.Steps.OneForest.{IsBounded, IsSpanOf, IsRangeOf, HasNumberIn}
use Rattle.xc_joint.specs.declared.one_forest.Span.{Span}
use Rattle.xc_joint.proofs.Each.{each_length}
use Rattle.xc_lists.specs.Members.{IsIn}
use Rattle.xc_system.specs.Spots.{AreTightest, HasTighter, IsFirstTightest}
use Rattle.xc_system.specs.Systems.{Constraints, facts_of, range_at}
use Rattle.xc_system.specs.declared.types.Component.{Component}
use Rattle.xc_system.specs.declared.types.Side.TheVariants.{Low, High}

map_at : {X Y : Type 0} (f : X → Y) (xs : List X) (n : ℕ) (d : X) (e : Y) → n < length xs → get_or (map f xs) n e ≡ f (get_or xs n d)
map_at f [] n d e l = absurd (omega (arith, l))
map_at f (x ∷ xs) zero d e l = refl
map_at f (x ∷ xs) (suc n) d e l = map_at f xs n d e (omega (arith, l))

pub map_size : {X Y : Type 0} (f : X → Y) (xs : List X) → length (map f xs) ≡ length xs
map_size f [] = refl
map_size f (x ∷ xs) = ap suc (map_size f xs)

-- a fact of a known interval among several that are known
known_lies : (s : Constraints) (facts : List ℕ) (k : ℕ) (i : Interval Ratio) (x : Fraction) → IsIn k facts → range_at s.bounds k ≡ Some i → LiesInAll (map (range_at s.bounds) facts) x → HasNumber (numbers_of i) x
known_lies s [] k i x h is all = absurd h
known_lies s (f ∷ fs) k i x (inl same) is all = by (range_at s.bounds f) (ap (range_at s.bounds) (sym same) ∙ is) all
  where
    by : (o : Option (Interval Ratio)) → o ≡ Some i → LiesInAll (o ∷ map (range_at s.bounds) fs) x → HasNumber (numbers_of i) x
    by None e lies = absurd lies
    by (Some e) same lies = subst (λ o. LiesInAll (o ∷ map (range_at s.bounds) fs) x → HasNumber (numbers_of i) x) (sym same) (λ h. h.0) lies
known_lies s (f ∷ fs) k i x (inr h) is all = known_lies s fs k i x h is (rest (range_at s.bounds f) all)
  where
    rest : (o : Option (Interval Ratio)) → LiesInAll (o ∷ map (range_at s.bounds) fs) x → LiesInAll (map (range_at s.bounds) fs) x
    rest None lies = absurd lies
    rest (Some e) lies = lies.1

-- the first tightest fact is one of them
pub first_in : (Tighter : ℕ → ℕ → Type 0) (facts : List ℕ) (k : ℕ) → IsFirstTightest Tighter facts k → IsIn k facts
first_in Tighter facts k h = subst (IsIn k) (sym h.there) (behind h.front)
  where
    behind : (front : List ℕ) → IsIn k (front ++ k ∷ h.back)
    behind [] = inl refl
    behind (f ∷ front) = inr (behind front)

-- a fact that is one of known ones is known
pub known_in : (s : Constraints) (facts : List ℕ) (k : ℕ) → AllKnown (map (range_at s.bounds) facts) → IsIn k facts → IsSome (range_at s.bounds k)
known_in s [] k all h = absurd h
known_in s (f ∷ fs) k all (inl same) = subst (λ j. IsSome (range_at s.bounds j)) (sym same) (by (range_at s.bounds f) all)
  where
    by : (o : Option (Interval Ratio)) → AllKnown (o ∷ map (range_at s.bounds) fs) → IsSome o
    by None lies = absurd lies
    by (Some e) lies = refl
known_in s (f ∷ fs) k all (inr h) = known_in s fs k (rest (range_at s.bounds f) all) h
  where
    rest : (o : Option (Interval Ratio)) → AllKnown (o ∷ map (range_at s.bounds) fs) → AllKnown (map (range_at s.bounds) fs)
    rest None lies = absurd lies
    rest (Some e) lies = lies

-- a point that is not empty and whose facts are known has a number, and the first tightest facts
pub record IsMet (s : Constraints) (p low high : ℕ) : Type 0 where
  pub some : HasNumberIn s p
  pub low_first : IsFirstTightest (HasTighter Low s.bounds) (facts_of s.bounds p) low
  pub high_first : IsFirstTightest (HasTighter High s.bounds) (facts_of s.bounds p) high

pub met_of : RangesHaveNumbers → (s : Constraints) (p : ℕ) (range : Range) (low high : ℕ) → AllKnown (map (range_at s.bounds) (facts_of s.bounds p)) → ¬ IsEmptyPoint s p → IsRange (map (range_at s.bounds) (facts_of s.bounds p)) range → AreTightest s.bounds (facts_of s.bounds p) range low high → IsMet s p low high
met_of law s p range.Wide low high known some is tight = absurd (is known)
met_of law s p range.Empty low high known some is tight = absurd (some is)
met_of law s p (range.Meets i) low high known some is tight = let x = law (map (range_at s.bounds) (facts_of s.bounds p)) i is in record { some = (x.0, (is.numbers x.0).0 x.1); low_first = tight.0; high_first = tight.1 }

-- what lies in the intervals of all facts lies in the range of the point
pub lies_between : (s : Constraints) (p : ℕ) (range : Interval Ratio) → IsBounded s p range → (x : Fraction) → LiesInAll (map (range_at s.bounds) (facts_of s.bounds p)) x → HasNumber (numbers_of range) x
lies_between s p range b x all =
    let low = known_lies s (facts_of s.bounds p) b.span.low b.of.low x (first_in _ (facts_of s.bounds p) b.span.low b.is.low) b.of.low_known all in
    let high = known_lies s (facts_of s.bounds p) b.span.high b.of.high x (first_in _ (facts_of s.bounds p) b.span.high b.is.high) b.of.high_known all in
    record {
      low = subst (λ e. IsPast IsBelow SameNumber (end_at (λ f. fraction_of f) e) x) (sym b.of.low_is) low.low;
      high = subst (λ e. IsBefore IsBelow SameNumber (end_at (λ f. fraction_of f) e) x) (sym b.of.high_is) high.high;
    }

-- a number that lies in an interval shows that it is not empty
not_empty : EndsTell IsBelow SameNumber → (i : Interval Fraction) (x : Fraction) → HasNumber i x → ¬ HasNoNumber i
not_empty law i x lies crosses = (law i).0 crosses x lies

-- ---- the ranges of all points

-- the range of a point, with closed ends
record Closing (s : Constraints) (p : ℕ) (closed : Interval Parts) : Type 0 where
  range : Interval Ratio
  at : closed ≡ closed_pairs range
  bounded : IsBounded s p range

closing : (s : Constraints) (points : List ℕ) (ranges : List (Interval Ratio)) (p : ℕ) (d : Interval Parts) → AreEach (IsBounded s) points ranges → p < length ranges → Closing s (get_or points p 0) (get_or (map closed_pairs ranges) p d)
closing s [] [] p d h l = absurd (omega (arith, l))
closing s (q ∷ qs) [] p d h l = absurd h
closing s [] (r ∷ rs) p d h l = absurd h
closing s (q ∷ qs) (r ∷ rs) zero d h l = record { range = r; at = refl; bounded = h.0 }
closing s (q ∷ qs) (r ∷ rs) (suc p) d h l = closing s qs rs p d h.1 (omega (arith, l))

pub bounded_some : EndsTell IsBelow SameNumber → (s : Constraints) (p : ℕ) (range : Interval Ratio) → IsBounded s p range → ¬ HasNoNumber (numbers_of range)
bounded_some law s p range b = not_empty law (numbers_of range) b.is.some.0 (lies_between s p range b b.is.some.0 b.is.some.1)

pub have_numbers : EndsTell IsBelow SameNumber → (s : Constraints) (points : List ℕ) (ranges : List (Interval Ratio)) → AreEach (IsBounded s) points ranges → HaveNumbers ranges
have_numbers law s [] [] h p l = absurd (omega (arith, l))
have_numbers law s [] (r ∷ rs) h p l = absurd h
have_numbers law s (q ∷ qs) [] h p l = absurd h
have_numbers law s (q ∷ qs) (r ∷ rs) h zero l = bounded_some law s q r h.0
have_numbers law s (q ∷ qs) (r ∷ rs) h (suc p) l = have_numbers law s qs rs h.1 p (omega (arith, l))

low_of : (s : Constraints) (p : ℕ) (closed : Interval Parts) → Closing s p closed → IsLowOf s (facts_of s.bounds p) (value_of closed.low)
low_of s p closed h = record {
  fact = h.bounded.span.low;
  interval = h.bounded.of.low;
  there = first_in _ (facts_of s.bounds p) h.bounded.span.low h.bounded.is.low;
  known = h.bounded.of.low_known;
  is = ap (λ i. value_of i.low) h.at ∙ ap low_pair h.bounded.of.low_is;
}

high_of : (s : Constraints) (p : ℕ) (closed : Interval Parts) → Closing s p closed → IsHighOf s (facts_of s.bounds p) (value_of closed.high)
high_of s p closed h = record {
  fact = h.bounded.span.high;
  interval = h.bounded.of.high;
  there = first_in _ (facts_of s.bounds p) h.bounded.span.high h.bounded.is.high;
  known = h.bounded.of.high_known;
  is = ap (λ i. value_of i.high) h.at ∙ ap high_pair h.bounded.of.high_is;
}

pub are_ranges_of : (s : Constraints) (c : Component) (ranges : List (Interval Ratio)) → AreEach (IsBounded s) c.points ranges → AreRangesOf s c (map closed_pairs ranges)
are_ranges_of s c ranges h = record {
  each = map_size closed_pairs ranges ∙ each_length (IsBounded s) c.points ranges h;
  lows = λ p l. low_of s (get_or c.points p 0) _ (closing s c.points ranges p _ h (omega (arith, l, map_size closed_pairs ranges)));
  highs = λ p l. high_of s (get_or c.points p 0) _ (closing s c.points ranges p _ h (omega (arith, l, map_size closed_pairs ranges)));
}

pub are_bounded : (s : Constraints) (points : List ℕ) (spans : List Span) (ranges : List (Interval Ratio)) → AreEach (IsSpanOf s) points spans → AreEach (IsRangeOf s) spans ranges → AreEach (IsBounded s) points ranges
are_bounded s [] [] [] h g = tt
are_bounded s [] [] (r ∷ rs) h g = absurd g
are_bounded s [] (x ∷ xs) rs h g = absurd h
are_bounded s (p ∷ ps) [] rs h g = absurd h
are_bounded s (p ∷ ps) (x ∷ xs) [] h g = absurd g
are_bounded s (p ∷ ps) (x ∷ xs) (r ∷ rs) h g = (record { span = x; is = h.0; of = g.0 }, are_bounded s ps xs rs h.1 g.1)

-- the facts that bound points are known
pub spans_known : (s : Constraints) (points : List ℕ) (spans : List Span) → AreEach (IsSpanOf s) points spans → (i : ℕ) (d : Span) → i < length spans → IsSome (range_at s.bounds (get_or spans i d).low) × IsSome (range_at s.bounds (get_or spans i d).high)
spans_known s [] [] h i d l = absurd (omega (arith, l))
spans_known s [] (x ∷ xs) h i d l = absurd h
spans_known s (p ∷ ps) [] h i d l = absurd h
spans_known s (p ∷ ps) (x ∷ xs) h zero d l = (known_in s (facts_of s.bounds p) x.low h.0.known (first_in _ (facts_of s.bounds p) x.low h.0.low), known_in s (facts_of s.bounds p) x.high h.0.known (first_in _ (facts_of s.bounds p) x.high h.0.high))
spans_known s (p ∷ ps) (x ∷ xs) h (suc i) d l = spans_known s ps xs h.1 i d (omega (arith, l))
