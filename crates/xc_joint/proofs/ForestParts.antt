-- What the settling of a narrow forest is called with.
use Rattle.std.proofs.Common.{◌≡◌, ◌++◌, ℕ, List, [], ◌∷◌, map, Option, Some, None, inl, inr, refl, sym, subst}
use Rattle.std.proofs.lemmas.Bool.{false≢true}
use Rattle.std.proofs.lemmas.List.Elements.{All-from_recursion, recursion_from_All}
use Rattle.std.specs.List.{AllByRecursion}
use Rattle.std.specs.Prelude.{All, IsSome, IsSomeAnd}
use Rattle.xc_interval.specs.Ranges.{AllKnown}
use Rattle.xc_interval.specs.declared.interval.Interval.{Interval}
use Rattle.xc_joint.proofs.Crossing.{in_middle, known_at}
use Rattle.xc_joint.specs.Answers.{AreValuesOf}
use Rattle.xc_joint.specs.Causes.{HasNoEmpty}
use Rattle.xc_joint.specs.Laws.{NumbersAreValues, NumbersHaveSums}
use Rattle.xc_joint.specs.Lists.{AreEach}
use Rattle.xc_joint.specs.Steps.OneForest.{HasSome, IsBounded, IsRangeOf, IsSolved, IsSpanOf}
use Rattle.xc_joint.specs.Steps.Settling.{HaveSums}
use Rattle.xc_joint.specs.declared.one_forest.Span.{Span}
use Rattle.xc_joint.specs.declared.solving.Solution.TheVariants.{Numbers}
use Rattle.xc_model.specs.Ratio.{Ratio}
use Rattle.xc_system.specs.Components.{IsComponent}
use Rattle.xc_system.specs.Forests.{EachFact, IsNarrowForest}
use Rattle.xc_lists.specs.Members.{IsIn}
use Rattle.xc_system.specs.Systems.{Constraints, facts_of, range_at}
use Rattle.xc_system.specs.declared.types.Component.{Component}

module _ (s : Constraints) where
  all_known : (facts : List ℕ) → AllByRecursion (λ k. IsSome (range_at s.bounds k)) facts → AllKnown (map (range_at s.bounds) facts)
  all_known [] h = tt
  all_known (k ∷ ks) h = go (range_at s.bounds k) h.0 (all_known ks h.1)
    where
      go : (o : Option (Interval Ratio)) → IsSome o → AllKnown (map (range_at s.bounds) ks) → AllKnown (o ∷ map (range_at s.bounds) ks)
      go None a b = absurd (false≢true a)
      go (Some i) a b = b

  -- no point of such a component is empty or has a wide fact
  pub points_have : (c : Component) → IsComponent s c → HasNoEmpty s c → EachFact s c (λ k. IsSome (range_at s.bounds k)) → All (HasSome s) c.points
  points_have c is none known = All-from_recursion (HasSome s) c.points (by c.points (λ p i. i) (recursion_from_All (λ p. All (λ k. IsSome (range_at s.bounds k)) (facts_of s.bounds p)) c.points known))
    where
      by : (ps : List ℕ) → ((p : ℕ) → IsIn p ps → IsIn p c.points) → AllByRecursion (λ p. All (λ k. IsSome (range_at s.bounds k)) (facts_of s.bounds p)) ps → AllByRecursion (HasSome s) ps
      by [] own h = tt
      by (p ∷ ps) own h = (
        record {
          inside = ((is.points p).0 (own p (inl refl))).0;
          known = all_known (facts_of s.bounds p) (recursion_from_All (λ k. IsSome (range_at s.bounds k)) (facts_of s.bounds p) h.0);
          some = none p (own p (inl refl));
        },
        by ps (λ q i. own q (inr i)) h.1,
      )

  some_of : (o : Option (Interval Ratio)) → IsSomeAnd o (λ interval. Unit {0}) → IsSome o
  some_of None h = absurd h
  some_of (Some i) h = refl

  -- the facts of spans are known
  pub spans_known : (points : List ℕ) (spans : List Span) → AreEach (IsSpanOf s) points spans → All (λ span. IsSome (range_at s.bounds span.low) × IsSome (range_at s.bounds span.high)) spans
  spans_known points spans a = All-from_recursion (λ span. IsSome (range_at s.bounds span.low) × IsSome (range_at s.bounds span.high)) spans (by points spans a)
    where
      known : (p k : ℕ) (span : Span) (front back : List ℕ) → IsSpanOf s p span → facts_of s.bounds p ≡ front ++ k ∷ back → IsSome (range_at s.bounds k)
      known p k span front back h e = some_of (range_at s.bounds k) (known_at s.bounds k (facts_of s.bounds p) h.known (subst (λ (l : List ℕ). IsIn k l) (sym e) (in_middle k front back)))

      by : (ps : List ℕ) (xs : List Span) → AreEach (IsSpanOf s) ps xs → AllByRecursion (λ span. IsSome (range_at s.bounds span.low) × IsSome (range_at s.bounds span.high)) xs
      by [] [] h = tt
      by [] (x ∷ xs) h = absurd h
      by (p ∷ ps) [] h = absurd h
      by (p ∷ ps) (x ∷ xs) h = ((known p x.low x h.0.low.front h.0.low.back h.0 h.0.low.there, known p x.high x h.0.high.front h.0.high.back h.0 h.0.high.there), by ps xs h.1)

  -- points are bounded by the ranges of their spans
  pub points_bounded : (points : List ℕ) (spans : List Span) (ranges : List (Interval Ratio)) → AreEach (IsSpanOf s) points spans → AreEach (IsRangeOf s) spans ranges → AreEach (IsBounded s) points ranges
  points_bounded [] [] [] a b = tt
  points_bounded [] [] (r ∷ rs) a b = absurd b
  points_bounded [] (x ∷ xs) rs a b = absurd a
  points_bounded (p ∷ ps) [] rs a b = absurd a
  points_bounded (p ∷ ps) (x ∷ xs) [] a b = absurd b
  points_bounded (p ∷ ps) (x ∷ xs) (r ∷ rs) a b = (record { span = x; is = a.0; of = b.0 }, points_bounded ps xs rs a.1 b.1)

-- numbers that solve it are values, and no operation passes where the checker sums with them
pub forest_values : (s : Constraints) (c : Component) (ranges : List (Interval Ratio)) (xs : List Ratio) → IsComponent s c → IsNarrowForest s c → AreEach (IsBounded s) c.points ranges → IsSolved s c ranges (Numbers xs)
    → NumbersAreValues → NumbersHaveSums → AreValuesOf s c xs × HaveSums s c xs
forest_values s c ranges xs is narrow bounded h values sums = (
  values s c is ranges h.rows bounded h.are xs h.solves.0,
  λ all l among i own. sums s c is narrow ranges h.rows bounded h.are xs h.solves.0 h.solves.1 all among i own,
)
