-- A component has one problem, and multipliers of it give one refutation.
use Rattle.std.proofs.Common.{◌≡◌, ◌⊎◌, ℕ, ◌<◌, List, [], ◌∷◌, length, get_or, inl, inr, Some, refl, sym, ap, ap₂, subst, ◌∙◌, arith}
use Rattle.std.proofs.lemmas.Option.{same_Some}
use Rattle.std.specs.List.Sorted.{IsPermutation, IsStrictlySortedBy}
use Rattle.std.specs.Ordering.{nat_cmp}
use Rattle.std.specs.Prelude.{map}
use Rattle.xc_corners.specs.declared.multipliers.Multipliers.{Multipliers as ProblemMultipliers}
use Rattle.xc_corners.specs.declared.problem.Problem.{Problem}
use Rattle.xc_interval.specs.declared.ends.End.{End}
use Rattle.xc_interval.specs.declared.interval.Interval.{Interval}
use Rattle.xc_joint.proofs.Crossing.{first_tightest_once}
use Rattle.xc_joint.proofs.SameLines.{permuted_once}
use Rattle.xc_joint.proofs.Searched.{rises}
use Rattle.xc_joint.specs.ComponentProblems.{IsProblemOf, IsTightestRange, IsWeightedPlace, IsWeightedRow}
use Rattle.xc_joint.specs.CornerCauses.{AreTightestFacts, IsRefutationOf, line_with_number}
use Rattle.xc_joint.specs.Lists.{AreEach}
use Rattle.xc_model.specs.Ratio.{Ratio}
use Rattle.xc_system.specs.Components.{IsComponent}
use Rattle.xc_system.specs.Kept.{Multipliers}
use Rattle.xc_system.specs.Systems.{Constraints, equation_at, facts_of, range_at}
use Rattle.xc_system.specs.declared.types.Component.{Component}
use Rattle.xc_system.specs.declared.types.Entry.{Entry}
use Rattle.xc_system.specs.declared.types.Side.{Side}
use Rattle.xc_system.specs.declared.types.Side.TheVariants.{Low, High}

-- where each has one thing related to it, a list has one list
each_once : {X Y : Type 0} (R : X → Y → Type 0) → ((x : X) (y z : Y) → R x y → R x z → y ≡ z) → (xs : List X) (ys zs : List Y) → AreEach R xs ys → AreEach R xs zs → ys ≡ zs
each_once R f [] [] [] h k = refl
each_once R f [] [] (z ∷ zs) h k = absurd k
each_once R f [] (y ∷ ys) zs h k = absurd h
each_once R f (x ∷ xs) [] zs h k = absurd h
each_once R f (x ∷ xs) (y ∷ ys) [] h k = absurd k
each_once {X} {Y} R f (x ∷ xs) (y ∷ ys) (z ∷ zs) h k = ap₂ (λ (w : Y) (ws : List Y). w ∷ ws) (f x y z h.0 k.0) (each_once R f xs ys zs h.1 k.1)

-- ---- ranges

abbrev range_made : End Ratio → End Ratio → Interval Ratio
range_made low high = record { low = low; high = high }

module _ (s : Constraints) where
  known_once : (j k : ℕ) (a b : Interval Ratio) → j ≡ k → range_at s.bounds j ≡ Some a → range_at s.bounds k ≡ Some b → a ≡ b
  known_once j k a b e h g = same_Some a b (sym h ∙ ap (λ (i : ℕ). range_at s.bounds i) e ∙ g)

  range_once : (p : ℕ) (a b : Interval Ratio) → IsTightestRange s p a → IsTightestRange s p b → a ≡ b
  range_once p a b h k = λ i. range_made (lows i) (highs i)
    where
      low_facts : h.low_fact ≡ k.low_fact
      low_facts = first_tightest_once _ (facts_of s.bounds p) h.low_fact k.low_fact h.low_first k.low_first

      high_facts : h.high_fact ≡ k.high_fact
      high_facts = first_tightest_once _ (facts_of s.bounds p) h.high_fact k.high_fact h.high_first k.high_first

      lows : a.low ≡ b.low
      lows = h.low_is ∙ ap (λ (r : Interval Ratio). r.low) (known_once h.low_fact k.low_fact h.low k.low low_facts h.low_known k.low_known) ∙ sym k.low_is

      highs : a.high ≡ b.high
      highs = h.high_is ∙ ap (λ (r : Interval Ratio). r.high) (known_once h.high_fact k.high_fact h.high k.high high_facts h.high_known k.high_known) ∙ sym k.high_is

-- ---- rows

module _ (points : List ℕ) (ascend : IsStrictlySortedBy nat_cmp points) where
  place_once : (i j : ℕ) → i < length points → j < length points → get_or points i 0 ≡ get_or points j 0 → i ≡ j
  place_once i j l m e = go (order i j)
    where
      order : (a b : ℕ) → (a < b) ⊎ ((a ≡ b) ⊎ (b < a))
      order a b = grind arith

      go : (i < j) ⊎ ((i ≡ j) ⊎ (j < i)) → i ≡ j
      go (inl less) = absurd (omega (arith, e, rises points ascend i j less m))
      go (inr (inl same)) = same
      go (inr (inr more)) = absurd (omega (arith, e, rises points ascend j i more l))

  entry_once : (entry : Entry) (a b : ℕ × Ratio) → IsWeightedPlace points entry a → IsWeightedPlace points entry b → a ≡ b
  entry_once entry a b h k = ap₂ (λ (i : ℕ) (r : Ratio). (i, r)) (place_once a.0 b.0 h.inside k.inside (h.there ∙ sym k.there)) (h.weight ∙ sym k.weight)

  row_once : (s : Constraints) (i : ℕ) (a b : List (ℕ × Ratio)) → IsWeightedRow s points i a → IsWeightedRow s points i b → a ≡ b
  row_once s i a b h k = each_once (IsWeightedPlace points) entry_once (equation_at s.equations i).entries a b h k

abbrev problem_made : List (Interval Ratio) → List (List (ℕ × Ratio)) → Problem
problem_made ranges rows = record { ranges = ranges; rows = rows }

pub problem_once : (s : Constraints) (c : Component) → IsComponent s c → (a b : Problem) → IsProblemOf s c a → IsProblemOf s c b → a ≡ b
problem_once s c is a b h k = λ i. problem_made (ranges i) (rows i)
  where
    ranges : a.ranges ≡ b.ranges
    ranges = each_once (IsTightestRange s) (range_once s) c.points a.ranges b.ranges h.ranges k.ranges

    rows : a.rows ≡ b.rows
    rows = each_once (IsWeightedRow s c.points) (row_once c.points is.points_ascend s) c.equations a.rows b.rows h.rows k.rows

-- ---- refutations

abbrev refutation_made : List (ℕ × Ratio) → List (ℕ × Ratio) → List (ℕ × Ratio) → Multipliers
refutation_made bindings lows highs = record { bindings = bindings; lows = lows; highs = highs }

facts_once : (s : Constraints) (side : Side) (points facts others : List ℕ) → AreTightestFacts s side points facts → AreTightestFacts s side points others → facts ≡ others
facts_once s side points facts others h k = each_once _ (λ p x y a b. first_tightest_once _ (facts_of s.bounds p) x y a b) points facts others h k

pub refutation_once : (s : Constraints) (c : Component) (m : ProblemMultipliers) (r q : Multipliers) → IsRefutationOf s c m r → IsRefutationOf s c m q → r ≡ q
refutation_once s c m r q h k = λ i. refutation_made (bindings i) (lows i) (highs i)
  where
    bindings : r.bindings ≡ q.bindings
    bindings = h.bindings ∙ sym k.bindings

    lows : r.lows ≡ q.lows
    lows = permuted_once (map (line_with_number h.low_facts) m.lows) r.lows q.lows h.lows
        (subst (λ (facts : List ℕ). IsPermutation (map (line_with_number facts) m.lows) q.lows) (sym (facts_once s Low c.points h.low_facts k.low_facts h.lows_tightest k.lows_tightest)) k.lows)
        h.kept.lows_ascend k.kept.lows_ascend

    highs : r.highs ≡ q.highs
    highs = permuted_once (map (line_with_number h.high_facts) m.highs) r.highs q.highs h.highs
        (subst (λ (facts : List ℕ). IsPermutation (map (line_with_number facts) m.highs) q.highs) (sym (facts_once s High c.points h.high_facts k.high_facts h.highs_tightest k.highs_tightest)) k.highs)
        h.kept.highs_ascend k.kept.highs_ascend
