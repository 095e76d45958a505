-- What the answer to the problem of a component says of the component.
use Rattle.std.proofs.Common.{◌≡◌, ℕ, List, [], ◌∷◌, inl, inr, refl, subst}
use Rattle.std.proofs.lemmas.List.Elements.{All-from_recursion}
use Rattle.std.specs.List.{AllByRecursion}
use Rattle.std.specs.Prelude.{All}
use Rattle.xc_corners.specs.Choices.{IsLast}
use Rattle.xc_corners.specs.Corners.{Corner, CornerLists, corner_of}
use Rattle.xc_corners.specs.LastOperations.{in_walk}
use Rattle.xc_corners.specs.Laws.{ConflictIsLast, FeasibleIsLast, IsOneRun}
use Rattle.xc_corners.specs.Problems.{IsWholeProblem}
use Rattle.xc_corners.specs.WholeNumbers.{whole_problem}
use Rattle.xc_corners.specs.declared.multipliers.Multipliers.{Multipliers as ProblemMultipliers}
use Rattle.xc_corners.specs.declared.problem.Problem.{Problem}
use Rattle.xc_frac.specs.declared.wide.Wide.{Wide}
use Rattle.xc_joint.specs.Causes.{HasNoEmpty}
use Rattle.xc_joint.specs.ComponentProblems.{IsProblemOf}
use Rattle.xc_joint.specs.CornerCauses.{AreValuesAt, CornerPasses, IsRefutationAt, PassesInChecking, in_coefficient, in_constant, in_equation}
use Rattle.xc_joint.specs.Steps.ByCorners.{IsOfConflict, PassesInRefutation, PassesInSum}
use Rattle.xc_joint.specs.Lists.{AreAmong, AreEach}
use Rattle.xc_joint.specs.Steps.OneForest.{HasSome, IsSpanOf}
use Rattle.xc_joint.specs.Steps.ProblemRefutations.{IsRefutationBy, high_facts, low_facts}
use Rattle.xc_joint.specs.Steps.SpanProblems.{IsProblemBy}
use Rattle.xc_joint.specs.declared.one_forest.Span.{Span}
use Rattle.xc_joint.proofs.LastCorners.{last_is}
use Rattle.xc_joint.proofs.ProblemContradicts.{each_map}
use Rattle.xc_joint.proofs.TightestRanges.{HasKnown}
use Rattle.xc_lists.specs.Members.{IsIn}
use Rattle.xc_model.specs.Ratio.{Ratio}
use Rattle.xc_pivot.specs.Solving.{IsRefutation, IsSolution, NothingStops, StopsAt}
use Rattle.xc_pivot.specs.Walks.{IsTooWideAt}
use Rattle.xc_system.specs.Components.{IsComponent}
use Rattle.xc_system.specs.Kept.{Multipliers}
use Rattle.xc_system.specs.Refutations.{IsContradictionOf}
use Rattle.xc_system.specs.Spots.{HasTighter, IsFirstTightest}
use Rattle.xc_system.specs.Systems.{Constraints, facts_of}
use Rattle.xc_system.specs.declared.types.Component.{Component}
use Rattle.xc_system.specs.declared.types.Side.TheVariants.{High, Low}

-- where nothing stops on the way to an answer, nothing does on the walk
pub never_stops : (problem : Problem) (lists : CornerLists) (w : Wide) → NothingStops problem → IsTooWideAt problem lists w → ⊥
never_stops problem lists w nothing h = nothing (corner_of lists) w h.0 (record { stands = in_walk h.1.stands; passes = h.1.passes })

-- points that are not empty and whose facts are known have a value each
pub known_points_have : (s : Constraints) (c : Component) → IsComponent s c → HasNoEmpty s c → HasKnown s c.points → All (HasSome s) c.points
known_points_have s c is none known = All-from_recursion (HasSome s) c.points (by c.points (λ p i. i))
  where
    by : (ps : List ℕ) → ((p : ℕ) → IsIn p ps → IsIn p c.points) → AllByRecursion (HasSome s) ps
    by [] own = tt
    by (p ∷ ps) own = (record { inside = ((is.points p).0 (own p (inl refl))).0; known = known p (own p (inl refl)); some = none p (own p (inl refl)) }, by ps (λ q i. own q (inr i)))

each_by : {X Y : Type 0} (R Q : X → Y → Type 0) → ((x : X) (y : Y) → R x y → Q x y) → (xs : List X) (ys : List Y) → AreEach R xs ys → AreEach Q xs ys
each_by R Q f [] [] h = tt
each_by R Q f [] (y ∷ ys) h = absurd h
each_by R Q f (x ∷ xs) [] h = absurd h
each_by R Q f (x ∷ xs) (y ∷ ys) h = (f x y h.0, each_by R Q f xs ys h.1)

module _ (s : Constraints) (c : Component) (problem : Problem) (of : IsProblemOf s c problem) where
  -- an operation on the way to an answer
  pub stop_passes : (lists : CornerLists) (w : Wide) → StopsAt problem lists w → CornerPasses s c lists w
  stop_passes lists w h = record { problem = problem; of = of; reached = h.0; passes = inl h.1 }

  module _ (one : IsOneRun) (feasible : FeasibleIsLast) (conflict : ConflictIsLast) (is : IsWholeProblem (whole_problem problem)) (lists : CornerLists) (last : IsLast (whole_problem problem) (corner_of lists)) (w : Wide) where
    -- an operation where the checker sums the values
    pub sum_passes : (values all : List Ratio) → IsSolution problem values → AreAmong c.points values all → PassesInSum s c all w → CornerPasses s c lists w
    sum_passes values all h among passes = record {
      problem = problem;
      of = of;
      reached = last.reached;
      passes = inr (in_equation values all passes.0 (subst (λ (x : Corner). AreValuesAt problem x values) same (record { factors = h.factors; at = h.at; small = h.small; is_small = h.is_small; are = h.are })) among passes.1 passes.2);
    }
      where
        same : h.corner ≡ corner_of lists
        same = last_is one feasible conflict (whole_problem problem) is h.corner (corner_of lists) h.factors last.factors h.reached h.at.solved (inl h.at.feasible) last.reached last.solved last.ends

    -- an operation where it sums the refutation
    pub refutation_passes : (r : Multipliers) → IsOfConflict s c problem r → PassesInRefutation s r w → CornerPasses s c lists w
    refutation_passes r h passes = record { problem = problem; of = of; reached = last.reached; passes = inr (by passes) }
      where
        same : h.corner ≡ corner_of lists
        same = last_is one feasible conflict (whole_problem problem) is h.corner (corner_of lists) h.is.factors last.factors h.reached h.is.at.solved (inr (h.is.above, h.is.variable, h.is.at.conflict)) last.reached last.solved last.ends

        at : IsRefutationAt s c problem (corner_of lists) r
        at = subst (λ (x : Corner). IsRefutationAt s c problem x r) same h.is

        by : PassesInRefutation s r w → PassesInChecking s c problem (corner_of lists) w
        by (inl (p, l, sum)) = in_coefficient r p at l sum
        by (inr sum) = in_constant r at sum

-- the refutation by the multipliers of a conflict
pub conflict_of : (s : Constraints) (c : Component) (spans : List Span) (problem : Problem) (m : ProblemMultipliers) (r : Multipliers) → IsProblemBy s c spans problem → IsRefutation problem m → IsRefutationBy c spans m r → IsContradictionOf s c r → IsOfConflict s c problem r
conflict_of s c spans problem m r by h made against = record {
  corner = h.corner;
  reached = h.reached;
  is = record {
    factors = h.factors;
    above = h.above;
    variable = h.variable;
    at = h.at;
    multipliers = m;
    are = h.are;
    is = record {
      kept = against.kept;
      low_facts = low_facts spans;
      high_facts = high_facts spans;
      lows_tightest = each_map (λ p k. IsFirstTightest (HasTighter Low s.bounds) (facts_of s.bounds p) k) (λ (x : Span). x.low) c.points spans (each_by (IsSpanOf s) (λ p x. IsFirstTightest (HasTighter Low s.bounds) (facts_of s.bounds p) x.low) (λ p x g. g.low) c.points spans by.bounded);
      highs_tightest = each_map (λ p k. IsFirstTightest (HasTighter High s.bounds) (facts_of s.bounds p) k) (λ (x : Span). x.high) c.points spans (each_by (IsSpanOf s) (λ p x. IsFirstTightest (HasTighter High s.bounds) (facts_of s.bounds p) x.high) (λ p x g. g.high) c.points spans by.bounded);
      bindings = made.bindings;
      lows = made.lows;
      highs = made.highs;
    };
  };
  nothing = h.nothing;
}
