-- An answer to the problem of a component excludes an operation that passes at a corner of it.
use Rattle.std.proofs.Common.{◌≡◌, ◌⊎◌, List, length, Ok, Err, inl, inr, sym, subst}
use Rattle.std.specs.Prelude.{All}
use Rattle.xc_corners.specs.Choices.{IsReached}
use Rattle.xc_corners.specs.Corners.{Corner, CornerLists, Factors, IsSolvedForm, corner_of}
use Rattle.xc_corners.specs.LastOperations.{IsFeasibleAt, PassesInSolving}
use Rattle.xc_corners.specs.Laws.{ConflictIsLast, FeasibleIsLast, HasOneSolvedForm, IsOneRun}
use Rattle.xc_corners.specs.Problems.{IsWholeProblem}
use Rattle.xc_corners.specs.WholeNumbers.{whole_problem}
use Rattle.xc_corners.specs.declared.multipliers.Multipliers.{Multipliers as ProblemMultipliers}
use Rattle.xc_corners.specs.declared.problem.Problem.{Problem}
use Rattle.xc_frac.specs.declared.wide.Wide.{Wide}
use Rattle.xc_joint.proofs.EquationSums.{other_sums}
use Rattle.xc_joint.proofs.LastCorners.{IsEnd, last_is}
use Rattle.xc_joint.proofs.OneConflict.{conflict_once, not_both_ends}
use Rattle.xc_joint.proofs.OneEnding.{values_once}
use Rattle.xc_joint.proofs.OneProblem.{problem_once, refutation_once}
use Rattle.xc_joint.specs.ComponentProblems.{IsProblemOf}
use Rattle.xc_joint.specs.CornerCauses.{AreValuesAt, CornerPasses, IsRefutationAt, IsRefutationOf, PassesInChecking, in_coefficient, in_constant, in_equation}
use Rattle.xc_joint.specs.Lists.{AreAmong}
use Rattle.xc_joint.specs.Steps.ByCorners.{IsOfConflict, NothingPassesAtCorners, SumsPassNowhere}
use Rattle.xc_joint.specs.Steps.UnitSums.{HasSums}
use Rattle.xc_lists.specs.Members.{IsIn}
use Rattle.xc_model.specs.Ratio.{Ratio}
use Rattle.xc_pivot.specs.Solving.{IsSolution, NothingStops}
use Rattle.xc_system.specs.Components.{IsComponent}
use Rattle.xc_system.specs.Kept.{Multipliers}
use Rattle.xc_system.specs.Systems.{Constraints, equation_at}
use Rattle.xc_system.specs.declared.types.Component.{Component}
use Rattle.xc_verify.specs.Feasible.{equation_terms}
use Rattle.xc_verify.specs.Infeasible.{coefficient_terms, constant_terms}
use Rattle.xc_verify.specs.Laws.{HasOneSum}
use Rattle.xc_verify.specs.Sums.{Term, IsSumOf}

-- a sum that ends is not one that is refused
ends_or_passes : HasOneSum → (ts : List Term) (x : Ratio) (w : Wide) → IsSumOf ts (Ok x) → IsSumOf ts (Err w) → ⊥
ends_or_passes once ts x w h k = apart (once ts (Ok x) (Err w) h k)
  where
    apart : Ok x ≡ Err w → ⊥
    apart e = cc

-- w passes on the way to an answer to this problem, or where it is checked
record PassesAtCorner (s : Constraints) (c : Component) (lists : CornerLists) (w : Wide) (problem : Problem) : Type 0 where
  reached : IsReached (whole_problem problem) (corner_of lists)
  passes : PassesInSolving problem (corner_of lists) w ⊎ PassesInChecking s c problem (corner_of lists) w

-- w passes where it is checked
record PassesHere (s : Constraints) (c : Component) (problem : Problem) (lists : CornerLists) (w : Wide) : Type 0 where
  reached : IsReached (whole_problem problem) (corner_of lists)
  passes : PassesInChecking s c problem (corner_of lists) w

-- where nothing stops on the way to an answer, w passes where it is checked
passing_here : (s : Constraints) (c : Component) (problem : Problem) (lists : CornerLists) (w : Wide) → NothingStops problem → PassesAtCorner s c lists w problem → PassesHere s c problem lists w
passing_here s c problem lists w nothing h = go h.passes
  where
    go : PassesInSolving problem (corner_of lists) w ⊎ PassesInChecking s c problem (corner_of lists) w → PassesHere s c problem lists w
    go (inl stop) = absurd (nothing (corner_of lists) w h.reached stop)
    go (inr passes) = record { reached = h.reached; passes = passes }

module _ (one_form : HasOneSolvedForm) (one : IsOneRun) (feasible : FeasibleIsLast) (conflict : ConflictIsLast) (once : HasOneSum)
    (s : Constraints) (c : Component) (component : IsComponent s c) (problem : Problem) (of : IsProblemOf s c problem) (is : IsWholeProblem (whole_problem problem)) where
  -- what passes at a corner of the component's problem passes at one of this problem
  here : NothingStops problem → (lists : CornerLists) (w : Wide) → CornerPasses s c lists w → PassesHere s c problem lists w
  here nothing lists w h = passing_here s c problem lists w nothing (subst (PassesAtCorner s c lists w) (problem_once s c component h.problem problem h.of of) (record { reached = h.reached; passes = h.passes }))

  -- where the corners are both last, they are one
  same_corner : (x y : Corner) (t u : Factors) → IsReached (whole_problem problem) x → IsSolvedForm (whole_problem problem) x t → IsEnd (whole_problem problem) x t → IsReached (whole_problem problem) y → IsSolvedForm (whole_problem problem) y u → IsEnd (whole_problem problem) y u → x ≡ y
  same_corner x y t u = last_is one feasible conflict (whole_problem problem) is x y t u

  module _ (own : All (λ i. All (λ entry. IsIn entry.point c.points) (equation_at s.equations i).entries) c.equations) (values : List Ratio) (solution : IsSolution problem values) (long : length values ≡ length c.points)
      (all : List Ratio) (among : AreAmong c.points values all) (sums : SumsPassNowhere s c all) where
    no_conflict : (x : Corner) → IsReached (whole_problem problem) x → (r : Multipliers) → IsRefutationAt s c problem x r → ⊥
    no_conflict x reached r at =
        let same : solution.corner ≡ x = same_corner solution.corner x solution.factors at.factors solution.reached solution.at.solved (inl solution.at.feasible) reached at.at.solved (inr (at.above, at.variable, at.at.conflict)) in
        let moved = subst (λ (y : Corner). IsFeasibleAt problem y solution.factors) same solution.at in
        not_both_ends one_form (whole_problem problem) is x solution.factors at.factors moved.solved at.at.solved at.above at.variable moved.feasible at.at.conflict

    same_values : (x : Corner) → IsReached (whole_problem problem) x → (others : List Ratio) → AreValuesAt problem x others → values ≡ others
    same_values x reached others at =
        let same : x ≡ solution.corner = same_corner x solution.corner at.factors solution.factors reached at.at.solved (inl at.at.feasible) solution.reached solution.at.solved (inl solution.at.feasible) in
        let moved = subst (λ (y : Corner). AreValuesAt problem y others) same at in
        values_once one_form (whole_problem problem) is.unit solution.corner solution.factors moved.factors solution.at.solved moved.at.solved solution.small moved.small values others solution.is_small solution.are moved.is_small moved.are

    no_passing : (x : Corner) (w : Wide) → IsReached (whole_problem problem) x → PassesInChecking s c problem x w → ⊥
    no_passing x w reached (in_equation others every i at also there sum) =
        let ends = other_sums s c own values long all among every (subst (λ (vs : List Ratio). AreAmong c.points vs every) (sym (same_values x reached others at)) also) sums i there in
        ends_or_passes once (equation_terms every (equation_at s.equations i).entries) ends.0 w ends.1 sum
    no_passing x w reached (in_coefficient r p at l sum) = no_conflict x reached r at
    no_passing x w reached (in_constant r at sum) = no_conflict x reached r at

    pub values_exclude : NothingPassesAtCorners s c
    values_exclude lists w h = let g = here solution.nothing lists w h in no_passing (corner_of lists) w g.reached g.passes

  module _ (r : Multipliers) (answer : IsOfConflict s c problem r) (sums : HasSums s r) where
    no_values : (x : Corner) → IsReached (whole_problem problem) x → (others : List Ratio) → AreValuesAt problem x others → ⊥
    no_values x reached others at =
        let corner : x ≡ answer.corner = same_corner x answer.corner at.factors answer.is.factors reached at.at.solved (inl at.at.feasible) answer.reached answer.is.at.solved (inr (answer.is.above, answer.is.variable, answer.is.at.conflict)) in
        let moved = subst (λ (y : Corner). IsFeasibleAt problem y at.factors) corner at.at in
        not_both_ends one_form (whole_problem problem) is answer.corner at.factors answer.is.factors moved.solved answer.is.at.solved answer.is.above answer.is.variable moved.feasible answer.is.at.conflict

    same_refutation : (x : Corner) → IsReached (whole_problem problem) x → (q : Multipliers) → IsRefutationAt s c problem x q → r ≡ q
    same_refutation x reached q at =
        let corner : answer.corner ≡ x = same_corner answer.corner x answer.is.factors at.factors answer.reached answer.is.at.solved (inr (answer.is.above, answer.is.variable, answer.is.at.conflict)) reached at.at.solved (inr (at.above, at.variable, at.at.conflict)) in
        let moved = subst (λ (y : Corner). IsRefutationAt s c problem y r) corner answer.is in
        let multipliers : moved.multipliers ≡ at.multipliers =
        conflict_once one_form (whole_problem problem) is x moved.factors at.factors moved.at.solved at.at.solved moved.above at.above moved.variable at.variable moved.multipliers at.multipliers moved.at.conflict moved.are at.at.conflict at.are in
        refutation_once s c at.multipliers r q (subst (λ (m : ProblemMultipliers). IsRefutationOf s c m r) multipliers moved.is) at.is

    none_passing : (x : Corner) (w : Wide) → IsReached (whole_problem problem) x → PassesInChecking s c problem x w → ⊥
    none_passing x w reached (in_equation others every i at also there sum) = no_values x reached others at
    none_passing x w reached (in_coefficient q p at l sum) =
        let ends = sums.points p l in
        ends_or_passes once (coefficient_terms s r p) ends.0 w ends.1 (subst (λ (m : Multipliers). IsSumOf (coefficient_terms s m p) (Err w)) (sym (same_refutation x reached q at)) sum)
    none_passing x w reached (in_constant q at sum) =
        let ends = sums.constant in
        ends_or_passes once (constant_terms s r) ends.0 w ends.1 (subst (λ (m : Multipliers). IsSumOf (constant_terms s m) (Err w)) (sym (same_refutation x reached q at)) sum)

    pub refutation_excludes : NothingPassesAtCorners s c
    refutation_excludes lists w h = let g = here answer.nothing lists w h in none_passing (corner_of lists) w g.reached g.passes
