-- Why a component that is solved along the corners of its problem has no answer: an operation on the way to an answer passes at a corner of
-- the run, or one by which the checker sums the answer.
use Rattle.std.specs.Prelude.{◌≡◌, ◌⊎◌, ℕ, ◌<◌, Bool, List, Err, map, slice_index_or}
use Rattle.std.specs.List.Sorted.{IsPermutation}
use Rattle.xc_corners.specs.Choices.{IsReached}
use Rattle.xc_corners.specs.Conflicts.{AreOfConflict}
use Rattle.xc_corners.specs.Corners.{Corner, CornerLists, Factors, corner_of}
use Rattle.xc_corners.specs.Ending.{IsSmallNumber, AreValuesWith}
use Rattle.xc_corners.specs.LastOperations.{IsConflictAt, IsFeasibleAt, PassesInSolving}
use Rattle.xc_corners.specs.WholeNumbers.{whole_problem}
use Rattle.xc_corners.specs.declared.multipliers.Multipliers.{Multipliers as ProblemMultipliers}
use Rattle.xc_corners.specs.declared.problem.Problem.{Problem}
use Rattle.xc_frac.specs.declared.wide.Wide.{Wide}
use Rattle.xc_joint.specs.ComponentProblems.{IsProblemOf}
use Rattle.xc_joint.specs.Lists.{AreAmong, AreEach}
use Rattle.xc_lists.specs.Members.{IsIn}
use Rattle.xc_model.specs.Ratio.{Ratio}
use Rattle.xc_system.specs.Kept.{IsRefutation, Multipliers}
use Rattle.xc_system.specs.Spots.{HasTighter, IsFirstTightest}
use Rattle.xc_system.specs.Systems.{Constraints, equation_at, facts_of}
use Rattle.xc_system.specs.declared.types.Component.{Component}
use Rattle.xc_system.specs.declared.types.Side.{Side}
use Rattle.xc_system.specs.declared.types.Side.TheVariants.{Low, High}
use Rattle.xc_verify.specs.Feasible.{equation_terms}
use Rattle.xc_verify.specs.Infeasible.{coefficient_terms, constant_terms}
use Rattle.xc_verify.specs.Sums.{IsSumOf}

-- the line with the number that stands at its place among these, in place of the place
abbrev pub line_with_number : List ℕ → ℕ × Ratio → ℕ × Ratio
line_with_number numbers line = (slice_index_or numbers line.0 0, line.1)

-- for each of these points the first fact whose end on this side is the tightest
abbrev pub AreTightestFacts : Constraints → Side → List ℕ → List ℕ → Type 0
AreTightestFacts s side points facts = AreEach (λ p k. IsFirstTightest (HasTighter side s.bounds) (facts_of s.bounds p) k) points facts

-- the refutation of the component by multipliers of its problem: it lists the equation of each row and the fact of each end
pub record IsRefutationOf (s : Constraints) (c : Component) (m : ProblemMultipliers) (r : Multipliers) : Type 0 where
  pub kept : IsRefutation r
  pub low_facts : List ℕ
  pub high_facts : List ℕ
  pub lows_tightest : AreTightestFacts s Low c.points low_facts
  pub highs_tightest : AreTightestFacts s High c.points high_facts
  pub bindings : r.bindings ≡ map (line_with_number c.equations) m.rows
  pub lows : IsPermutation (map (line_with_number low_facts) m.lows) r.lows
  pub highs : IsPermutation (map (line_with_number high_facts) m.highs) r.highs

-- these are the values of a feasible corner
pub record AreValuesAt (problem : Problem) (x : Corner) (values : List Ratio) : Type 0 where
  pub factors : Factors
  pub at : IsFeasibleAt problem x factors
  pub small : Ratio
  pub is_small : IsSmallNumber (whole_problem problem) x factors small
  pub are : AreValuesWith (whole_problem problem) x factors small values

-- this is the refutation of a conflict
pub record IsRefutationAt (s : Constraints) (c : Component) (problem : Problem) (x : Corner) (r : Multipliers) : Type 0 where
  pub factors : Factors
  pub above : Bool
  pub variable : ℕ
  pub at : IsConflictAt problem x factors above variable
  pub multipliers : ProblemMultipliers
  pub are : AreOfConflict (whole_problem problem) x factors above variable multipliers
  pub is : IsRefutationOf s c multipliers r

-- w is the first operation that passes where the checker sums an equation over the values of a feasible corner, or at a conflict a
-- coefficient of its refutation, or the constant
pub data PassesInChecking (s : Constraints) (c : Component) (problem : Problem) (x : Corner) (w : Wide) : Type 0 where
  in_equation : (values all : List Ratio) (i : ℕ) → AreValuesAt problem x values → AreAmong c.points values all → IsIn i c.equations
      → IsSumOf (equation_terms all (equation_at s.equations i).entries) (Err w) → PassesInChecking s c problem x w
  in_coefficient : (r : Multipliers) (p : ℕ) → IsRefutationAt s c problem x r → p < s.points → IsSumOf (coefficient_terms s r p) (Err w) → PassesInChecking s c problem x w
  in_constant : (r : Multipliers) → IsRefutationAt s c problem x r → IsSumOf (constant_terms s r) (Err w) → PassesInChecking s c problem x w

-- the lists tell a corner of the run of the component's problem, at which w passes
pub record CornerPasses (s : Constraints) (c : Component) (lists : CornerLists) (w : Wide) : Type 0 where
  pub problem : Problem
  pub of : IsProblemOf s c problem
  pub reached : IsReached (whole_problem problem) (corner_of lists)
  pub passes : PassesInSolving problem (corner_of lists) w ⊎ PassesInChecking s c problem (corner_of lists) w
