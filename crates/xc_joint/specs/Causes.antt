-- Why a component has no answer.
use Rattle.std.specs.Prelude.{◌≡◌, ℕ, ◌<◌, pos, [], ◌∷◌, Err, length, map, IsTrue}
use Rattle.xc_corners.specs.Corners.{CornerLists}
use Rattle.xc_frac.specs.declared.wide.Wide.{Wide}
use Rattle.xc_interval.specs.Ranges.{IsEmptyMeetOf}
use Rattle.xc_interval.specs.declared.range.Range.TheVariants as range
use Rattle.xc_joint.specs.CornerCauses.{CornerPasses}
use Rattle.xc_joint.specs.declared.types.Cause.{Cause}
use Rattle.xc_joint.specs.declared.types.Cause.TheVariants.{Fact, Ends, Corner}
use Rattle.xc_model.specs.Ratio.{Ratio}
use Rattle.xc_system.specs.Forests.{IsNarrowForest}
use Rattle.xc_system.specs.Kept.{Multipliers}
use Rattle.xc_lists.specs.Members.{IsIn}
use Rattle.xc_system.specs.Spots.{AreTightest, is_wide_fact}
use Rattle.xc_system.specs.Systems.{Constraints, facts_of, point_at, range_at}
use Rattle.xc_system.specs.declared.types.Component.{Component}
use Rattle.xc_verify.specs.Infeasible.{constant_terms}
use Rattle.xc_verify.specs.Sums.{IsSumOf}

-- ---- points that no value satisfies

-- all facts of the point are known, and no value lies in all of their intervals
abbrev pub IsEmptyPoint : Constraints → ℕ → Type 0
IsEmptyPoint s p = IsEmptyMeetOf (map (range_at s.bounds) (facts_of s.bounds p))

-- the component has no empty point
abbrev pub HasNoEmpty : Constraints → Component → Type 0
HasNoEmpty s c = (p : ℕ) → IsIn p c.points → ¬ IsEmptyPoint s p

-- the first empty point of a component
pub record IsFirstEmpty (s : Constraints) (c : Component) (p : ℕ) : Type 0 where
  pub there : IsIn p c.points
  pub empty : IsEmptyPoint s p
  pub first : (q : ℕ) → IsIn q c.points → q < p → ¬ IsEmptyPoint s q

-- the refutation lists the low end of the one fact and the high end of the other, each with 1
pub record ListsEnds (r : Multipliers) (low high : ℕ) : Type 0 where
  pub one : Ratio
  pub num : one.num ≡ pos 1
  pub den : one.den ≡ pos 1
  pub is : r ≡ record { bindings = []; lows = (low, one) ∷ []; highs = (high, one) ∷ [] }

-- that of the first empty point: it lists the tightest of its low ends, and the tightest of its high ends
pub record IsOfFirstEmpty (s : Constraints) (c : Component) (r : Multipliers) (low high : ℕ) : Type 0 where
  pub point : ℕ
  pub first : IsFirstEmpty s c point
  pub tightest : AreTightest s.bounds (facts_of s.bounds point) range.Empty low high
  pub lists : ListsEnds r low high

-- ---- wide facts

-- fact k is of a point of the component, and wide
pub record IsWideOf (s : Constraints) (c : Component) (k : ℕ) : Type 0 where
  pub there : k < length s.bounds
  pub own : IsIn (point_at s.bounds k) c.points
  pub wide : IsTrue (is_wide_fact s.bounds k)

-- the component has no wide fact
abbrev pub HasNoWide : Constraints → Component → Type 0
HasNoWide s c = (k : ℕ) → ¬ IsWideOf s c k

-- ---- causes

-- an operation passes where the checker takes the constant of the first empty point's refutation
pub record EndsPass (s : Constraints) (c : Component) (low high : ℕ) (w : Wide) : Type 0 where
  pub refutation : Multipliers
  pub own : IsOfFirstEmpty s c refutation low high
  pub passes : IsSumOf (constant_terms s refutation) (Err w)

-- no point is empty, and k is the wide fact of least number
pub record IsLeastWide (s : Constraints) (c : Component) (k : ℕ) : Type 0 where
  pub none_empty : HasNoEmpty s c
  pub wide : IsWideOf s c k
  pub least : (j : ℕ) → j < k → ¬ IsWideOf s c j

-- the component has no empty point and no wide fact, and is no narrow forest
pub record IsOther (s : Constraints) (c : Component) : Type 0 where
  pub none_empty : HasNoEmpty s c
  pub none_wide : HasNoWide s c
  pub no_forest : ¬ IsNarrowForest s c

-- so it is, and w passes at the corner that the lists tell
pub record IsCornerCause (s : Constraints) (c : Component) (lists : CornerLists) (w : Wide) : Type 0 where
  pub other : IsOther s c
  pub passes : CornerPasses s c lists w

-- why the component has no answer
abbrev pub IsCause : Constraints → Component → Cause → Type 0
IsCause s c (Ends low high w) = EndsPass s c low high w
IsCause s c (Fact k) = IsLeastWide s c k
IsCause s c (Corner lists w) = IsCornerCause s c lists w

-- the component has no cause
abbrev pub HasNoCause : Constraints → Component → Type 0
HasNoCause s c = (cause : Cause) → ¬ IsCause s c cause
