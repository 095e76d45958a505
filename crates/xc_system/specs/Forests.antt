-- Narrow forests: components without a cycle, whose weights are 1 or -1 and whose numbers leave room for their sums (the width is this
-- project's own).
use Rattle.std.specs.Prelude.{◌≡◌, ℕ, ◌+◌, ◌*◌, ◌^◌, ◌<◌, ◌≤◌, ◌⊎◌, ◌↔◌, pos, negsuc, List, [], ◌∷◌, length, IsSome, IfSome, All, sum_by}
use Rattle.std.specs.Option.{option_map_or}
use Prim.Native.Nat.{◌∣◌}
use Rattle.xc_interval.specs.Scales.{HasEndsOnScale, greatest_end}
use Rattle.xc_model.specs.Ratio.{Ratio}
use Rattle.xc_system.specs.Components.{HasPoint}
use Rattle.xc_lists.specs.Members.{IsIn, IsOnce}
use Rattle.xc_system.specs.Systems.{Constraints, equation_at, points_of, facts_of, range_at}
use Rattle.xc_system.specs.declared.types.Component.{Component}
use Rattle.xc_system.specs.declared.types.Equation.{Equation}

-- a point or an equation
pub data Vertex : Type 0 where
  a_point : ℕ → Vertex
  an_equation : ℕ → Vertex

-- a point stands next to the equations that have it
abbrev pub IsNext : List Equation → Vertex → Vertex → Type 0
IsNext equations (a_point p) (a_point q) = ⊥
IsNext equations (a_point p) (an_equation i) = HasPoint equations i p
IsNext equations (an_equation i) (a_point p) = HasPoint equations i p
IsNext equations (an_equation i) (an_equation j) = ⊥

-- it is one of the component
abbrev pub IsOf : Component → Vertex → Type 0
IsOf c (a_point p) = IsIn p c.points
IsOf c (an_equation i) = IsIn i c.equations

-- each stands next to at most one later one
abbrev pub IsThin : List Equation → List Vertex → Type 0
IsThin equations [] = Unit {0}
IsThin equations (v ∷ vs) = ((u w : Vertex) → IsIn u vs → IsIn w vs → IsNext equations v u → IsNext equations v w → u ≡ w) × IsThin equations vs

-- the component has no cycle: its points and equations can be listed, each once, so that each stands next to at most one later one
pub record IsForest (s : Constraints) (c : Component) : Type 0 where
  pub order : List Vertex
  pub once : IsOnce order
  pub all : (v : Vertex) → IsIn v order ↔ IsOf c v
  pub thin : IsThin s.equations order

-- the weight is 1 or -1
abbrev pub IsUnit : Ratio → Type 0
IsUnit weight = ((weight.num ≡ pos 1) ⊎ (weight.num ≡ negsuc 0)) × (weight.den ≡ pos 1)

module _ (s : Constraints) (c : Component) where
  -- the property holds of each fact of each point of the component
  abbrev pub EachFact : (ℕ → Type 0) → Type 0
  EachFact P = All (λ p. All P (facts_of s.bounds p)) c.points

  -- d is a common multiple of the denominators of all ends of these facts
  abbrev pub IsCommonScale : ℕ → Type 0
  IsCommonScale d = EachFact (λ k. IfSome (range_at s.bounds k) (HasEndsOnScale d))

  -- the least of them
  pub record IsLeastScale (d : ℕ) : Type 0 where
    pub positive : 0 < d
    pub common : IsCommonScale d
    pub least : (m : ℕ) → IsCommonScale m → d ∣ m

  -- the greater magnitude of the two ends of fact k, times d
  abbrev pub reach : ℕ → ℕ → ℕ
  reach d k = option_map_or (greatest_end d) (range_at s.bounds k) 0

  -- the sum of these over all facts of the component
  abbrev pub total_reach : ℕ → ℕ
  total_reach d = sum_by (λ p. sum_by (reach d) (facts_of s.bounds p)) c.points

  -- (2n + 4) * D * (1 + M) is at most 2^126, where n is the number of points, D the least common multiple of the denominators of all
  -- ends of all facts, and M the sum over the facts of the greater magnitude of the two ends
  pub record IsNarrow : Type 0 where
    pub scale : ℕ
    pub is_least : IsLeastScale scale
    pub fits : (2 * length c.points + 4) * (scale + total_reach scale) ≤ 2 ^ 126

  -- the component is a narrow forest
  pub record IsNarrowForest : Type 0 where
    pub forest : IsForest s c
    -- no equation has a point twice, and all weights are 1 or -1
    pub once : All (λ i. IsOnce (points_of (equation_at s.equations i))) c.equations
    pub weights : All (λ i. All (λ entry. IsUnit entry.weight) (equation_at s.equations i).entries) c.equations
    -- no fact is wide
    pub known : EachFact (λ k. IsSome (range_at s.bounds k))
    pub narrow : IsNarrow
