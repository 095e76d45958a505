-- The refutation that multipliers of the forest of a component give.
use Rattle.std.specs.Prelude.{◌≡◌, ℕ, zero, suc, Bool, true, false, ℤ, pos, negsuc, List, [], ◌∷◌, map, if◌then◌else◌}
use Rattle.std.specs.List.Sorted.{IsPermutation, IsSorted}
use Rattle.std.specs.Ordering.{nat_cmp}
use Rattle.xc_forest.specs.Forests.{Contradicts}
use Rattle.xc_interval.specs.declared.interval.Interval.{Interval}
use Rattle.xc_joint.specs.Small.{closed_pairs}
use Rattle.xc_joint.specs.Lists.{AreEach}
use Rattle.xc_joint.specs.Steps.OneForest.{AreRowsOf, IsRangeOf, IsSign, IsSpanOf}
use Rattle.xc_joint.specs.declared.one_forest.Span.{Span}
use Rattle.xc_model.specs.Ratio.{Ratio}
use Rattle.xc_system.specs.Components.{IsComponent}
use Rattle.xc_system.specs.Kept.{Multipliers}
use Rattle.xc_system.specs.Systems.{Constraints}
use Rattle.xc_system.specs.declared.types.Component.{Component}

-- a multiplier names a low end: it is positive
abbrev pub is_plus : ℤ → Bool
is_plus (pos zero) = false
is_plus (pos (suc k)) = true
is_plus (negsuc k) = false

-- a multiplier names a high end: it is negative
abbrev pub is_minus : ℤ → Bool
is_minus (pos k) = false
is_minus (negsuc k) = true

-- a multiplier of an equation counts: it is not 0
abbrev pub is_nonzero : ℤ → Bool
is_nonzero (pos zero) = false
is_nonzero (pos (suc k)) = true
is_nonzero (negsuc k) = true

-- what is made of those whose multiplier passes a test
abbrev pub map_where : {X Y : Type 0} → (ℤ → Bool) → (X → ℤ → Y) → List X → List ℤ → List Y
map_where test made [] es = []
map_where test made (x ∷ xs) [] = []
map_where test made (x ∷ xs) (e ∷ es) = if test e then made x e ∷ map_where test made xs es else map_where test made xs es

-- the facts whose low ends are named
abbrev pub named_low_facts : List Span → List ℤ → List ℕ
named_low_facts spans ends = map_where is_plus (λ x e. x.low) spans ends

-- the facts whose high ends are named
abbrev pub named_high_facts : List Span → List ℤ → List ℕ
named_high_facts spans ends = map_where is_minus (λ x e. x.high) spans ends

-- the equations that count, with true for a minus sign
abbrev pub named_bindings : List ℕ → List ℤ → List (ℕ × Bool)
named_bindings equations by = map_where is_nonzero (λ i e. (i, is_minus e)) equations by

-- a fact listed with 1
abbrev pub IsListed : ℕ → ℕ × Ratio → Type 0
IsListed k m = (m.0 ≡ k) × IsSign false m.1

-- an equation listed with 1, or with -1 for a minus sign
abbrev pub IsSigned : ℕ × Bool → ℕ × Ratio → Type 0
IsSigned e m = (m.0 ≡ e.0) × IsSign e.1 m.1

-- multipliers contradict the forest of a component
pub record IsContradicted (s : Constraints) (c : Component) (spans : List Span) (by ends : List ℤ) : Type 0 where
  pub is : IsComponent s c
  pub ranges : List (Interval Ratio)
  pub rows : List (List (ℕ × Bool))
  pub spans_are : AreEach (IsSpanOf s) c.points spans
  pub ranges_are : AreEach (IsRangeOf s) spans ranges
  pub rows_are : AreRowsOf s c rows
  pub contradicts : Contradicts rows (map closed_pairs ranges) by ends

-- the lists of a refutation are made of these multipliers
pub record IsMadeOf (c : Component) (spans : List Span) (by ends : List ℤ) (r : Multipliers) : Type 0 where
  pub lows : List ℕ
  pub highs : List ℕ
  pub lows_are : IsPermutation (named_low_facts spans ends) lows
  pub highs_are : IsPermutation (named_high_facts spans ends) highs
  pub lows_ascend : IsSorted nat_cmp lows
  pub highs_ascend : IsSorted nat_cmp highs
  pub lows_listed : AreEach IsListed lows r.lows
  pub highs_listed : AreEach IsListed highs r.highs
  pub bindings_listed : AreEach IsSigned (named_bindings c.equations by) r.bindings
