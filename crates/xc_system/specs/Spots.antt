-- What all facts of a point allow, and which of them are the tightest.
use Rattle.std.specs.Prelude.{◌≡◌, ◌++◌, ℕ, pos, Bool, List, ◌∷◌, Some, is_none, map, find}
use Rattle.std.specs.Option.{option_map_or}
use Rattle.xc_interval.specs.Ends.{end_at}
use Rattle.xc_interval.specs.Ranges.{IsRangeOf}
use Rattle.xc_interval.specs.Tightest.{IsTighterLow, IsTighterHigh}
use Rattle.xc_interval.specs.declared.ends.End.{End}
use Rattle.xc_interval.specs.declared.ends.End.TheVariants.{Closed}
use Rattle.xc_interval.specs.declared.range.Range.{Range}
use Rattle.xc_interval.specs.declared.range.Range.TheVariants as range
use Rattle.xc_model.specs.Fraction.{Fraction, SameNumber, IsBelow, whole}
use Rattle.xc_model.specs.Ratio.{fraction_of}
use Rattle.xc_lists.specs.Members.{IsIn}
use Rattle.xc_system.specs.Systems.{facts_of, range_at}
use Rattle.xc_system.specs.declared.types.Bound.{Bound}
use Rattle.xc_system.specs.declared.types.Side.{Side}
use Rattle.xc_system.specs.declared.types.Side.TheVariants.{Low, High}
use Rattle.xc_system.specs.declared.types.Spot.{Spot}

-- the low end of fact k as a number; 0 where it is wide
abbrev pub low_end : List Bound → ℕ → End Fraction
low_end bounds k = option_map_or (λ interval. end_at (λ x. fraction_of x) interval.low) (range_at bounds k) (Closed (whole (pos 0)))

-- and its high end
abbrev pub high_end : List Bound → ℕ → End Fraction
high_end bounds k = option_map_or (λ interval. end_at (λ x. fraction_of x) interval.high) (range_at bounds k) (Closed (whole (pos 0)))

-- on this side, the end of fact j is tighter than that of fact k
abbrev pub HasTighter : Side → List Bound → ℕ → ℕ → Type 0
HasTighter Low bounds j k = IsTighterLow IsBelow SameNumber (low_end bounds j) (low_end bounds k)
HasTighter High bounds j k = IsTighterHigh IsBelow SameNumber (high_end bounds j) (high_end bounds k)

-- fact k is the first of the tightest: those before it are less tight, and none behind it is tighter
pub record IsFirstTightest (Tighter : ℕ → ℕ → Type 0) (facts : List ℕ) (k : ℕ) : Type 0 where
  pub front : List ℕ
  pub back : List ℕ
  pub there : facts ≡ front ++ k ∷ back
  pub before : (j : ℕ) → IsIn j front → Tighter k j
  pub behind : (j : ℕ) → IsIn j back → ¬ Tighter j k

-- fact k is wide
abbrev pub is_wide_fact : List Bound → ℕ → Bool
is_wide_fact bounds k = is_none (range_at bounds k)

-- the first wide fact of these
abbrev pub IsFirstWide : List Bound → List ℕ → ℕ → Type 0
IsFirstWide bounds facts k = find (is_wide_fact bounds) facts ≡ Some k

-- whose ends are the tightest: the first tightest low end and the first tightest high end; where a fact is wide, both are the first wide one
abbrev pub AreTightest : List Bound → List ℕ → Range → (low high : ℕ) → Type 0
AreTightest bounds facts range.Wide low high = IsFirstWide bounds facts low × IsFirstWide bounds facts high
AreTightest bounds facts range.Empty low high = IsFirstTightest (HasTighter Low bounds) facts low × IsFirstTightest (HasTighter High bounds) facts high
AreTightest bounds facts (range.Meets i) low high = IsFirstTightest (HasTighter Low bounds) facts low × IsFirstTightest (HasTighter High bounds) facts high

-- the spot of a point: the range that the intervals of its facts give, and whose ends are the tightest
pub record IsSpot (bounds : List Bound) (p : ℕ) (spot : Spot) : Type 0 where
  pub range : IsRangeOf (map (range_at bounds) (facts_of bounds p)) spot.range
  pub tightest : AreTightest bounds (facts_of bounds p) spot.range spot.low spot.high
