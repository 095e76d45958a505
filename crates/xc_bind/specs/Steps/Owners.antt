-- To which point each fact belongs.
use Rattle.std.specs.Prelude.{◌≡◌, ℕ, List, Some, Option, slice_get, slice_index, length}
use Rattle.xc_interval.specs.declared.interval.Interval.{Interval}
use Rattle.xc_model.specs.Ratio.{Ratio}
use Rattle.xc_points.specs.Kept.{Gathered, HasFact}
use Rattle.xc_points.specs.declared.types.Point.{Point}
use Rattle.xc_system.specs.declared.types.Bound.{Bound}

-- for each fact the number of its point
pub record AreOwners (gathered : Gathered) (owners : List ℕ) : Type 0 where
  pub facts : length owners ≡ length gathered.ends
  pub owned : (k : ℕ) (point : Point) → slice_get gathered.points k ≡ Some point → (f : ℕ) → HasFact point f → slice_index owners f ≡ k

-- the bound of a fact with this point and this interval
abbrev pub bound_with : ℕ × Option (Interval Ratio) → Bound
bound_with pair = record { point = pair.0; range = pair.1 }
