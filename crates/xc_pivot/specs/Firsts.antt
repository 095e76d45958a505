-- How far the first corner is worked out.
use Rattle.std.specs.Prelude.{◌≡◌, ◌≢◌, ℕ, ◌-◌, ◌<◌, Bool, List, Some, slice_get, take, length, if◌then◌else◌, nat_lt}
use Rattle.xc_corners.specs.Operations.{operation, Gives, IsSumOf, weights_of_range, entries_of, IsLowProduct, IsLowSum, StandsAtFirst}
use Rattle.xc_corners.specs.declared.problem.Problem.{Problem}
use Rattle.xc_frac.specs.Passes.{Passes}
use Rattle.xc_frac.specs.declared.delta.Delta.{Delta}
use Rattle.xc_frac.specs.declared.wide.Op.TheVariants.{Add}
use Rattle.xc_frac.specs.declared.wide.Wide.{Wide}
use Rattle.xc_model.specs.Ratio.{Ratio}
use Rattle.xc_pivot.specs.Deltas.{of_part}
use Rattle.xc_pivot.specs.declared.types.Place.{Place}
use Rattle.xc_pivot.specs.declared.types.Place.TheVariants.{Row, Low}
use Rattle.xc_tableau.specs.Tables.{Table, Has}

-- w is an operation of the first corner's factors and values, and passes
pub record PassesFirst (problem : Problem) (w : Wide) : Type 0 where
  pub stands : StandsAtFirst problem w
  pub passes : Passes w.op w.left w.right

-- row i has the sums of the weights of these entries
abbrev pub HasRowSums : Table → ℕ → List (ℕ × Ratio) → Type 0
HasRowSums table i entries = (j : ℕ) (f : Ratio) → j < table.columns → Has table i j f → IsSumOf (weights_of_range entries j) f

-- no addition of the first n of these entries passes
abbrev pub EntriesStay : List (ℕ × Ratio) → ℕ → Type 0
EntriesStay entries n = (k : ℕ) (entry : ℕ × Ratio) (s : Ratio) → k < n → slice_get entries k ≡ Some entry → IsSumOf (weights_of_range (take k entries) entry.0) s → ¬ Passes Add s entry.1

-- w is one of them, and passes
pub record PassesEntry (entries : List (ℕ × Ratio)) (w : Wide) : Type 0 where
  pub number : ℕ
  pub entry : ℕ × Ratio
  pub there : slice_get entries number ≡ Some entry
  pub sum : Ratio
  pub is_sum : IsSumOf (weights_of_range (take number entries) entry.0) sum
  pub is : w ≡ operation Add sum entry.1
  pub passes : Passes Add sum entry.1

-- all rows but i are as they were
abbrev pub KeepsRows : Table → ℕ → Table → Type 0
KeepsRows old i new = (r j : ℕ) (f : Ratio) → r ≢ i → j < old.columns → Has new r j f → Has old r j f

-- the first n products of a row's factors with the low bounds are there, and no addition of them passes
pub record LowStays (problem : Problem) (i n : ℕ) : Type 0 where
  pub products : (j : ℕ) (c : Bool) → j < n → (m : Ratio) × IsLowProduct problem i c j m
  pub stays : (j : ℕ) (c : Bool) (s m : Ratio) → j < n → IsLowSum problem i c j s → IsLowProduct problem i c j m → ¬ Passes Add s m

-- the place of a variable at the first corner, with n columns
abbrev pub first_place : ℕ → ℕ → Place
first_place n j = if nat_lt j n then Low j else Row (j - n)

-- more is the value and the product of factor and low bound of range j, and the additions do not pass
pub record IsLowAdded (problem : Problem) (i j : ℕ) (value more : Delta Ratio) : Type 0 where
  pub product : Delta Ratio
  pub is_product : (c : Bool) → IsLowProduct problem i c j (of_part product c)
  pub gives : (c : Bool) → Gives Add (of_part value c) (of_part product c) (of_part more c)
  pub stays : (c : Bool) → ¬ Passes Add (of_part value c) (of_part product c)

-- the first n rows have the sums of their weights
abbrev pub HasSums : Problem → ℕ → Table → Type 0
HasSums problem n table = (i : ℕ) → i < n → HasRowSums table i (entries_of problem i)

-- no addition of weights of the first n rows passes
abbrev pub RowsStay : Problem → ℕ → Type 0
RowsStay problem n = (i : ℕ) → i < n → EntriesStay (entries_of problem i) (length (entries_of problem i))

-- the first n values are the sums of products of factors and low bounds
abbrev pub HasLowSums : Problem → ℕ → List (Delta Ratio) → Type 0
HasLowSums problem n values = (r : ℕ) (v : Delta Ratio) → r < n → slice_get values r ≡ Some v → (c : Bool) → IsLowSum problem r c (length problem.ranges) (of_part v c)

-- these are the places of the first corner
abbrev pub AreFirstPlaces : ℕ → List Place → Type 0
AreFirstPlaces n places = (j : ℕ) (place : Place) → slice_get places j ≡ Some place → place ≡ first_place n j
