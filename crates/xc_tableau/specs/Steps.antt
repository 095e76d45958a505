-- How far an exchange is written into another table.
use Rattle.std.specs.Prelude.{◌≡◌, ◌≢◌, ℕ, ◌<◌, ◌*◌, pos, List, length}
use Rattle.xc_frac.specs.declared.wide.Wide.{Wide}
use Rattle.xc_model.specs.Ratio.{Ratio}
use Rattle.xc_tableau.specs.Exchanges.{PassesIn, IsEntering, IsOtherEntry}
use Rattle.xc_tableau.specs.Tables.{Table, Has}
use Rattle.xc_tableau.specs.declared.pivoting.Pivot.{Pivot}

-- entries in the shape of the pivot's table
abbrev pub table : Pivot → List Ratio → Table
table pivot entries = record { rows = pivot.rows; columns = pivot.columns; entries = entries }

-- the pivot is one of these entries, and not 0
pub record IsPivot (pivot : Pivot) (entries : List Ratio) : Type 0 where
  pub filled : length entries ≡ pivot.rows * pivot.columns
  pub row : pivot.row < pivot.rows
  pub column : pivot.column < pivot.columns
  pub value : Has (table pivot entries) pivot.row pivot.column pivot.value
  pub some : pivot.value.num ≢ pos 0

-- w is an operation of the pivot's exchange, and passes
abbrev pub PassesInPivot : Pivot → List Ratio → Wide → Type 0
PassesInPivot pivot entries = PassesIn (table pivot entries) pivot.row pivot.column

-- the first n entries of the pivot's row are written
abbrev pub EnteringDone : Pivot → List Ratio → ℕ → List Ratio → Type 0
EnteringDone pivot entries n new = (j : ℕ) (u : Ratio) → j < n → Has (table pivot new) pivot.row j u → IsEntering (table pivot entries) pivot.row pivot.column j u

-- the first n entries of row k are written
abbrev pub RowDone : Pivot → List Ratio → ℕ → ℕ → List Ratio → Type 0
RowDone pivot entries k n new = (j : ℕ) (r : Ratio) → j < n → Has (table pivot new) k j r → IsOtherEntry (table pivot entries) pivot.row pivot.column k j r

-- row k has the factor 0 in column j
abbrev pub HasZero : Table → ℕ → ℕ → Type 0
HasZero t k j = (f : Ratio) × Has t k j f × (f.num ≡ pos 0)

-- all rows but k are as they were
abbrev pub RowsKept : Pivot → ℕ → List Ratio → List Ratio → Type 0
RowsKept pivot k old new = (i j : ℕ) (r : Ratio) → i ≢ k → j < pivot.columns → Has (table pivot new) i j r → Has (table pivot old) i j r

-- the first n rows but the pivot's are written
abbrev pub OthersDone : Pivot → List Ratio → ℕ → List Ratio → Type 0
OthersDone pivot entries n new = (k j : ℕ) (r : Ratio) → k < n → k ≢ pivot.row → j < pivot.columns → Has (table pivot new) k j r → IsOtherEntry (table pivot entries) pivot.row pivot.column k j r
