-- Tables of fractions.
use Rattle.std.specs.Prelude.{◌≡◌, ℕ, ◌+◌, ◌*◌, List, length, Some, slice_get}
use Rattle.xc_model.specs.Ratio.{Ratio}

-- rows and columns, and the entries row by row, those of a row side by side
pub record Table : Type 0 where
  pub rows : ℕ
  pub columns : ℕ
  pub entries : List Ratio

-- there is an entry for each row and column
abbrev pub IsFilled : Table → Type 0
IsFilled t = length t.entries ≡ t.rows * t.columns

-- f is the entry of row k and column j
abbrev pub Has : Table → ℕ → ℕ → Ratio → Type 0
Has t k j f = slice_get t.entries (k * t.columns + j) ≡ Some f
