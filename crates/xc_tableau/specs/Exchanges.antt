-- What an exchange of a row and a column makes of a table: the sum of the row solved for the column, and put into the other sums.
use Rattle.std.specs.Prelude.{◌≡◌, ◌≢◌, ℕ, ◌<◌}
use Rattle.xc_corners.specs.Operations.{Gives, IsOwnFactor, IsOtherFactor, IsProductFactor, StandsInExchange}
use Rattle.xc_frac.specs.Passes.{Passes}
use Rattle.xc_frac.specs.declared.wide.Op.TheVariants.{Add, Mul}
use Rattle.xc_frac.specs.declared.wide.Wide.{Wide}
use Rattle.xc_model.specs.Ratio.{Ratio}
use Rattle.xc_tableau.specs.Tables.{Table, Has}

-- w is an operation of the exchange of row b and column q, and passes
pub record PassesIn (t : Table) (b q : ℕ) (w : Wide) : Type 0 where
  pub stands : StandsInExchange (λ k. k < t.rows) (λ j. j < t.columns) (Has t) b q w
  pub passes : Passes w.op w.left w.right

-- u is what stands afterwards in row b and column j
abbrev pub IsEntering : Table → ℕ → ℕ → ℕ → Ratio → Type 0
IsEntering t b q j u = (j ≡ q → IsOwnFactor (Has t) b q u) × (j ≢ q → IsOtherFactor (Has t) b q j u)

-- r is what stands afterwards in another row k and column q
pub record IsLeaving (t : Table) (b q k : ℕ) (r : Ratio) : Type 0 where
  pub factor : Ratio
  pub is_factor : Has t k q factor
  pub own : Ratio
  pub is_own : IsOwnFactor (Has t) b q own
  pub gives : Gives Mul factor own r

-- r is what stands afterwards in another row k and another column j
pub record IsRest (t : Table) (b q k j : ℕ) (r : Ratio) : Type 0 where
  pub factor : Ratio
  pub is_factor : Has t k j factor
  pub product : Ratio
  pub is_product : IsProductFactor (Has t) b q k j product
  pub gives : Gives Add factor product r
  pub fits : ¬ Passes Add factor product

-- r is what stands afterwards in another row k and column j
abbrev pub IsOtherEntry : Table → ℕ → ℕ → ℕ → ℕ → Ratio → Type 0
IsOtherEntry t b q k j r = (j ≡ q → IsLeaving t b q k r) × (j ≢ q → IsRest t b q k j r)

-- the exchange of row b and column q makes the one table of the other
pub record IsExchanged (t : Table) (b q : ℕ) (new : Table) : Type 0 where
  pub rows : new.rows ≡ t.rows
  pub columns : new.columns ≡ t.columns
  pub entering : (j : ℕ) (u : Ratio) → j < t.columns → Has new b j u → IsEntering t b q j u
  pub others : (k j : ℕ) (r : Ratio) → k < t.rows → k ≢ b → j < t.columns → Has new k j r → IsOtherEntry t b q k j r
