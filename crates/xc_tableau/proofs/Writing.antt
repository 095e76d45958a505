-- One entry more of an exchange is written.
use Rattle.std.proofs.Common.{◌≡◌, ◌≢◌, ℕ, ◌+◌, ◌*◌, ◌<◌, List, length, ◌⊎◌, inl, inr, sym, ap, subst, ◌∙◌, arith}
use Rattle.std.specs.Prelude.{slice_set}
use Rattle.std.proofs.lemmas.Bool.{cases_eq}
use Rattle.xc_model.specs.Ratio.{Ratio}
use Rattle.xc_lists.proofs.RowPlaces.{place_below, places_apart}
use Rattle.xc_tableau.specs.Exchanges.{IsEntering, IsOtherEntry}
use Rattle.xc_tableau.specs.Steps.{table, EnteringDone, RowDone, RowsKept, OthersDone}
use Rattle.xc_tableau.specs.Tables.{Has}
use Rattle.xc_tableau.specs.declared.pivoting.Pivot.{Pivot}
use Rattle.xc_tableau.proofs.Exchanging.{written_same, written_other}

module _ (pivot : Pivot) (entries xs : List Ratio) (k n p : ℕ) (v : Ratio) (is : p ≡ k * pivot.columns + n) (row : k < pivot.rows) (column : n < pivot.columns) (room : length xs ≡ pivot.rows * pivot.columns) where
  within : p < length xs
  within = omega (arith, is, place_below k n pivot.rows pivot.columns row column)

  pub entering_next : k ≡ pivot.row → EnteringDone pivot entries n xs → IsEntering (table pivot entries) pivot.row pivot.column n v → EnteringDone pivot entries (n + 1) (slice_set xs p v)
  entering_next same done here j u h e = go (cases_eq j n)
    where
      go : ((j ≡ n) ⊎ (j ≢ n)) → IsEntering (table pivot entries) pivot.row pivot.column j u
      go (inl q) =
          let place : p ≡ pivot.row * pivot.columns + j = is ∙ ap (λ m. m * pivot.columns + n) same ∙ ap (λ m. pivot.row * pivot.columns + m) (sym q) in
          subst (λ (w : Ratio). IsEntering (table pivot entries) pivot.row pivot.column j w) (sym (written_same xs p _ v u place within e)) (subst (λ m. IsEntering (table pivot entries) pivot.row pivot.column m v) (sym q) here)
      go (inr q) =
          let place : p ≡ pivot.row * pivot.columns + n = is ∙ ap (λ m. m * pivot.columns + n) same in
          done j u (omega arith) (written_other xs p _ v u (omega arith) e)

  pub row_next : RowDone pivot entries k n xs → IsOtherEntry (table pivot entries) pivot.row pivot.column k n v → RowDone pivot entries k (n + 1) (slice_set xs p v)
  row_next done here j r h e = go (cases_eq j n)
    where
      go : ((j ≡ n) ⊎ (j ≢ n)) → IsOtherEntry (table pivot entries) pivot.row pivot.column k j r
      go (inl q) =
          let place : p ≡ k * pivot.columns + j = is ∙ ap (λ m. k * pivot.columns + m) (sym q) in
          subst (λ (w : Ratio). IsOtherEntry (table pivot entries) pivot.row pivot.column k j w) (sym (written_same xs p _ v r place within e)) (subst (λ m. IsOtherEntry (table pivot entries) pivot.row pivot.column k m v) (sym q) here)
      go (inr q) = done j r (omega arith) (written_other xs p _ v r (omega arith) e)

  pub kept_next : (old : List Ratio) → RowsKept pivot k old xs → RowsKept pivot k old (slice_set xs p v)
  kept_next old kept i j r other inside e = kept i j r other inside (written_other xs p _ v r (λ same. places_apart i k j n pivot.columns inside column other (same ∙ is)) e)

module _ (pivot : Pivot) (entries xs ys : List Ratio) (n : ℕ) (kept : RowsKept pivot n xs ys) where
  pub entering_kept : n ≢ pivot.row → EnteringDone pivot entries pivot.columns xs → EnteringDone pivot entries pivot.columns ys
  entering_kept other done j u h e = done j u h (kept pivot.row j u (λ same. other (sym same)) h e)

  pub others_next : OthersDone pivot entries n xs → (n ≢ pivot.row → RowDone pivot entries n pivot.columns ys) → OthersDone pivot entries (n + 1) ys
  others_next done here k j r h other inside e = go (cases_eq k n)
    where
      go : ((k ≡ n) ⊎ (k ≢ n)) → IsOtherEntry (table pivot entries) pivot.row pivot.column k j r
      go (inl q) = subst (λ m. IsOtherEntry (table pivot entries) pivot.row pivot.column m j r) (sym q) (here (λ same. other (q ∙ same)) j r inside (subst (λ m. Has (table pivot ys) m j r) q e))
      go (inr q) = done k j r (omega arith) other inside (kept k j r q inside e)

pub kept_all : (pivot : Pivot) (k : ℕ) (xs : List Ratio) → RowsKept pivot k xs xs
kept_all pivot k xs i j r other inside e = e
