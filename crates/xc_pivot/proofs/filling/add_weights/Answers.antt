use Rattle.std.proofs.Common.{◌≡◌, ◌≢◌, ◌<◌, ℕ, List, [], length, get_or, ⊎_elim, refl, sym, ap, subst, ◌∙◌, arith}
use Rattle.std.specs.Prelude.{All}
use Rattle.std.proofs.lemmas.Bool.{cases_eq}
use Rattle.std.proofs.lemmas.List.{get_or_read}
use Rattle.std.proofs.lemmas.Option.{slice_get_within, get_or_from_slice_get}
use Rattle.xc_corners.specs.Operations.{IsZero, entries_of, weight_added}
use Rattle.xc_model.specs.Ratio.{Ratio}
use Rattle.xc_frac.specs.Passes.{Passes}
use Rattle.xc_frac.specs.declared.wide.Wide.{Wide}
use Rattle.xc_pivot.specs.Firsts.{HasRowSums, EntriesStay, PassesEntry, HasSums, RowsStay}
use Rattle.xc_pivot.proofs.filling.add_weights.Goals as goal

pub add_row-requires-clause-named : goal.add_row-requires-clause-named
add_row-requires-clause-named c =
    let l = c.loop-row in
    let rs = c.as_slice-rows.result.now in
    let same : c.as_slice.result.now ≡ entries_of c.args.problem.now l.row = c.as_slice.ensures ∙ get_or_read rs l.row c.index-rows-row.result c.loop-row-test.true c.index-rows-row.is [] ∙ ap (λ (r : List (List (ℕ × Ratio))). get_or r l.row []) c.as_slice-rows.ensures in
    let columns : length c.args.problem.now.ranges ≡ l.table.columns = sym c.requires.columns ∙ sym l.invariant.columns in
    subst (λ n. All (λ (entry : ℕ × Ratio). entry.0 < n) c.as_slice.result.now) columns
    (subst (λ (es : List (ℕ × Ratio)). All (λ (entry : ℕ × Ratio). entry.0 < length c.args.problem.now.ranges) es) (sym same) (c.requires.problem.named l.row [] (omega (arith, c.loop-row-test.true, ap (λ (r : List (List (ℕ × Ratio))). length r) c.as_slice-rows.ensures))))

pub loop-row-init : goal.loop-row-init
loop-row-init c = record {
  rows = refl;
  columns = refl;
  filled = c.requires.filled;
  zeros = λ i j f low row column has. subst (λ (g : Ratio). IsZero g) (get_or_from_slice_get c.args.table.now.entries _ f f has) (c.requires.zeros _ f (slice_get_within c.args.table.now.entries _ f has));
  sums = λ i small. absurd (omega arith);
  stays = λ i small. absurd (omega arith);
}

pub loop-row-preserved : goal.loop-row-preserved
loop-row-preserved c =
    let l = c.loop-row in
    let problem = c.args.problem.now in
    let new = c.add_row.new.table in
    let rs = c.as_slice-rows.result.now in
    let o = c.in-Ok.ensures in
    let same : c.as_slice.result.now ≡ entries_of problem l.row = c.as_slice.ensures ∙ get_or_read rs l.row c.index-rows-row.result c.loop-row-test.true c.index-rows-row.is [] ∙ ap (λ (r : List (List (ℕ × Ratio))). get_or r l.row []) c.as_slice-rows.ensures in
    record {
      rows = o.rows ∙ l.invariant.rows;
      columns = o.columns ∙ l.invariant.columns;
      filled = o.filled;
      zeros = λ i j f low row column has. l.invariant.zeros i j f (omega arith) (omega (arith, o.rows)) (omega (arith, o.columns)) (o.kept i j f (λ e. omega (arith, e)) (omega (arith, o.columns)) has);
      sums = λ i small. ⊎_elim
          (λ (e : i ≡ l.row). subst (λ k. HasRowSums new k (entries_of problem k)) (sym e) (subst (λ (es : List (ℕ × Ratio)). HasRowSums new l.row es) same o.sums))
          (λ (n : i ≢ l.row). λ j f inside has. l.invariant.sums i (omega arith) j f (omega (arith, o.columns)) (o.kept i j f n (omega (arith, o.columns)) has))
          (cases_eq i l.row);
      stays = λ i small. ⊎_elim
          (λ (e : i ≡ l.row). subst (λ k. EntriesStay (entries_of problem k) (length (entries_of problem k))) (sym e) (subst (λ (es : List (ℕ × Ratio)). EntriesStay es (length es)) same o.stays))
          (λ (n : i ≢ l.row). l.invariant.stays i (omega arith))
          (cases_eq i l.row);
    }

pub returns-in-Err-clause-passes : goal.returns-in-Err-clause-passes
returns-in-Err-clause-passes c =
    let l = c.loop-row in
    let rs = c.as_slice-rows.result.now in
    let same : c.as_slice.result.now ≡ entries_of c.args.problem.now l.row = c.as_slice.ensures ∙ get_or_read rs l.row c.index-rows-row.result c.loop-row-test.true c.index-rows-row.is [] ∙ ap (λ (r : List (List (ℕ × Ratio))). get_or r l.row []) c.as_slice-rows.ensures in
    let o = subst (λ (es : List (ℕ × Ratio)). PassesEntry es c.in-Err.wide) same c.in-Err.ensures.passes in
    record { stands = weight_added l.row o.number o.entry o.sum o.there o.is_sum o.is; passes = subst (λ (w : Wide). Passes w.op w.left w.right) (sym o.is) o.passes }

pub returns : goal.returns
returns c =
    let l = c.loop-row in
    let end : l.row ≡ length c.args.problem.now.rows = omega (arith, l.auto.row-end, c.loop-row-test.false, ap (λ (r : List (List (ℕ × Ratio))). length r) c.as_slice-rows.ensures) in
    record {
      rows = l.invariant.rows;
      columns = l.invariant.columns;
      filled = l.invariant.filled;
      sums = subst (λ n. HasSums c.args.problem.now n l.table) end l.invariant.sums;
      stays = subst (λ n. RowsStay c.args.problem.now n) end l.invariant.stays;
      passes = tt;
    }
