use Rattle.std.proofs.Common.{◌≡◌, ◌≢◌, ◌<◌, ℕ, Bool, Some, slice_get, length, ⊎_elim, sym, subst, arith}
use Rattle.std.specs.Prelude.{slice_set}
use Rattle.std.proofs.lemmas.Bool.{cases_eq}
use Rattle.std.proofs.lemmas.List.{length-set}
use Rattle.xc_corners.specs.Operations.{IsLowSum}
use Rattle.xc_frac.specs.declared.delta.Delta.{Delta}
use Rattle.xc_model.specs.Ratio.{Ratio}
use Rattle.xc_pivot.specs.Deltas.{of_part}
use Rattle.xc_pivot.specs.Firsts.{LowStays, HasLowSums}
use Rattle.xc_pivot.proofs.Placed.{written_at, unwritten_at}
use Rattle.xc_pivot.proofs.filling.low_values.Goals as goal

pub low_value-requires-clause-sums : goal.low_value-requires-clause-sums
low_value-requires-clause-sums c = c.requires.sums c.loop-row.row (omega arith)

pub loop-row-preserved : goal.loop-row-preserved
loop-row-preserved c =
    let l = c.loop-row in
    let problem = c.args.problem.now in
    let n = length problem.ranges in
    record {
      count = omega (arith, length-set l.values l.row c.in-Ok.value);
      is = λ r v small e. ⊎_elim
          (λ (same : r ≡ l.row).
          let is : v ≡ c.in-Ok.value = written_at l.values l.row c.in-Ok.value v (omega (arith, l.invariant.count)) (subst (λ k. slice_get (slice_set l.values l.row c.in-Ok.value) k ≡ Some v) same e) in
          subst (λ k. (b : Bool) → IsLowSum problem k b n (of_part v b)) (sym same) (subst (λ (w : Delta Ratio). (b : Bool) → IsLowSum problem l.row b n (of_part w b)) (sym is) c.in-Ok.ensures.is))
          (λ (d : r ≢ l.row). l.invariant.is r v (omega arith) (unwritten_at l.values l.row r c.in-Ok.value v d e))
          (cases_eq r l.row);
      stays = λ i small. ⊎_elim
          (λ (same : i ≡ l.row). subst (λ k. LowStays problem k n) (sym same) c.in-Ok.ensures.stays)
          (λ (d : i ≢ l.row). l.invariant.stays i (omega arith))
          (cases_eq i l.row);
    }

pub returns : goal.returns
returns c =
    let l = c.loop-row in
    let end : l.row ≡ length c.args.problem.now.rows = omega (arith, l.auto.row-end, c.loop-row-test.false, c.requires.values) in
    record {
      count = l.invariant.count;
      is = subst (λ n. HasLowSums c.args.problem.now n l.values) end l.invariant.is;
      stays = subst (λ n. (i : ℕ) → i < n → LowStays c.args.problem.now i (length c.args.problem.now.ranges)) end l.invariant.stays;
      passes = tt;
    }
