use Rattle.std.proofs.Common.{◌≡◌, ◌≢◌, ◌<◌, length, ⊎_elim, refl, sym, subst, arith, ℕ, Some, slice_get}
use Rattle.std.specs.Prelude.{slice_set}
use Rattle.std.proofs.lemmas.Bool.{cases_eq}
use Rattle.std.proofs.lemmas.List.{length-set}
use Rattle.xc_frac.specs.declared.delta.Delta.{Delta}
use Rattle.xc_model.specs.Ratio.{Ratio}
use Rattle.xc_pivot.specs.States.{HasRow}
use Rattle.xc_pivot.specs.Steps.{IsBasicMoved}
use Rattle.xc_pivot.proofs.Placed.{read_at, written_at, unwritten_at}
use Rattle.xc_pivot.proofs.stepping.move_others.Goals as goal

pub returns-in-Err-clause-passes : goal.returns-in-Err-clause-passes
returns-in-Err-clause-passes c p x t places at h each =
    let l = c.loop-row in
    let v = c.index-values-row.result in
    let inside : l.row < length l.values = omega (arith, l.invariant.count) in
    let k = each l.row (omega (arith, l.invariant.count)) in
    let there = l.invariant.kept l.row v (omega arith) (read_at l.values l.values l.row v refl inside c.index-values-row.is) in
    c.in-Err.ensures.passes p x t k.0 (λ other. at k.0 l.row v other k.1 there) h

pub loop-row-preserved : goal.loop-row-preserved
loop-row-preserved c =
    let l = c.loop-row in
    let v = c.index-values-row.result in
    let inside : l.row < length l.values = omega (arith, l.invariant.count) in
    let there = l.invariant.kept l.row v (omega arith) (read_at l.values l.values l.row v refl inside c.index-values-row.is) in
    record {
      count = omega (arith, length-set l.values l.row c.in-Ok.value);
      kept = λ r d h e. l.invariant.kept r d (omega arith) (unwritten_at l.values l.row r c.in-Ok.value d (omega arith) e);
      done = λ p x t places at h k r d small other row e. ⊎_elim
          (λ (same : r ≡ l.row).
          let is : d ≡ c.in-Ok.value = written_at l.values l.row c.in-Ok.value d inside (subst (λ (n : ℕ). slice_get (slice_set l.values l.row c.in-Ok.value) n ≡ Some d) same e) in
          let apart : l.row ≢ c.args.choice.now.leaving.row = subst (λ (n : ℕ). n ≢ c.args.choice.now.leaving.row) same other in
          let here : HasRow places k l.row = subst (λ (n : ℕ). HasRow places k n) same row in
          subst (λ (w : Delta Ratio). IsBasicMoved p x t c.args.choice.now k w) (sym is) (c.in-Ok.ensures.is p x t k apart (at k l.row v apart here there) h))
          (λ (n : r ≢ l.row). l.invariant.done p x t places at h k r d (omega arith) other row (unwritten_at l.values l.row r c.in-Ok.value d n e))
          (cases_eq r l.row);
    }

pub returns-clause-done : goal.returns-clause-done
returns-clause-done c p x t places at h k r d small other row e = c.loop-row.invariant.done p x t places at h k r d (omega arith) other row e
