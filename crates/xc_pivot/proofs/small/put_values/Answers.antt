use Rattle.std.proofs.Common.{◌≡◌, ◌≢◌, Some, slice_get, ⊎_elim, sym, subst, ◌∙◌, arith}
use Rattle.std.specs.Prelude.{slice_set}
use Rattle.std.proofs.lemmas.Bool.{cases_eq}
use Rattle.std.proofs.lemmas.List.{length-set}
use Rattle.std.proofs.lemmas.Option.{slice_get_within}
use Rattle.xc_corners.specs.Ending.{IsValueWith}
use Rattle.xc_corners.specs.WholeNumbers.{whole_problem}
use Rattle.xc_model.specs.Ratio.{Ratio}
use Rattle.xc_pivot.specs.SmallValues.{ValueStays}
use Rattle.xc_pivot.proofs.Placed.{written_at, unwritten_at}
use Rattle.xc_pivot.proofs.small.put_values.Goals as goal

pub returns-in-Err-clause-passes : goal.returns-in-Err-clause-passes
returns-in-Err-clause-passes c x t at = record {
  range = c.loop-variable.variable;
  is_range = omega (arith, c.loop-variable-test.true, c.loop-variable.auto.variable-end, c.loop-variable.invariant.count, c.requires.count, (c.problems_are_whole.ensures.variables c.args.problem.now).0);
  at = c.in-Err.ensures.passes x t at;
}

pub loop-variable-preserved : goal.loop-variable-preserved
loop-variable-preserved c =
    let l = c.loop-variable in
    let p = whole_problem c.args.problem.now in
    record {
      count = omega (arith, length-set l.values l.variable c.in-Ok.value, l.invariant.count);
      are = λ x t at j v small e. ⊎_elim
          (λ (same : j ≡ l.variable).
          let is : v ≡ c.in-Ok.value = written_at l.values l.variable c.in-Ok.value v (omega (arith, c.loop-variable-test.true, l.auto.variable-end, l.invariant.count)) (subst (λ k. slice_get (slice_set l.values l.variable c.in-Ok.value) k ≡ Some v) same e) in
          subst (λ k. IsValueWith p x t c.args.small k v) (sym same) (subst (λ (w : Ratio). IsValueWith p x t c.args.small l.variable w) (sym is) (c.in-Ok.ensures.is x t at)))
          (λ (d : j ≢ l.variable). l.invariant.are x t at j v (omega arith) (unwritten_at l.values l.variable j c.in-Ok.value v d e))
          (cases_eq j l.variable);
      stays = λ x t at j small. ⊎_elim
          (λ (same : j ≡ l.variable). subst (λ k. ValueStays p x t c.args.small k) (sym same) (c.in-Ok.ensures.stays x t at))
          (λ (d : j ≢ l.variable). l.invariant.stays x t at j (omega arith))
          (cases_eq j l.variable);
    }

pub returns-clause-are : goal.returns-clause-are
returns-clause-are c x t at = record {
  each = c.loop-variable.invariant.count ∙ c.requires.count ∙ sym (c.problems_are_whole.ensures.variables c.args.problem.now).0;
  are = λ j v e. c.loop-variable.invariant.are x t at j v (omega (arith, slice_get_within c.loop-variable.values j v e, c.loop-variable.auto.variable-end, c.loop-variable-test.false, c.loop-variable.invariant.count)) e;
}

pub returns-clause-stays : goal.returns-clause-stays
returns-clause-stays c x t at j h = c.loop-variable.invariant.stays x t at j (omega (arith, h, (c.problems_are_whole.ensures.variables c.args.problem.now).0, c.loop-variable.auto.variable-end, c.loop-variable-test.false, c.requires.count))
