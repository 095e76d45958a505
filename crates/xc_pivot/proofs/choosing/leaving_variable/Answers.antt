use Rattle.std.proofs.Common.{◌≡◌, ◌≢◌, sym, subst, true, arith, ⊎_elim, ℕ}
use Rattle.std.proofs.lemmas.Bool.{cases_eq}
use Rattle.xc_corners.specs.Corners.{IsWithin}
use Rattle.xc_corners.specs.WholeNumbers.{whole_problem}
use Rattle.xc_pivot.proofs.choosing.leaving_variable.Goals as goal

pub loop-variable-preserved : goal.loop-variable-preserved
loop-variable-preserved c = record {
  within = λ x t at k h basic. ⊎_elim
      (λ (e : k ≡ c.loop-variable.variable). subst (λ (j : ℕ). IsWithin (whole_problem c.args.problem.now) x t j) (sym e) (c.in_default.ensures.none x t at (subst (λ (j : ℕ). x.basic j ≡ true) e basic)))
      (λ (n : k ≢ c.loop-variable.variable). c.loop-variable.invariant.within x t at k (omega arith) basic)
      (cases_eq k c.loop-variable.variable);
}

pub returns-clause-none : goal.returns-clause-none
returns-clause-none c x t at = record {
  within = λ j h basic. c.loop-variable.invariant.within x t at j (omega (arith, h, (c.problems_are_whole.ensures.variables c.args.problem.now).1, c.requires.shaped.places, c.args.state.now.places.ok.0, c.len-variable-end.ensures, c.loop-variable-test.false)) basic;
}
