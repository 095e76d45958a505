use Rattle.std.proofs.Common.{◌≡◌, ℕ, List, ap, subst, arith, length}
use Rattle.xc_interval.specs.declared.interval.Interval.{Interval}
use Rattle.xc_model.specs.Ratio.{Ratio}
use Rattle.xc_corners.specs.WholeNumbers.{whole_problem}
use Rattle.xc_pivot.specs.Quotients.{below_seen, IsLeastOf, SeenStay}
use Rattle.xc_pivot.proofs.quotients.least_quotient.Goals as goal

pub loop-variable-preserved : goal.loop-variable-preserved
loop-variable-preserved c = record {
  is = λ x t at. c.in-Ok.ensures.is x t at (c.loop-variable.invariant.is x t at);
  stays = λ x t at. c.in-Ok.ensures.stays x t at (c.loop-variable.invariant.stays x t at);
}

pub returns-clause-is : goal.returns-clause-is
returns-clause-is c x t at =
    let end : c.loop-variable.variable ≡ length c.args.problem.now.ranges = omega (arith, c.loop-variable.auto.variable-end, c.loop-variable-test.false, ap (λ (rs : List (Interval Ratio)). length rs) c.as_slice.ensures) in
    subst (λ (n : ℕ). IsLeastOf (whole_problem c.args.problem.now) x t (below_seen n) c.loop-variable.least) end (c.loop-variable.invariant.is x t at)

pub returns-clause-stays : goal.returns-clause-stays
returns-clause-stays c x t at =
    let end : c.loop-variable.variable ≡ length c.args.problem.now.ranges = omega (arith, c.loop-variable.auto.variable-end, c.loop-variable-test.false, ap (λ (rs : List (Interval Ratio)). length rs) c.as_slice.ensures) in
    subst (λ (n : ℕ). SeenStay (whole_problem c.args.problem.now) x t (below_seen n)) end (c.loop-variable.invariant.stays x t at)
