use Rattle.std.proofs.Common.{inr, arith}
use Rattle.xc_pivot.proofs.choosing.choice.Goals as goal

pub returns-in_default-entering_variable-clause-none : goal.returns-in_default-entering_variable-clause-none
returns-in_default-entering_variable-clause-none c x t at = inr (
  c.in-Some.leaving.above,
  c.in-Some.leaving.variable,
  record {
    leaves = (c.in-Some.ensures.some x t at).leaves;
    none = λ q h can. c.in_default-entering_variable.ensures.none x t at q (omega (arith, h, (c.problems_are_whole.ensures.variables c.args.problem.now).1, c.requires.shaped.places)) can;
  },
)

pub returns-clause-some : goal.returns-clause-some
returns-clause-some c x t at = record { leaving = c.in-Some.ensures.some x t at; entering = c.in-Some-entering_variable.ensures.some x t at }
