use Rattle.std.proofs.Common.{rules, ◌≡◌, ◌≢◌, ◌+◌, subst, arith, ⊎_elim, ℕ}
use Rattle.std.proofs.lemmas.Bool.{cases_eq}
use Rattle.xc_corners.specs.Choices.{CanEnter}
use Rattle.xc_corners.specs.WholeNumbers.{whole_problem}
use Rattle.xc_corners.specs.Corners.{Corner, Factors}
use Rattle.xc_corners.specs.declared.problem.Problem.{Problem}
use Rattle.xc_pivot.specs.States.{IsAt, NoneEnters}
use Rattle.xc_pivot.specs.declared.types.Leaving.{Leaving}
use Rattle.xc_pivot.specs.declared.types.State.{State}
use Rattle.xc_pivot.proofs.choosing.entering_variable.Goals as goal

-- one variable more
none_more : (problem : Problem) (s : State) (leaving : Leaving) (n : ℕ) → NoneEnters problem s leaving n → ((x : Corner) (t : Factors) → IsAt problem s x t → ¬ CanEnter (whole_problem problem) x t leaving.above leaving.variable n)
    → NoneEnters problem s leaving (n + 1)
none_more problem s leaving n before here x t at k h can = ⊎_elim
    (λ (e : k ≡ n). here x t at (subst (λ (j : ℕ). CanEnter (whole_problem problem) x t leaving.above leaving.variable j) e can))
    (λ (m : k ≢ n). before x t at k (omega arith) can)
    (cases_eq k n)

pub loop-variable-preserved : goal.loop-variable-preserved
loop-variable-preserved c = record { none = none_more c.args.problem.now c.args.state.now c.args.leaving c.loop-variable.variable c.loop-variable.invariant.none (search (rules, c.in_default.ensures.none)) }

pub returns-clause-none : goal.returns-clause-none
returns-clause-none c x t at q h can = c.loop-variable.invariant.none x t at q (omega (arith, h, c.args.state.now.places.ok.0, c.len-variable-end.ensures, c.loop-variable-test.false)) can
