use Rattle.std.proofs.Common.{◌≡◌, ◌&&◌, false, not, refl, sym, subst, Bool}
use Rattle.xc_corners.specs.Choices.{is_same_pair}
use Rattle.xc_corners.specs.Corners.{low_bound, high_bound}
use Rattle.xc_corners.specs.WholeNumbers.{whole_problem}
use Rattle.xc_pivot.proofs.Beside.{free_is}
use Rattle.xc_pivot.proofs.stepping.is_left_high.Goals as goal

pub returns-then-not-choice : goal.returns-then-not-choice
returns-then-not-choice c =
    let l = c.args.choice.now.leaving in
    let p = whole_problem c.args.problem.now in
    record { is = subst (λ (s : Bool). false ≡ (s && not (is_same_pair (low_bound p l.variable) (high_bound p l.variable)))) (sym c.if-not-choice.true) refl }

pub returns : goal.returns
returns c =
    let l = c.args.choice.now.leaving in
    let p = whole_problem c.args.problem.now in
    let free = free_is c.is_free.result (low_bound p l.variable) (high_bound p l.variable) c.is_free.ensures.free in
    record { is = subst (λ (s : Bool). c.is_free.result ≡ (s && not (is_same_pair (low_bound p l.variable) (high_bound p l.variable)))) (sym c.if-not-choice.false) free }
