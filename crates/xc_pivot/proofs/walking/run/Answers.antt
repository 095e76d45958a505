use Rattle.std.proofs.Common.{◌≡◌, ℕ, suc, ◌+◌, ◌<◌, ◌≤◌, refl, sym, subst, arith, length, ◌⊎◌, inl, inr}
use Rattle.std.proofs.lemmas.Bool.{cases_lt}
use Rattle.xc_corners.specs.Choices.{first_corner, corner_after_exchange, IsReachedBy}
use Rattle.xc_corners.specs.Corners.{Corner}
use Rattle.xc_corners.specs.Operations.{PassesAt}
use Rattle.xc_corners.specs.Problems.{IsWholeProblem}
use Rattle.xc_corners.specs.Tables.{first_factors, factors_after_exchange}
use Rattle.xc_corners.specs.WholeNumbers.{whole_problem}
use Rattle.xc_corners.specs.declared.problem.Problem.{Problem}
use Rattle.xc_frac.specs.declared.wide.Wide.{Wide}
use Rattle.xc_model.proofs.Over.{sign_over}
use Rattle.xc_pivot.specs.CornerLaws.{CornerLaws}
use Rattle.xc_pivot.specs.States.{ArePlaces}
use Rattle.xc_pivot.proofs.Ended.{exchange_of, passes_at, none_at, nothing_at_all, is_last}
use Rattle.xc_pivot.proofs.Exchanges.{helps_some}
use Rattle.xc_pivot.proofs.walking.run.Goals as goal

-- one turn more, and at none before it an operation passes
before_next : CornerLaws → (problem : Problem) → IsWholeProblem (whole_problem problem) → (x : Corner) (n : ℕ) → IsReachedBy (whole_problem problem) n x
    → ((k : ℕ) (y : Corner) (v : Wide) → k < n → IsReachedBy (whole_problem problem) k y → ¬ PassesAt problem y v) → ((v : Wide) → ¬ PassesAt problem x v)
    → (k : ℕ) (y : Corner) (v : Wide) → k < n + 1 → IsReachedBy (whole_problem problem) k y → ¬ PassesAt problem y v
before_next laws problem w x n reached before here k y v h r = go (cases_lt k n)
  where
    go : ((k < n) ⊎ (n ≤ k)) → ¬ PassesAt problem y v
    go (inl less) = before k y v less r
    go (inr more) =
        let e : k ≡ n = omega (arith, h, more) in
        subst (λ z. ¬ PassesAt problem z v) (laws.run (whole_problem problem) n x y w reached (subst (λ m. IsReachedBy (whole_problem problem) m y) e r)) (here v)

pub loop-choice-init : goal.loop-choice-init
loop-choice-init g c = record {
  shaped = c.requires.shaped;
  turn = record {
    corner = first_corner (whole_problem c.args.problem.now);
    factors = first_factors (whole_problem c.args.problem.now);
    at = c.requires.at;
    reached = subst (λ n. IsReachedBy (whole_problem c.args.problem.now) n (first_corner (whole_problem c.args.problem.now))) (sym c.new-turns.ensures) refl;
    before = λ k y w h r. absurd (omega (arith, h, c.new-turns.ensures));
  };
}

pub exchange-requires-clause-chosen : goal.exchange-requires-clause-chosen
exchange-requires-clause-chosen g c =
    let turn = c.loop-choice.invariant.turn in
    let chosen = c.in-Some.ensures.some turn.corner turn.factors turn.at in
    record {
      row = chosen.leaving.row;
      column = chosen.entering.column;
      some = λ f has is_zero. helps_some c.in-Some.choice.leaving.above (turn.corner.high c.in-Some.choice.entering.variable)
          (turn.factors.factor c.in-Some.choice.leaving.variable c.in-Some.choice.entering.variable) chosen.entering.enters.can.helps
          ((sign_over f (turn.factors.factor c.in-Some.choice.leaving.variable c.in-Some.choice.entering.variable) turn.factors.over
          (turn.at.factors c.in-Some.choice.leaving.variable c.in-Some.choice.entering.variable c.in-Some.choice.leaving.row c.in-Some.choice.entering.column f chosen.leaving.row chosen.entering.column has)).zero.0 is_zero);
    }

pub returns-in-Err-clause-some : goal.returns-in-Err-clause-some
returns-in-Err-clause-some g c =
    let turn = c.loop-choice.invariant.turn in
    let chosen = c.in-Some.ensures.some turn.corner turn.factors turn.at in
    record {
      corner = turn.corner;
      placed = subst (λ ps. ArePlaces (length c.args.problem.now.rows) (length c.args.problem.now.ranges) turn.corner ps.items) (sym c.in-Err.ensures.places) turn.at.placed;
      reached = (c.loop-choice.turns, turn.reached);
      passes = passes_at c.args.problem.now (c.problems_are_whole.ensures.whole c.args.problem.now c.requires.problem) turn.corner turn.factors turn.at.solved
          c.loop-choice.state.places.items c.in-Some.choice c.in-Err.wide chosen (c.in-Err.ensures.passes turn.corner turn.factors turn.at chosen);
    }

pub returns-clause-none : goal.returns-clause-none
returns-clause-none g c =
    let problem = c.args.problem.now in
    let w = c.problems_are_whole.ensures.whole problem c.requires.problem in
    let turn = c.loop-choice.invariant.turn in
    let none = c.in_default.ensures.none turn.corner turn.factors turn.at in
    record {
      shaped = c.loop-choice.invariant.shaped;
      corner = turn.corner;
      factors = turn.factors;
      at = turn.at;
      none = none;
      last = is_last problem w turn.corner turn.factors turn.at.solved c.corner_laws.ensures c.requires.fits none c.loop-choice.turns turn.reached;
      nothing = nothing_at_all problem w turn.corner turn.factors turn.at.solved c.corner_laws.ensures c.requires.fits none c.loop-choice.turns turn.reached turn.before;
    }

pub loop-choice-preserved : goal.loop-choice-preserved
loop-choice-preserved g c =
    let problem = c.args.problem.now in
    let w = c.problems_are_whole.ensures.whole problem c.requires.problem in
    let turn = c.loop-choice.invariant.turn in
    let choice = c.in-Some.choice in
    let chosen = c.in-Some.ensures.some turn.corner turn.factors turn.at in
    let next = corner_after_exchange (whole_problem problem) turn.corner choice.leaving.above choice.leaving.variable choice.entering.variable in
    let later : suc c.loop-choice.turns ≡ c.tick.new.self = omega (arith, c.tick.ensures) in
    record {
      shaped = c.in_default-exchange.ensures.shaped;
      turn = record {
        corner = next;
        factors = factors_after_exchange turn.factors choice.leaving.variable choice.entering.variable;
        at = c.in_default-exchange.ensures.at turn.corner turn.factors turn.at chosen;
        reached = subst (λ n. IsReachedBy (whole_problem problem) n next) later
            (c.corner_laws.ensures.on (whole_problem problem) c.loop-choice.turns turn.corner next choice.leaving.variable choice.entering.variable turn.reached
            (exchange_of problem w turn.corner turn.factors turn.at.solved c.loop-choice.state.places.items choice chosen));
        before = λ k y v h r. before_next c.corner_laws.ensures problem w turn.corner c.loop-choice.turns turn.reached turn.before
            (none_at problem w turn.corner turn.factors turn.at.solved c.corner_laws.ensures c.requires.fits c.loop-choice.state.places.items choice chosen (c.in_default-exchange.ensures.fits turn.corner turn.factors turn.at chosen))
            k y v (omega (arith, h, c.tick.ensures)) r;
      };
    }
