use Rattle.std.proofs.Common.{◌≡◌, List, ap, sym, subst, ◌∙◌, arith, length}
use Rattle.std.proofs.lemmas.List.{with_items_is}
use Rattle.xc_corners.specs.LastOperations.{in_walk}
use Rattle.xc_corners.specs.WholeNumbers.{whole_problem}
use Rattle.xc_interval.specs.declared.interval.Interval.{Interval}
use Rattle.xc_model.specs.Ratio.{Ratio}
use Rattle.xc_pivot.specs.Solving.{IsSolution, IsRefutation}
use Rattle.xc_pivot.proofs.Answered.{conflict_here, nothing_feasible, nothing_conflict, passes_feasible, no_values, no_multipliers, stops_at}
use Rattle.xc_pivot.proofs.solving.solve.Goals as goal

pub returns-in-Some-clause-feasible : goal.returns-in-Some-clause-feasible
returns-in-Some-clause-feasible c = no_values c.too_wide_outcome.result c.walk_to_end.new.state.places.items c.in-Some.wide c.too_wide_outcome.ensures (IsSolution c.args.problem.now)

pub returns-in-Some-clause-infeasible : goal.returns-in-Some-clause-infeasible
returns-in-Some-clause-infeasible c = no_multipliers c.too_wide_outcome.result c.walk_to_end.new.state.places.items c.in-Some.wide c.too_wide_outcome.ensures (IsRefutation c.args.problem.now)

pub returns-in-Some-clause-too_wide : goal.returns-in-Some-clause-too_wide
returns-in-Some-clause-too_wide c =
    let problem = c.args.problem.now in
    let end = c.in-Some.ensures.some in
    stops_at c.too_wide_outcome.result c.walk_to_end.new.state.places.items c.in-Some.wide c.too_wide_outcome.ensures problem (length problem.rows) (length problem.ranges) end.corner end.placed end.reached
    (record { stands = in_walk end.passes.stands; passes = end.passes.passes })

pub returns-in-Some-leaving_variable-clause-infeasible : goal.returns-in-Some-leaving_variable-clause-infeasible
returns-in-Some-leaving_variable-clause-infeasible c =
    let problem = c.args.problem.now in
    let w = c.problems_are_whole.ensures.whole problem c.requires.problem in
    let end = c.in_default.ensures.none in
    let leaving = c.in-Some-leaving_variable.leaving in
    let leaves = (c.in-Some-leaving_variable.ensures.some end.corner end.factors end.at).leaves in
    let conflict = conflict_here c.corner_laws.ensures (whole_problem problem) w end.corner end.factors leaving.above leaving.variable end.at.solved end.none leaves in
    let are = c.in_ok-refutation.ensures end.corner end.factors end.at in
    record {
      contradicts = c.conflicts_contradict.ensures.contradicts problem end.corner end.factors leaving.above leaving.variable c.in_ok-refutation.refutation c.requires.problem (record { solved = end.at.solved; conflict = conflict }) are;
      corner = end.corner;
      reached = end.last.reached;
      factors = end.factors;
      above = leaving.above;
      variable = leaving.variable;
      at = record { solved = end.at.solved; conflict = conflict };
      are = are;
      nothing = nothing_conflict c.corner_laws.ensures problem w end.corner end.factors end.at.solved end.none end.last.reached end.nothing leaving.above leaving.variable conflict;
    }

pub returns-in-Some-put_feasible_values-clause-too_wide : goal.returns-in-Some-put_feasible_values-clause-too_wide
returns-in-Some-put_feasible_values-clause-too_wide c =
    let problem = c.args.problem.now in
    let w = c.problems_are_whole.ensures.whole problem c.requires.problem in
    let end = c.in_default.ensures.none in
    let feasible = c.in_default-leaving_variable.ensures.none end.corner end.factors end.at in
    stops_at c.too_wide_outcome-in-Some-put_feasible_values.result c.walk_to_end.new.state.places.items c.in-Some-put_feasible_values.wide c.too_wide_outcome-in-Some-put_feasible_values.ensures problem (length problem.rows) (length problem.ranges)
    end.corner end.at.placed end.last.reached
    (passes_feasible c.corner_laws.ensures problem w end.corner end.factors end.at.solved end.none end.last.reached end.nothing c.in-Some-put_feasible_values.wide feasible (c.in-Some-put_feasible_values.ensures.some end.corner end.factors end.at))

pub returns-clause-feasible : goal.returns-clause-feasible
returns-clause-feasible c =
    let problem = c.args.problem.now in
    let w = c.problems_are_whole.ensures.whole problem c.requires.problem in
    let end = c.in_default.ensures.none in
    let feasible = c.in_default-leaving_variable.ensures.none end.corner end.factors end.at in
    let done = c.in_default-put_feasible_values.ensures.none end.corner end.factors end.at in
    let written = c.put_feasible_values.new.values in
    let count = ap (λ (rs : List (Interval Ratio)). length rs) c.as_slice.ensures in
    let filled : length written ≡ c.in_ok-values.values.len = omega (arith, done.are.each, (c.problems_are_whole.ensures.variables problem).0, c.in_ok-values.ensures, c.in_ok-values.values.ok.0, count) in
    subst (λ (values : List Ratio). IsSolution problem values) (sym (c.of.ensures ∙ with_items_is c.in_ok-values.values written filled)) (record {
      solves = c.feasible_corners_solve.ensures.solves problem end.corner end.factors done.small c.put_feasible_values.new.values c.requires.problem (record { solved = end.at.solved; feasible = feasible }) done.is_small done.are;
      corner = end.corner;
      reached = end.last.reached;
      factors = end.factors;
      at = record { solved = end.at.solved; feasible = feasible };
      small = done.small;
      is_small = done.is_small;
      are = done.are;
      nothing = nothing_feasible c.corner_laws.ensures problem w end.corner end.factors end.at.solved end.none end.last.reached end.nothing done.small done.is_small done.small_stays done.values_stay;
    })
