use Rattle.std.proofs.Common.{◌≡◌, List, length, sym, ap, subst, ◌∙◌, arith}
use Rattle.std.specs.Vec.{with_items}
use Rattle.std.proofs.lemmas.List.{with_items_is}
use Rattle.xc_lists.proofs.Outcomes.{if_done}
use Rattle.xc_corners.specs.Choices.{first_corner}
use Rattle.xc_corners.specs.Tables.{first_factors}
use Rattle.xc_corners.specs.WholeNumbers.{whole_problem}
use Rattle.xc_frac.specs.declared.delta.Delta.{Delta}
use Rattle.xc_frac.specs.declared.wide.Wide.{Wide}
use Rattle.xc_model.specs.Ratio.{Ratio}
use Rattle.xc_pivot.specs.Firsts.{PassesFirst, HasLowSums}
use Rattle.xc_pivot.specs.States.{IsShaped, IsAt}
use Rattle.xc_pivot.specs.declared.types.State.{State}
use Rattle.xc_pivot.proofs.FirstState.{first_at, first_stays}
use Rattle.xc_pivot.proofs.filling.fill.Goals as goal

pub returns : goal.returns
returns c =
    let s = c.args.state.now in
    let problem = c.args.problem.now in
    let o = c.in_default.ensures in
    let laws = c.problems_are_whole.ensures in
    let lent = c.as_mut_slice.ensures.value in
    let written = c.low_values.new.values in
    let filled : length written ≡ s.values.len = omega (arith, ap (λ (vs : List (Delta Ratio)). length vs) lent, s.values.ok.0, c.low_values.ensures.count) in
    let is = with_items_is s.values written filled in
    let final : State = record { table = c.add_weights.new.table; values = with_items s.values written; places = s.places } in
    let shaped : IsShaped problem final = record {
      filled = o.filled;
      rows = o.rows ∙ c.requires.shaped.rows;
      columns = o.columns ∙ c.requires.shaped.columns;
      values = ap (λ (vs : List (Delta Ratio)). length vs) is ∙ c.low_values.ensures.count ∙ ap (λ (vs : List (Delta Ratio)). length vs) lent ∙ c.requires.shaped.values;
      places = c.requires.shaped.places;
      inside = c.requires.shaped.inside;
    } in
    let r = c.low_values.result in
    record {
      places = λ i. s.places;
      shaped = if_done r _ _ (IsShaped problem final) c.low_values.ensures.is c.low_values.ensures.stays (λ lows stays. shaped);
      at = if_done r _ _ (IsAt problem final (first_corner (whole_problem problem)) (first_factors (whole_problem problem))) c.low_values.ensures.is c.low_values.ensures.stays
          (λ lows stays. first_at problem final shaped c.requires.places (laws.whole problem c.requires.problem) c.solved_forms.ensures.first c.basic_variables.ensures.first laws.factors laws.rows (laws.variables problem).0 (laws.variables problem).1 o.sums
          (subst (λ (vs : List (Delta Ratio)). HasLowSums problem (length problem.rows) vs) (sym is) lows));
      fits = if_done r _ _ ((w : Wide) → ¬ PassesFirst problem w) c.low_values.ensures.is c.low_values.ensures.stays (λ lows stays. first_stays problem o.stays stays);
      passes = c.low_values.ensures.passes;
    }
