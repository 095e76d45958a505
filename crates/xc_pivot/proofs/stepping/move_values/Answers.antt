use Rattle.std.proofs.Common.{◌≡◌, ℕ, List, length, refl, sym, ap, subst, ◌∙◌, arith}
use Rattle.std.specs.Prelude.{OnOk}
use Rattle.std.specs.Vec.{with_items}
use Rattle.xc_pivot.proofs.Placed.{column_inside}
use Rattle.std.proofs.lemmas.List.{with_items_is}
use Rattle.xc_corners.specs.WholeNumbers.{whole_problem}
use Rattle.xc_frac.specs.declared.delta.Delta.{Delta}
use Rattle.xc_model.specs.Ratio.{Ratio}
use Rattle.xc_pivot.specs.Steps.{AreBasicAt, AreMoved}
use Rattle.xc_pivot.proofs.Carried.{basic_values}
use Rattle.xc_pivot.proofs.stepping.move_values.Goals as goal

pub returns : goal.returns
returns c =
    let s = c.args.state.now in
    let choice = c.args.choice.now in
    let p = whole_problem c.args.problem.now in
    let lent = c.as_mut_slice.ensures.value in
    let written = c.move_others.new.values in
    let filled : length written ≡ s.values.len = omega (arith, ap (λ (vs : List (Delta Ratio)). length vs) lent, s.values.ok.0, c.move_others.ensures.count) in
    let is = with_items_is s.values written filled in
    record {
      table = refl;
      places = refl;
      count = ap (λ (vs : List (Delta Ratio)). length vs) is ∙ c.move_others.ensures.count ∙ ap (λ (vs : List (Delta Ratio)). length vs) lent;
      done = λ x t at h.
          let basic = subst (λ (vs : List (Delta Ratio)). AreBasicAt p x t choice s.table s.places.items vs) (sym lent) (basic_values c.args.problem.now s x t choice at c.requires.chosen.row c.requires.chosen.column (c.requires.shaped.places ∙ sym (c.problems_are_whole.ensures.variables c.args.problem.now).1)) in
          subst (λ (n : ℕ). OnOk c.move_others.result (AreMoved p x t choice s.places.items n (with_items s.values written).items)) (ap (λ (vs : List (Delta Ratio)). length vs) lent)
          (subst (λ (vs : List (Delta Ratio)). OnOk c.move_others.result (AreMoved p x t choice s.places.items (length c.as_mut_slice.result.now) vs)) (sym is) (c.move_others.ensures.done p x t s.places.items basic h));
      passes = λ x t at h.
          let basic = subst (λ (vs : List (Delta Ratio)). AreBasicAt p x t choice s.table s.places.items vs) (sym lent) (basic_values c.args.problem.now s x t choice at c.requires.chosen.row c.requires.chosen.column (c.requires.shaped.places ∙ sym (c.problems_are_whole.ensures.variables c.args.problem.now).1)) in
          c.move_others.ensures.passes p x t s.places.items basic h (λ r inside. at.placed.each_row r (omega (arith, ap (λ (vs : List (Delta Ratio)). length vs) lent, c.requires.shaped.values)));
    }

pub move_others-requires-clause-column : goal.move_others-requires-clause-column
move_others-requires-clause-column c = omega (arith, column_inside c.args.problem.now c.args.state.now c.args.choice.now.entering.variable c.args.choice.now.entering.column c.requires.shaped c.requires.chosen.column, c.requires.shaped.columns)
