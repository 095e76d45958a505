-- Where the values are moved, no operation of the step passes.
use Rattle.std.proofs.Common.{◌≡◌, ◌≢◌, ℕ, ◌<◌, true, List, length, get_or, ◌⊎◌, inl, inr, sym, subst, arith, Some, None, slice_get, ◌≤◌}
use Rattle.std.proofs.lemmas.Option.{slice_get_cases}
use Rattle.xc_model.proofs.Results.{over_one, product_stays, quotient_stays}
use Rattle.xc_corners.specs.Corners.{variables, Corner, Factors}
use Rattle.xc_corners.specs.Operations.{StandsInStep, gap_taken, step_divided, entering_moved, step_times, basic_moved}
use Rattle.xc_corners.specs.Problems.{WholeProblem}
use Rattle.xc_frac.specs.Passes.{Passes}
use Rattle.xc_frac.specs.declared.delta.Delta.{Delta}
use Rattle.xc_frac.specs.declared.wide.Op.TheVariants.{Add, Mul, Div}
use Rattle.xc_frac.specs.declared.wide.Wide.{Wide}
use Rattle.xc_model.specs.Ratio.{Ratio}
use Rattle.xc_pivot.specs.Deltas.{of_part}
use Rattle.xc_pivot.specs.States.{HasRow, ArePlaces}
use Rattle.xc_pivot.specs.Steps.{IsStepOf, IsEnteringMoved, IsBasicMoved, AreMoved}
use Rattle.xc_pivot.specs.declared.types.Choice.{Choice}
use Rattle.xc_pivot.specs.declared.types.Place.{Place}
use Rattle.xc_pivot.proofs.Carried.{row_of}
use Rattle.xc_pivot.proofs.Operands.{gap_one, step_one, move_one}

module _ (p : WholeProblem) (m n : ℕ) (x : Corner) (t : Factors) (places : List Place) (choice : Choice) (a : ArePlaces m n x places) (hb : HasRow places choice.leaving.variable choice.leaving.row) (vars : length places ≡ variables p)
    (row_in : (j r : ℕ) → HasRow places j r → r < m) (values : List (Delta Ratio)) (count : length values ≡ m) (s d : Delta Ratio) (step : IsStepOf p x t choice s) (entering : IsEnteringMoved p x t choice d) (rest : AreMoved p x t choice places (length values) values) where
  abbrev b : ℕ
  b = choice.leaving.variable

  abbrev q : ℕ
  q = choice.entering.variable

  value_there : (r : ℕ) → r < m → (v : Delta Ratio) × (slice_get values r ≡ Some v)
  value_there r h = go (slice_get_cases values r).1
    where
      go : (((v : Delta Ratio) × (r < length values) × (slice_get values r ≡ Some v) × (get_or values r v ≡ v)) ⊎ ((length values ≤ r) × (slice_get values r ≡ None))) → (v : Delta Ratio) × (slice_get values r ≡ Some v)
      go (inl z) = (z.0, z.2)
      go (inr z) = absurd (omega (arith, z.0))

  basic_there : (k : ℕ) → k < variables p → x.basic k ≡ true → k ≢ b → (v : Delta Ratio) × IsBasicMoved p x t choice k v
  basic_there k h basic apart =
      let r = row_of m n x places a k (let inside : k < length places = omega (arith, h, vars) in inside) basic in
      let v = value_there r.0 (row_in k r.0 r.1) in
      (v.0, rest k r.0 v.0 (let inside : r.0 < length values = omega (arith, row_in k r.0 r.1, count) in inside) (λ e. apart (a.one_row k b r.0 r.1 (subst (λ z. HasRow places b z) (sym e) hb))) r.1 v.1)

  pub step_stays : (w : Wide) → StandsInStep p x t choice.leaving.above b q w → ¬ Passes w.op w.left w.right
  step_stays w (gap_taken c f v limit value e) passes = step.stays c f v limit value (subst (λ (u : Wide). Passes u.op u.left u.right) e passes)
  step_stays w (step_divided c g f gap factor e) passes =
      let o = step.step c in
      let here : Passes Div g f = subst (λ (u : Wide). Passes u.op u.left u.right) e passes in
      quotient_stays o.gap o.pivot (of_part s c) o.gives (subst (λ (u : Ratio). Passes Div u o.pivot) (gap_one p x t choice.leaving.above b q c g o.gap gap o.is_gap) (subst (λ (u : Ratio). Passes Div g u) (over_one f o.pivot _ _ factor o.is_pivot) here))
  step_stays w (entering_moved c v r value is_step e) passes =
      let here : Passes Add v r = subst (λ (u : Wide). Passes u.op u.left u.right) e passes in
      entering.stays c (subst (λ (u : Ratio). Passes Add u (of_part entering.step c)) (over_one v (of_part entering.value c) _ _ value (entering.is_value c))
      (subst (λ (u : Ratio). Passes Add v u) (step_one p x t choice.leaving.above b q c r (of_part entering.step c) is_step (entering.is_step c)) here))
  step_stays w (step_times c k f r inside basic apart factor is_step e) passes =
      let moved = basic_there k inside basic apart in
      let o = moved.1.is_move c in
      let here : Passes Mul f r = subst (λ (u : Wide). Passes u.op u.left u.right) e passes in
      product_stays o.factor o.step (of_part moved.1.move c) o.gives (subst (λ (u : Ratio). Passes Mul u o.step) (over_one f o.factor _ _ factor o.is_factor) (subst (λ (u : Ratio). Passes Mul f u) (step_one p x t choice.leaving.above b q c r o.step is_step o.is_step) here))
  step_stays w (basic_moved c k v r inside basic apart value is_move e) passes =
      let moved = basic_there k inside basic apart in
      let here : Passes Add v r = subst (λ (u : Wide). Passes u.op u.left u.right) e passes in
      moved.1.stays c (subst (λ (u : Ratio). Passes Add u (of_part moved.1.move c)) (over_one v (of_part moved.1.value c) _ _ value (moved.1.is_value c))
      (subst (λ (u : Ratio). Passes Add v u) (move_one p x t choice.leaving.above b q c k r (of_part moved.1.move c) is_move (moved.1.is_move c)) here))
