-- The exchange leads to the state of the next corner, and no operation of it passes.
use Rattle.std.proofs.Common.{◌≡◌, ◌≢◌, ℕ, Bool, true, false, ℤ, pos, List, length, inl, ⊎_elim, sym, subst, arith}
use Rattle.std.specs.Prelude.{slice_set}
use Rattle.std.proofs.lemmas.Int.{ints}
use Rattle.xc_corners.specs.Choices.{Helps, corner_after_exchange}
use Rattle.xc_corners.specs.Corners.{variables, Corner, Factors}
use Rattle.xc_corners.specs.Laws.{EnteringFactors, LeavingFactors, OtherFactors, EnteringValue, BasicValue, ExchangeMovesTwo, ExchangeSolves, MayExchange, AtExchange}
use Rattle.xc_corners.specs.Operations.{IsBasic, IsOther, IsFactor, StandsInExchange, StandsInStep}
use Rattle.xc_corners.specs.Problems.{IsWholeProblem}
use Rattle.xc_corners.specs.Tables.{factors_after_exchange}
use Rattle.xc_corners.specs.WholeNumbers.{whole_problem}
use Rattle.xc_corners.specs.declared.problem.Problem.{Problem}
use Rattle.xc_frac.specs.declared.delta.Delta.{Delta}
use Rattle.xc_frac.specs.declared.wide.Wide.{Wide}
use Rattle.xc_model.specs.Ratio.{Ratio}
use Rattle.xc_tableau.specs.Exchanges.{IsExchanged, PassesIn}
use Rattle.xc_pivot.specs.States.{HasRow, HasColumn, AreFactors, AreValues, ArePlaces, IsShaped, IsAt, IsChoice}
use Rattle.xc_pivot.specs.Steps.{PassesNext, IsStepOf, IsEnteringMoved, AreMoved, IsAtNext, places_after_exchange}
use Rattle.xc_pivot.specs.declared.types.Choice.{Choice}
use Rattle.xc_pivot.specs.declared.types.Place.{Place}
use Rattle.xc_pivot.specs.declared.types.State.{State}
use Rattle.xc_pivot.proofs.Carried.{into_table, from_table}
use Rattle.xc_pivot.proofs.NextState.{factors_next, values_next}
use Rattle.xc_pivot.proofs.Placed.{row_inside, column_inside}
use Rattle.xc_pivot.proofs.Replaced.{places_next}
use Rattle.xc_pivot.proofs.Stepped.{step_stays}

pub helps_some : (s h : Bool) (f : ℤ) → Helps s h f → f ≢ pos 0
helps_some false false f k e = omega (arith, ints, k, e)
helps_some false true f k e = omega (arith, ints, k, e)
helps_some true false f k e = omega (arith, ints, k, e)
helps_some true true f k e = omega (arith, ints, k, e)

module _ (problem : Problem) (s : State) (x : Corner) (t : Factors) (choice : Choice) (shaped : IsShaped problem s) (at : IsAt problem s x t) (chosen : IsChoice (whole_problem problem) s.places.items x t choice) (vars : length s.places.items ≡ variables (whole_problem problem)) where
  abbrev b : ℕ
  b = choice.leaving.variable

  abbrev q : ℕ
  q = choice.entering.variable

  abbrev hb : HasRow s.places.items b choice.leaving.row
  hb = chosen.leaving.row

  abbrev hq : HasColumn s.places.items q choice.entering.column
  hq = chosen.entering.column

  some : t.factor b q ≢ pos 0
  some = helps_some choice.leaving.above (x.high q) (t.factor b q) chosen.entering.enters.can.helps

  may : MayExchange t b q
  may = record { over = at.solved.positive; some = some }

  exchange_at : IsWholeProblem (whole_problem problem) → AtExchange (whole_problem problem) x t b q
  exchange_at w = record { unit = w.unit; solved = at.solved; some = some; leaving = chosen.leaving.leaves.is_variable; basic = chosen.leaving.leaves.basic; entering = chosen.entering.enters.is_variable; other = chosen.entering.enters.can.other }

  pub next_at : (final : State) (vs : List (Delta Ratio)) (d : Delta Ratio) → IsWholeProblem (whole_problem problem) → ExchangeMovesTwo → ExchangeSolves → EnteringFactors → LeavingFactors → OtherFactors → EnteringValue → BasicValue
      → IsExchanged s.table choice.leaving.row choice.entering.column final.table → final.values.items ≡ slice_set vs choice.leaving.row d → final.places.items ≡ places_after_exchange problem choice s.places.items → length vs ≡ length problem.rows
      → IsEnteringMoved (whole_problem problem) x t choice d → AreMoved (whole_problem problem) x t choice s.places.items (length vs) vs → IsAtNext problem final x t choice
  next_at final vs d w moves solves ef lf of ev bv e is_values is_places count entering rest = record {
    solved = solves (whole_problem problem) x t choice.leaving.above b q at.solved chosen.leaving.leaves.is_variable chosen.entering.enters.is_variable chosen.leaving.leaves.basic chosen.entering.enters.can.other some;
    placed = subst (λ (ps : List Place). ArePlaces (length problem.rows) (length problem.ranges) (corner_after_exchange (whole_problem problem) x choice.leaving.above b q) ps) (sym is_places) (places_next problem (length problem.rows) (length problem.ranges) x s.places.items choice at.placed hb hq moves);
    factors = subst (λ (ps : List Place). AreFactors final.table ps (factors_after_exchange t b q)) (sym is_places)
        (factors_next problem (length problem.rows) (length problem.ranges) x t s.places.items choice at.placed hb hq may s.table at.factors shaped.rows shaped.columns (λ j r h. row_inside problem s j r shaped h) (λ j c h. column_inside problem s j c shaped h) ef lf of final.table e);
    values = subst (λ (ps : List Place). AreValues (whole_problem problem) final.values.items ps (corner_after_exchange (whole_problem problem) x choice.leaving.above b q) (factors_after_exchange t b q)) (sym is_places)
        (subst (λ (us : List (Delta Ratio)). AreValues (whole_problem problem) us (places_after_exchange problem choice s.places.items) (corner_after_exchange (whole_problem problem) x choice.leaving.above b q) (factors_after_exchange t b q)) (sym is_values)
        (values_next problem (length problem.rows) (length problem.ranges) x t s.places.items choice at.placed hb hq may (exchange_at w) ev bv vars vs d (omega (arith, row_inside problem s b choice.leaving.row shaped hb, count)) entering rest));
  }

  pub nothing_passes : (vs : List (Delta Ratio)) (g d : Delta Ratio) → ((w : Wide) → ¬ PassesIn s.table choice.leaving.row choice.entering.column w) → length vs ≡ length problem.rows → IsStepOf (whole_problem problem) x t choice g → IsEnteringMoved (whole_problem problem) x t choice d
      → AreMoved (whole_problem problem) x t choice s.places.items (length vs) vs → (w : Wide) → ¬ PassesNext (whole_problem problem) x t choice w
  nothing_passes vs g d fits count step entering rest w h = ⊎_elim
      (λ (o : StandsInExchange (IsBasic (whole_problem problem) x) (IsOther (whole_problem problem) x) (IsFactor t) b q w). fits w (record {
        stands = into_table (whole_problem problem) (length problem.rows) (length problem.ranges) x t s.table s.places.items at.placed at.factors shaped.filled shaped.rows shaped.columns vars (λ j r h. row_inside problem s j r shaped h) (λ j c h. column_inside problem s j c shaped h) b q choice.leaving.row choice.entering.column hb hq w o;
        passes = h.passes;
      }))
      (λ (o : StandsInStep (whole_problem problem) x t choice.leaving.above b q w). step_stays (whole_problem problem) (length problem.rows) (length problem.ranges) x t s.places.items choice at.placed hb vars (λ j r h. row_inside problem s j r shaped h) vs count g d step entering rest w o h.passes)
      h.stands

  pub table_passes : (w : Wide) → PassesIn s.table choice.leaving.row choice.entering.column w → PassesNext (whole_problem problem) x t choice w
  table_passes w h = record {
    stands = inl (from_table (whole_problem problem) (length problem.rows) (length problem.ranges) x t s.table s.places.items at.placed at.factors shaped.filled shaped.rows shaped.columns vars (λ j r h. row_inside problem s j r shaped h) (λ j c h. column_inside problem s j c shaped h) b q choice.leaving.row choice.entering.column hb hq w h.stands);
    passes = h.passes;
  }
