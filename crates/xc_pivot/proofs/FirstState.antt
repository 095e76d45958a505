-- The state of the first corner.
use Rattle.std.proofs.Common.{◌≡◌, ℕ, ◌+◌, ◌<◌, ◌≤◌, List, [], length, ◌*◌, ⊎_elim, sym, ap, subst, arith, Some, slice_get}
use Rattle.std.proofs.lemmas.Bool.{cases_lt}
use Rattle.std.proofs.lemmas.List.{get_or_past}
use Rattle.std.proofs.lemmas.Option.{slice_get_within}
use Rattle.xc_model.proofs.Results.{over_one, product_stays}
use Rattle.xc_corners.specs.Choices.{first_corner}
use Rattle.xc_corners.specs.Corners.{variables, value}
use Rattle.xc_corners.specs.Laws.{FirstSolved, FirstAreRows, FirstFactors, FirstRowValues}
use Rattle.xc_corners.specs.Operations.{IsFactor, entries_of, StandsAtFirst, weight_added, low_times, low_added}
use Rattle.xc_corners.specs.Problems.{IsWholeProblem}
use Rattle.xc_corners.specs.Tables.{first_factors}
use Rattle.xc_corners.specs.WholeNumbers.{whole_problem}
use Rattle.xc_corners.specs.declared.problem.Problem.{Problem}
use Rattle.xc_frac.specs.Passes.{Passes}
use Rattle.xc_frac.specs.declared.wide.Op.TheVariants.{Mul}
use Rattle.xc_frac.specs.declared.wide.Wide.{Wide}
use Rattle.xc_model.specs.Ratio.{Ratio}
use Rattle.xc_pivot.specs.Deltas.{of_part, ArePartsOf}
use Rattle.xc_pivot.specs.Firsts.{PassesFirst, HasSums, RowsStay, LowStays, HasLowSums, AreFirstPlaces}
use Rattle.xc_pivot.specs.States.{HasColumn, IsShaped, IsAt}
use Rattle.xc_pivot.proofs.Placed.{column_inside}
use Rattle.xc_pivot.specs.declared.types.State.{State}
use Rattle.xc_pivot.proofs.FirstPlaces.{row_is, column_is, first_inside, first_placed}
use Rattle.xc_pivot.proofs.Summed.{sum_of_one}

module _ (problem : Problem) (s : State) (shaped : IsShaped problem s) (places : AreFirstPlaces (length problem.ranges) s.places.items) where
  pub first_at : IsWholeProblem (whole_problem problem) → FirstSolved → FirstAreRows → FirstFactors → FirstRowValues → (length (whole_problem problem).ranges ≡ length problem.ranges) → (variables (whole_problem problem) ≡ length problem.ranges + length problem.rows)
      → HasSums problem (length problem.rows) s.table → HasLowSums problem (length problem.rows) s.values.items → IsAt problem s (first_corner (whole_problem problem)) (first_factors (whole_problem problem))
  first_at w solved basic ff fv ranges vars sums lows = record {
    solved = solved (whole_problem problem) w;
    placed = first_placed (length problem.ranges) (length problem.rows) s.places.items places shaped.places basic (whole_problem problem) ranges vars;
    factors = λ i j r c f h l has.
        let row = first_inside (length problem.ranges) (length problem.rows) s.places.items places shaped.places in
        let i_is = row_is (length problem.ranges) (length problem.rows) s.places.items places shaped.places i r h in
        let j_is = column_is (length problem.ranges) (length problem.rows) s.places.items places shaped.places j c l in
        let sum = sums r (row i _ h) c f (omega (arith, column_in j c l, shaped.columns)) has in
        subst (λ k. IsFactor (first_factors (whole_problem problem)) k j f) (sym i_is) (subst (λ k. IsFactor (first_factors (whole_problem problem)) (length problem.ranges + r) k f) (sym j_is) (ff problem r c f sum));
    values = λ i r d h e.
        let row = first_inside (length problem.ranges) (length problem.rows) s.places.items places shaped.places i _ h in
        let i_is = row_is (length problem.ranges) (length problem.rows) s.places.items places shaped.places i r h in
        subst (λ k. ArePartsOf ((first_factors (whole_problem problem)).over * (whole_problem problem).unit) (value (whole_problem problem) (first_corner (whole_problem problem)) (first_factors (whole_problem problem)) k) d) (sym i_is) (λ b. fv problem r b (of_part d b) row (lows r d row e b));
  }
    where
      column_in : (j c : ℕ) → HasColumn s.places.items j c → c < length problem.ranges
      column_in j c h = column_inside problem s j c shaped h

pub first_stays : (problem : Problem) → RowsStay problem (length problem.rows) → ((i : ℕ) → i < length problem.rows → LowStays problem i (length problem.ranges)) → (w : Wide) → ¬ PassesFirst problem w
first_stays problem rows lows w h = go h.stands
  where
    row_in : (i k : ℕ) (entry : ℕ × Ratio) → slice_get (entries_of problem i) k ≡ Some entry → i < length problem.rows
    row_in i k entry there = ⊎_elim (λ (l : i < length problem.rows). l)
        (λ (l : length problem.rows ≤ i). absurd (omega (arith, slice_get_within (entries_of problem i) k entry there, ap (λ (es : List (ℕ × Ratio)). length es) (get_or_past problem.rows i [] l))))
        (cases_lt i (length problem.rows))

    go : StandsAtFirst problem w → ⊥
    go (weight_added i k entry s there is_sum e) = rows i (row_in i k entry there) k entry s (slice_get_within (entries_of problem i) k entry there) there is_sum (subst (λ (v : Wide). Passes v.op v.left v.right) e h.passes)
    go (low_times i j c f g hi hj is_f is_g e) =
        let o = ((lows i hi).products j c hj).1 in
        let here : Passes Mul f g = subst (λ (v : Wide). Passes v.op v.left v.right) e h.passes in
        product_stays o.factor o.low ((lows i hi).products j c hj).0 o.gives (subst (λ (u : Ratio). Passes Mul u o.low) (sum_of_one _ f o.factor is_f o.is_factor) (subst (λ (u : Ratio). Passes Mul f u) (over_one g o.low _ _ is_g o.is_low) here))
    go (low_added i j c s m hi hj hs hm e) = (lows i hi).stays j c s m hj hs hm (subst (λ (v : Wide). Passes v.op v.left v.right) e h.passes)
