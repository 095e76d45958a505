use Rattle.std.proofs.Common.{ℕ, ◌+◌, true, List, sym, subst, length}
use Rattle.xc_corners.specs.Conflicts.{opposite_if, multiplier, IsNonzero, IsPositive, AreLinesOf}
use Rattle.xc_corners.specs.WholeNumbers.{whole_problem}
use Rattle.xc_model.specs.Ratio.{Ratio}
use Rattle.xc_pivot.proofs.refuting.multipliers.Goals as goal

pub returns : goal.returns
returns c x t at =
    let problem = c.args.problem.now in
    let count = c.problems_are_whole.ensures.variables problem in
    let m = multiplier x t c.args.leaving.above c.args.leaving.variable in
    record {
      rows = subst (λ (lines : List (ℕ × Ratio)). AreLinesOf (length (whole_problem problem).rows) (λ i. m (length (whole_problem problem).ranges + i)) IsNonzero t.over lines) (sym c.of.ensures)
          (subst (λ (n : ℕ). AreLinesOf n (λ i. m (length (whole_problem problem).ranges + i)) IsNonzero t.over c.in_ok-rows.rows.items) (sym count.2)
          (subst (λ (n : ℕ). AreLinesOf (length problem.rows) (λ i. m (n + i)) IsNonzero t.over c.in_ok-rows.rows.items) (sym count.0) (c.in_ok-rows.ensures x t at)));
      lows = subst (λ (lines : List (ℕ × Ratio)). AreLinesOf (length (whole_problem problem).ranges) (λ j. m j) IsPositive t.over lines) (sym c.of-2.ensures)
          (subst (λ (n : ℕ). AreLinesOf n (λ j. m j) IsPositive t.over c.in_ok-lows.lows.items) (sym count.0) (c.in_ok-lows.ensures x t at));
      highs = subst (λ (lines : List (ℕ × Ratio)). AreLinesOf (length (whole_problem problem).ranges) (λ j. opposite_if true (m j)) IsPositive t.over lines) (sym c.of-3.ensures)
          (subst (λ (n : ℕ). AreLinesOf n (λ j. opposite_if true (m j)) IsPositive t.over c.in_ok-highs.highs.items) (sym count.0) (c.in_ok-highs.ensures x t at));
    }
