-- The first corner has a solved form, and so has each corner of the run.
use Rattle.std.proofs.Common.{◌≡◌, ◌≢◌, [], ℕ, zero, suc, ◌+◌, ◌-◌, ◌<◌, ◌≤◌, Bool, true, false, length, ℤ, pos, ◌*ℤ◌, sym, ap, ◌∙◌, arith}
use Rattle.std.proofs.lemmas.Int.{ints}
use Rattle.std.proofs.lemmas.Bool.{le-leb, lt-leb, leb-true, lt-ltb, and_parts}
use Rattle.xc_corners.specs.Choices.{Helps, Exchange, Exchanges, first_corner, IsReached}
use Rattle.xc_corners.specs.Corners.{variables, AddUp, Corner, Factors, sum_for, IsSolvedForm}
use Rattle.xc_corners.specs.Pairs.{sum_below}
use Rattle.xc_corners.specs.Problems.{WholeProblem, IsWholeProblem, total, row_at}
use Rattle.xc_corners.specs.Tables.{first_factors, factors_after_exchange}
use Rattle.xc_corners.proofs.Pivoting.{exchange_solves}
use Rattle.xc_corners.proofs.Sums.{sum_more, sum_same}
use Rattle.xc_corners.proofs.Totals.{total_by_units}

pub first_basic : (p : WholeProblem) (j : ℕ) → length p.ranges ≤ j → j < variables p → (first_corner p).basic j ≡ true
unfolding first_corner
first_basic p j h k = rw (le-leb _ _ h, lt-ltb _ _ k)

from_first_basic : (p : WholeProblem) (j : ℕ) → (first_corner p).basic j ≡ true → length p.ranges ≤ j
unfolding first_corner
from_first_basic p j e = leb-true _ _ (and_parts _ _ e).0

pub first_other : (p : WholeProblem) (j : ℕ) → j < length p.ranges → (first_corner p).basic j ≡ false
unfolding first_corner
first_other p j h = rw (lt-leb _ _ h)

-- at the first corner a sum goes over the ranges
pub first_sum_below : (p : WholeProblem) (t : Factors) (b : ℕ) (z : ℕ → ℤ) → length p.ranges ≤ b → b < variables p → sum_for p (first_corner p) t b z ≡ sum_below (length p.ranges) (λ j. t.factor b j *ℤ z j)
unfolding sum_for variables
first_sum_below p t b z k l =
    sum_more (length p.ranges) (length p.rows) _ (λ j m o. rw (first_basic p j m (unfold variables in o)))
    ∙ sum_same (length p.ranges) _ (λ j. t.factor b j *ℤ z j) (λ j m. rw (first_other p j m))

first_sum : (p : WholeProblem) → IsWholeProblem p → (b : ℕ) (z : ℕ → ℤ) → length p.ranges ≤ b → b < variables p → sum_for p (first_corner p) (first_factors p) b z ≡ total (row_at p (b - length p.ranges)) z
unfolding first_factors variables
first_sum p h b z k l = first_sum_below p (first_factors p) b z k l ∙ sym (total_by_units (length p.ranges) _ z (h.named _ [] (omega arith)))

pub first_solved : (p : WholeProblem) → IsWholeProblem p → IsSolvedForm p (first_corner p) (first_factors p)
unfolding first_factors AddUp variables
first_solved p h = record {
  positive = h.scale;
  sums = λ z m b k e.
      let l : length p.ranges ≤ b = from_first_basic p b e in
      let back : length p.ranges + (b - length p.ranges) ≡ b = omega arith in
      (rw back at (m (b - length p.ranges) (omega arith))) ∙ sym (first_sum p h b z l k);
  rows = λ z m i k.
      let back : length p.ranges + i - length p.ranges ≡ i = omega arith in
      m (length p.ranges + i) (omega arith) (first_basic p _ (omega arith) (omega arith)) ∙ first_sum p h _ z (omega arith) (omega arith) ∙ ap (λ (n : ℕ). total (row_at p n) z) back;
}

-- ---- the later ones
nonzero_from_helps : (s h : Bool) (f : ℤ) → Helps s h f → f ≢ pos 0
nonzero_from_helps false false f k e = omega (arith, ints, k, e)
nonzero_from_helps false true f k e = omega (arith, ints, k, e)
nonzero_from_helps true false f k e = omega (arith, ints, k, e)
nonzero_from_helps true true f k e = omega (arith, ints, k, e)

pub next_solves : (p : WholeProblem) (x : Corner) (b q : ℕ) (y : Corner) (e : Exchange p x b q y) → IsSolvedForm p y (factors_after_exchange e.factors b q)
next_solves p x b q y e = rw e.next (exchange_solves p x e.factors e.above b q e.leaves.is_variable e.enters.is_variable e.leaves.basic e.enters.can.other (nonzero_from_helps e.above (x.high q) _ e.enters.can.helps) e.solved)

pub solved_after : (p : WholeProblem) (n : ℕ) (x y : Corner) (t : Factors) → IsSolvedForm p x t → Exchanges p n x y → (t : Factors) × IsSolvedForm p y t
solved_after p zero x y t f e = (t, rw (← e) f)
solved_after p (suc n) x y t f (z, b, q, e, es) = solved_after p n z y (factors_after_exchange e.factors b q) (next_solves p x b q z e) es

pub reached_solved : (p : WholeProblem) → IsWholeProblem p → (x : Corner) → IsReached p x → (t : Factors) × IsSolvedForm p x t
reached_solved p h x r = solved_after p r.0 (first_corner p) x (first_factors p) (first_solved p h) r.1
