-- At a feasible corner the values with the small number solve the problem.
use Rattle.std.proofs.Common.{◌≡◌, ℕ, zero, suc, ◌+◌, ◌*◌, ◌<◌, Bool, true, false, ℤ, pos, neg_ℤ, ◌+ℤ◌, ◌*ℤ◌, ◌≤ℤ◌, ◌<ℤ◌, List, [], ◌∷◌, length, Option, Some, slice_get, ◌⊎◌, inl, inr, refl, sym, ap, ap₂, subst, ◌∙◌, arith}
use Rattle.std.specs.Prelude.{unsigned_abs}
use Rattle.std.specs.Option.{option_map_or}
use Rattle.std.proofs.lemmas.Int.{ints, by_lt_z}
use Rattle.std.proofs.lemmas.List.Elements.{recursion_from_All}
use Rattle.std.proofs.lemmas.Option.{slice_get_within}
use Rattle.std.proofs.Math.Nat.{mul-pos}
use Rattle.xc_interval.specs.Ends.{value_of, is_open, end_at}
use Rattle.xc_interval.specs.Intervals.{numbers_of, HasNumber, IsPast, IsBefore}
use Rattle.xc_interval.specs.declared.ends.End.{End}
use Rattle.xc_interval.specs.declared.ends.End.TheVariants.{Closed, Open}
use Rattle.xc_interval.specs.declared.interval.Interval.{Interval}
use Rattle.xc_model.specs.Fraction.{Fraction, SameNumber, IsBelow, IsNumberOver, whole as whole_number}
use Rattle.xc_model.specs.Parts.{WholeParts}
use Rattle.xc_model.specs.Ratio.{Ratio, fraction_of, IsOver}
use Rattle.xc_model.proofs.Integers.{ring, scale_lt, scale_le, mul_positive}
use Rattle.xc_model.proofs.Numbers.{den_positive}
use Rattle.xc_model.proofs.NumbersOver.{over_number, number_over}
use Rattle.xc_model.proofs.OrdersOver.{below_over, at_most_over}
use Rattle.xc_model.proofs.Rescaled.{over_scaled}
use Rattle.xc_model.proofs.Pairs.{same_pairs}
use Rattle.xc_corners.specs.Answers.{sum_over_lines, value_at, Solves}
use Rattle.xc_corners.specs.Corners.{variables, low_bound, high_bound, AddUp, Corner, Factors, bound, value, IsWithin}
use Rattle.xc_corners.specs.Ending.{IsSmallNumber, IsValueWith, AreValuesWith}
use Rattle.xc_corners.specs.LastOperations.{IsFeasibleAt}
use Rattle.xc_corners.specs.Operations.{entries_of}
use Rattle.xc_corners.specs.Pairs.{◌≼◌, times, zero_pair}
use Rattle.xc_corners.specs.Problems.{IsWholeProblem, IsProblem, low_pair, high_pair, row_at, total}
use Rattle.xc_corners.specs.WholeNumbers.{whole_problem, product_of_denominators, times_common, ends_of, weights_of}
use Rattle.xc_corners.specs.declared.problem.Problem.{Problem}
use Rattle.xc_corners.proofs.Bounds.{end_bounds, range_whole}
use Rattle.xc_corners.proofs.CommonDenominators.{weights_divide, common_positive}
use Rattle.xc_corners.proofs.Contradicted.{zero_num}
use Rattle.xc_corners.proofs.ExchangeNumbers.{sum_gives, product_gives}
use Rattle.xc_corners.proofs.FirstNumbers.{row_whole, ranges_whole, rows_whole, unit_positive}
use Rattle.xc_corners.proofs.Moves.{open_from_problem}
use Rattle.xc_corners.proofs.Pairs.{antisymmetric}
use Rattle.xc_corners.proofs.Refuted.{low_past, high_past}
use Rattle.xc_corners.proofs.SmallNumbers.{itself, small_below, small_is_positive}
use Rattle.xc_corners.proofs.Totals.{total_same, total_plus, total_scale_right}
use Rattle.xc_corners.proofs.Values.{spread_meets, other_within}
use Rattle.xc_corners.proofs.WholeProblems.{whole_too}
use Rattle.xc_corners.proofs.Weighed.{row_over}

-- a is less than b, or at most where that is allowed
abbrev IsLess : Bool → ℤ → ℤ → Type 0
IsLess true a b = a <ℤ b
IsLess false a b = a ≤ℤ b

from_lt : (o : Bool) (a b : ℤ) → a <ℤ b → IsLess o a b
from_lt true a b h = h
from_lt false a b h = omega (arith, ints)

not_negative : (o : Bool) (f : ℤ) → IsLess o (pos 0) f → pos 0 ≤ℤ f
not_negative true f h = omega (arith, ints)
not_negative false f h = h

-- ---- one bound: e and f are its parts, r and s those of the value, n / m the small number
above_low : (o : Bool) (n m e f r s : ℤ) → pos 0 <ℤ n → pos 0 <ℤ m → IsLess o (pos 0) f → (e <ℤ r) ⊎ ((e ≡ r) × (f ≤ℤ s)) → (e <ℤ r → s <ℤ f → (n *ℤ (f +ℤ neg_ℤ s)) <ℤ (m *ℤ (r +ℤ neg_ℤ e)))
    → IsLess o (m *ℤ e) (m *ℤ r +ℤ n *ℤ s)
above_low true n m e f r s hn hm hf (inr k) q = omega (arith, ints, ap (λ (v : ℤ). m *ℤ v) k.0, mul_positive n s hn (omega (arith, ints, k.1, hf)))
above_low false n m e f r s hn hm hf (inr k) q = omega (arith, ints, ap (λ (v : ℤ). m *ℤ v) k.0, scale_le n (pos 0) s (omega (arith, ints)) (omega (arith, ints, k.1, hf)))
above_low o n m e f r s hn hm hf (inl k) q = from_lt o _ _ (by_lt_z s f near far)
  where
    near : s <ℤ f → (m *ℤ e) <ℤ (m *ℤ r +ℤ n *ℤ s)
    near l =
        let i = q k l in
        let j : (n *ℤ pos 0) ≤ℤ (n *ℤ f) = scale_le n (pos 0) f (omega (arith, ints)) (not_negative o f hf) in
        omega (arith, ints, simp ring at i, j)

    far : f ≤ℤ s → (m *ℤ e) <ℤ (m *ℤ r +ℤ n *ℤ s)
    far l = omega (arith, ints, scale_lt m e r hm k, scale_le n (pos 0) s (omega (arith, ints)) (omega (arith, ints, not_negative o f hf, l)))

turn_less : (o : Bool) (a b : ℤ) → IsLess o (neg_ℤ a) (neg_ℤ b) → IsLess o b a
turn_less true a b h = omega (arith, ints)
turn_less false a b h = omega (arith, ints)

turn_less_zero : (o : Bool) (f : ℤ) → IsLess o f (pos 0) → IsLess o (pos 0) (neg_ℤ f)
turn_less_zero true f h = omega (arith, ints)
turn_less_zero false f h = omega (arith, ints)

below_high : (o : Bool) (n m e f r s : ℤ) → pos 0 <ℤ n → pos 0 <ℤ m → IsLess o f (pos 0) → (r <ℤ e) ⊎ ((r ≡ e) × (s ≤ℤ f)) → (r <ℤ e → f <ℤ s → (n *ℤ (s +ℤ neg_ℤ f)) <ℤ (m *ℤ (e +ℤ neg_ℤ r)))
    → IsLess o (m *ℤ r +ℤ n *ℤ s) (m *ℤ e)
below_high o n m e f r s hn hm hf k q = turn_less o (m *ℤ e) (m *ℤ r +ℤ n *ℤ s)
    (subst (λ (v : ℤ). IsLess o (neg_ℤ (m *ℤ e)) v) (simp ring (omega (arith, ints))) (subst (λ (v : ℤ). IsLess o v (m *ℤ neg_ℤ r +ℤ n *ℤ neg_ℤ s)) (simp ring)
    (above_low o n m (neg_ℤ e) (neg_ℤ f) (neg_ℤ r) (neg_ℤ s) hn hm (turn_less_zero o f hf) (turned k)
    (λ hr hs. subst (λ (v : ℤ). (n *ℤ v) <ℤ (m *ℤ (neg_ℤ r +ℤ neg_ℤ (neg_ℤ e)))) (swapped s f) (subst (λ (v : ℤ). (n *ℤ (s +ℤ neg_ℤ f)) <ℤ (m *ℤ v)) (swapped e r) (q (omega (arith, ints, hr)) (omega (arith, ints, hs))))))))
  where
    swapped : (a b : ℤ) → a +ℤ neg_ℤ b ≡ neg_ℤ b +ℤ neg_ℤ (neg_ℤ a)
    swapped a b = omega (arith, ints)

    turned : (r <ℤ e) ⊎ ((r ≡ e) × (s ≤ℤ f)) → (neg_ℤ e <ℤ neg_ℤ r) ⊎ ((neg_ℤ e ≡ neg_ℤ r) × (neg_ℤ f ≤ℤ neg_ℤ s))
    turned (inl h) = inl (omega (arith, ints))
    turned (inr h) = inr (omega (arith, ints, h.0), omega (arith, ints, h.1))

-- ---- what that says of fractions
past_end : (e : End Ratio) (v : Fraction) (n m : ℤ) (d : ℕ) → IsNumberOver (fraction_of (value_of e)) n d → IsNumberOver v m d → IsLess (is_open e) n m → IsPast IsBelow SameNumber (end_at (λ f. fraction_of f) e) v
past_end (Closed e) v n m d h k l = at_most_over (fraction_of e) v n m d h k l
past_end (Open e) v n m d h k l = below_over (fraction_of e) v n m d h k l

before_end : (e : End Ratio) (v : Fraction) (n m : ℤ) (d : ℕ) → IsNumberOver (fraction_of (value_of e)) n d → IsNumberOver v m d → IsLess (is_open e) m n → IsBefore IsBelow SameNumber (end_at (λ f. fraction_of f) e) v
before_end (Closed e) v n m d h k l = at_most_over v (fraction_of e) m n d k h l
before_end (Open e) v n m d h k l = below_over v (fraction_of e) m n d k h l

-- the tiny parts of ends, times a positive number
open_low : (w d : ℕ) (e : End Ratio) → 0 < w → 0 < d → IsLess (is_open e) (pos 0) (pos w *ℤ (low_pair d (end_at (times_common d) e)).tiny)
open_low w d (Closed e) p q = omega (arith, ints)
open_low w d (Open e) p q = mul_positive (pos w) (pos d) (omega (arith, ints)) (omega (arith, ints))

open_high : (w d : ℕ) (e : End Ratio) → 0 < w → 0 < d → IsLess (is_open e) (pos w *ℤ (high_pair d (end_at (times_common d) e)).tiny) (pos 0)
open_high w d (Closed e) p q = omega (arith, ints)
open_high w d (Open e) p q = negative (pos w) (pos d) (mul_positive (pos w) (pos d) (omega (arith, ints)) (omega (arith, ints)))
  where
    negative : (a b : ℤ) → pos 0 <ℤ (a *ℤ b) → (a *ℤ neg_ℤ b) <ℤ pos 0
    negative a b h = let e : a *ℤ neg_ℤ b ≡ neg_ℤ (a *ℤ b) = simp ring in omega (arith, ints, e, h)

value_cross : (t n d m : ℤ) → (n *ℤ t) *ℤ (d *ℤ m) ≡ (t *ℤ n) *ℤ (m *ℤ d)
value_cross t n d m = simp ring

module _ (problem : Problem) (h : IsProblem problem) (x : Corner) (t : Factors) (at : IsFeasibleAt problem x t) (s : Ratio) (small : IsSmallNumber (whole_problem problem) x t s) where
  is_whole : IsWholeProblem (whole_problem problem)
  is_whole = whole_too problem h

  abbrev over_all : ℕ
  over_all = unsigned_abs s.den * (t.over * (whole_problem problem).unit)

  n_positive : pos 0 <ℤ s.num
  n_positive = small_is_positive (whole_problem problem) x t at.solved s small

  -- the value of a variable, over that
  abbrev at_value : ℕ → ℤ
  at_value j = pos (unsigned_abs s.den) *ℤ (value (whole_problem problem) x t j).real +ℤ s.num *ℤ (value (whole_problem problem) x t j).tiny

  within_at : (j : ℕ) → j < variables (whole_problem problem) → IsWithin (whole_problem problem) x t j
  within_at j l = go (x.basic j) refl
    where
      go : (b : Bool) → x.basic j ≡ b → IsWithin (whole_problem problem) x t j
      go true e = at.feasible.within j l e
      go false e = other_within (whole_problem problem) x t j (open_from_problem (whole_problem problem) is_whole) e

  is_variable : (j : ℕ) → j < length (whole_problem problem).ranges → j < variables (whole_problem problem)
  unfolding variables
  is_variable j l = omega (arith, l)

  value_over : (j : ℕ) (v : Ratio) → IsValueWith (whole_problem problem) x t s j v → IsOver v (at_value j) over_all
  value_over j v is =
      let m = unsigned_abs s.den in
      let d = t.over * (whole_problem problem).unit in
      let real = over_scaled is.real _ d m (fraction_of s).positive is.is_real in
      let own : IsOver s s.num m = number_over s s.num m (itself s) in
      let product = product_gives is.is_product.tiny s is.product (value (whole_problem problem) x t j).tiny s.num (s.num *ℤ (value (whole_problem problem) x t j).tiny) d m (m * d) is.is_product.is_tiny own (record { positive = mul-pos (fraction_of s).positive is.is_real.positive; cross = value_cross (value (whole_problem problem) x t j).tiny s.num (pos d) (pos m) }) is.is_product.gives in
      sum_gives is.real is.product v _ _ (m * d) real product is.gives

  -- a bound, over that
  bound_over : (f : Ratio) (n : ℤ) → IsOver f n (whole_problem problem).unit → IsOver f (pos (unsigned_abs s.den) *ℤ (pos t.over *ℤ n)) over_all
  bound_over f n o = over_scaled f _ (t.over * (whole_problem problem).unit) (unsigned_abs s.den) (fraction_of s).positive (over_scaled f n (whole_problem problem).unit t.over at.solved.positive o)

  low_open : (j : ℕ) (range : Interval Ratio) → slice_get problem.ranges j ≡ Some range → IsLess (is_open range.low) (pos 0) (pos t.over *ℤ (low_bound (whole_problem problem) j).tiny)
  unfolding low_bound whole_problem
  low_open j range e = subst (λ (r : Interval ℤ). IsLess (is_open range.low) (pos 0) (pos t.over *ℤ (low_pair (product_of_denominators (ends_of problem.ranges)) r.low).tiny)) (sym (range_whole problem j range e))
      (open_low t.over (product_of_denominators (ends_of problem.ranges)) range.low at.solved.positive (common_positive (ends_of problem.ranges)))

  high_open : (j : ℕ) (range : Interval Ratio) → slice_get problem.ranges j ≡ Some range → IsLess (is_open range.high) (pos t.over *ℤ (high_bound (whole_problem problem) j).tiny) (pos 0)
  unfolding high_bound whole_problem
  high_open j range e = subst (λ (r : Interval ℤ). IsLess (is_open range.high) (pos t.over *ℤ (high_pair (product_of_denominators (ends_of problem.ranges)) r.high).tiny) (pos 0)) (sym (range_whole problem j range e))
      (open_high t.over (product_of_denominators (ends_of problem.ranges)) range.high at.solved.positive (common_positive (ends_of problem.ranges)))

  has_number : (j : ℕ) (range : Interval Ratio) (v : Ratio) → j < length (whole_problem problem).ranges → slice_get problem.ranges j ≡ Some range → IsOver v (at_value j) over_all → HasNumber (numbers_of range) (fraction_of v)
  has_number j range v l e o =
      let ends = end_bounds problem j range (value_of range.low) e in
      let within = within_at j (is_variable j l) in
      let m = pos (unsigned_abs s.den) in
      let m_positive : pos 0 <ℤ m = den_positive (fraction_of s) in
      record {
        low = past_end range.low (fraction_of v) _ _ over_all (over_number _ _ _ (bound_over _ _ ends.low_real)) (over_number v _ _ o)
            (above_low (is_open range.low) s.num m (pos t.over *ℤ (low_bound (whole_problem problem) j).real) (pos t.over *ℤ (low_bound (whole_problem problem) j).tiny) (value (whole_problem problem) x t j).real (value (whole_problem problem) x t j).tiny
            n_positive m_positive (low_open j range e) within.0 (λ k i. small_below (whole_problem problem) x t at.solved s small false j l (k, i)));
        high = before_end range.high (fraction_of v) _ _ over_all (over_number _ _ _ (bound_over _ _ ends.high_real)) (over_number v _ _ o)
            (below_high (is_open range.high) s.num m (pos t.over *ℤ (high_bound (whole_problem problem) j).real) (pos t.over *ℤ (high_bound (whole_problem problem) j).tiny) (value (whole_problem problem) x t j).real (value (whole_problem problem) x t j).tiny
            n_positive m_positive (high_open j range e) within.1 (λ k i. small_below (whole_problem problem) x t at.solved s small true j l (k, i)));
      }

  -- ---- the rows
  no_times : (d : ℕ) → times (pos d) zero_pair ≡ zero_pair
  no_times d = same_pairs _ _ (omega (arith, ints)) (omega (arith, ints))

  row_is_variable : (i : ℕ) → i < length (whole_problem problem).rows → length (whole_problem problem).ranges + i < variables (whole_problem problem)
  unfolding variables
  row_is_variable i l = omega (arith, l)

  row_value : (i : ℕ) → i < length (whole_problem problem).rows → value (whole_problem problem) x t (length (whole_problem problem).ranges + i) ≡ zero_pair
  row_value i l =
      let j = length (whole_problem problem).ranges + i in
      let within = within_at j (row_is_variable i l) in
      let low : times (pos t.over) (low_bound (whole_problem problem) j) ≡ zero_pair = ap (times (pos t.over)) (low_past (whole_problem problem) j (omega arith)) ∙ no_times t.over in
      let high : times (pos t.over) (high_bound (whole_problem problem) j) ≡ zero_pair = ap (times (pos t.over)) (high_past (whole_problem problem) j (omega arith)) ∙ no_times t.over in
      antisymmetric _ _ (subst (λ (c : WholeParts). value (whole_problem problem) x t j ≼ c) high within.1) (subst (λ (c : WholeParts). c ≼ value (whole_problem problem) x t j) low within.0)

  from_zero : (c : ℕ) (u v : ℤ) → pos c *ℤ u ≡ v → u ≡ pos 0 → v ≡ pos 0
  from_zero c u v e g = sym e ∙ rw g (omega (arith, ints))

  -- the real parts add up to 0, and the tiny ones too
  part_zero : (i : ℕ) → i < length (whole_problem problem).rows → (total (row_at (whole_problem problem) i) (λ j. (value (whole_problem problem) x t j).real) ≡ pos 0) × (total (row_at (whole_problem problem) i) (λ j. (value (whole_problem problem) x t j).tiny) ≡ pos 0)
  unfolding value AddUp
  part_zero i l =
      let real = spread_meets (whole_problem problem) x t (λ k. (bound (whole_problem problem) x k).real) at.solved i l in
      let tiny = spread_meets (whole_problem problem) x t (λ k. (bound (whole_problem problem) x k).tiny) at.solved i l in
      (from_zero (whole_problem problem).scale _ _ real (ap (λ (c : WholeParts). c.real) (row_value i l)), from_zero (whole_problem problem).scale _ _ tiny (ap (λ (c : WholeParts). c.tiny) (row_value i l)))

  row_zero : (i : ℕ) → i < length (whole_problem problem).rows → total (row_at (whole_problem problem) i) at_value ≡ pos 0
  row_zero i l =
      let both = part_zero i l in
      total_plus (row_at (whole_problem problem) i) (λ j. pos (unsigned_abs s.den) *ℤ (value (whole_problem problem) x t j).real) (λ j. s.num *ℤ (value (whole_problem problem) x t j).tiny)
      ∙ ap₂ ◌+ℤ◌ (scaled (pos (unsigned_abs s.den)) (λ j. (value (whole_problem problem) x t j).real) both.0) (scaled s.num (λ j. (value (whole_problem problem) x t j).tiny) both.1)
    where
      turned : (a b : ℤ) → a *ℤ b ≡ b *ℤ a
      turned a b = simp ring

      scaled : (c : ℤ) (f : ℕ → ℤ) → total (row_at (whole_problem problem) i) f ≡ pos 0 → total (row_at (whole_problem problem) i) (λ j. c *ℤ f j) ≡ pos 0
      scaled c f e = total_same (row_at (whole_problem problem) i) (λ j. c *ℤ f j) (λ j. f j *ℤ c) (λ k d q. turned c (f _)) ∙ sym (total_scale_right (row_at (whole_problem problem) i) f c) ∙ ap (λ z. z *ℤ c) e ∙ omega (arith, ints)

  module _ (values : List Ratio) (are : AreValuesWith (whole_problem problem) x t s values) where
    value_there : (values : List Ratio) (j : ℕ) → j < length values → (v : Ratio) × (slice_get values j ≡ Some v)
    value_there [] j l = absurd (omega (arith, l))
    value_there (v ∷ values) zero l = (v, refl)
    value_there (v ∷ values) (suc j) l = value_there values j (omega (arith, l))

    number_over_all : (j : ℕ) → j < length problem.ranges → (v : Ratio) × (value_at values j ≡ fraction_of v) × IsOver v (at_value j) over_all
    number_over_all j l =
        let there = value_there values j (omega (arith, l, are.each, ranges_whole problem)) in
        (there.0, ap (λ (o : Option Ratio). option_map_or (λ value. fraction_of value) o (whole_number (pos 0))) there.1, value_over j there.0 (are.are j there.0 there.1))

    value_at_over : (j : ℕ) → j < length problem.ranges → IsNumberOver (value_at values j) (at_value j) over_all
    value_at_over j l = let there = number_over_all j l in subst (λ (z : Fraction). IsNumberOver z (at_value j) over_all) (sym there.1) (over_number _ _ _ there.2)

    range_within : (j : ℕ) (range : Interval Ratio) → slice_get problem.ranges j ≡ Some range → HasNumber (numbers_of range) (value_at values j)
    range_within j range e =
        let l : j < length problem.ranges = slice_get_within problem.ranges j range e in
        let there = number_over_all j l in
        subst (λ (z : Fraction). HasNumber (numbers_of range) z) (sym there.1) (has_number j range there.0 (subst (λ (k : ℕ). j < k) (sym (ranges_whole problem)) l) e there.2)

    row_met : (i : ℕ) → i < length problem.rows → (sum_over_lines (entries_of problem i) (value_at values)).num ≡ pos 0
    unfolding whole_problem
    row_met i l =
        let d = product_of_denominators (weights_of problem.rows) in
        let entries = entries_of problem i in
        let sums = row_over d (value_at values) at_value over_all entries (common_positive (weights_of problem.rows)) all_positive (weights_divide problem.rows i)
        (recursion_from_All (λ (entry : ℕ × Ratio). IsNumberOver (value_at values entry.0) (at_value entry.0) over_all) entries (λ k none q. value_at_over _ (h.named i [] l k none q))) in
        zero_num _ _ _ sums (ap (λ (row : List (ℕ × ℤ)). total row at_value) (sym (row_whole problem i)) ∙ row_zero i (subst (λ (k : ℕ). i < k) (sym (rows_whole problem)) l))
      where
        all_positive : 0 < over_all
        all_positive = mul-pos (fraction_of s).positive (mul-pos at.solved.positive (unit_positive problem))

    pub values_solve : Solves problem values
    values_solve = record { each = are.each ∙ ranges_whole problem; within = range_within; met = row_met }
