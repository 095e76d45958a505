-- Counts that refute a problem, listed as multipliers, contradict it.
use Rattle.std.proofs.Common.{◌≡◌, ℕ, zero, suc, ◌+◌, ◌*◌, ◌<◌, Bool, true, false, cond, ℤ, pos, negsuc, neg_ℤ, ◌+ℤ◌, ◌*ℤ◌, ◌<ℤ◌, List, [], ◌∷◌, length, Option, Some, slice_get, ◌⊎◌, inl, inr, refl, sym, ap, subst, ◌∙◌, arith, eqb}
use Rattle.std.specs.List.{list_any}
use Rattle.std.specs.Option.{option_map_or}
use Rattle.std.proofs.lemmas.Int.{ints}
use Rattle.std.proofs.lemmas.Bool.{cases_Bool, or_parts}
use Rattle.std.proofs.lemmas.List.Elements.{recursion_from_All}
use Rattle.xc_interval.specs.Ends.{value_of, is_open, end_at}
use Rattle.xc_interval.specs.declared.ends.End.{End}
use Rattle.xc_interval.specs.declared.ends.End.TheVariants.{Closed, Open}
use Rattle.xc_interval.specs.declared.interval.Interval.{Interval}
use Rattle.xc_model.specs.Fraction.{Fraction, IsNumberOver, whole as whole_number}
use Rattle.xc_model.specs.Parts.{WholeParts}
use Rattle.xc_model.specs.Ratio.{Ratio, fraction_of}
use Rattle.xc_model.proofs.Integers.{ring, cancel, cancel_lt, scale_lt}
use Rattle.xc_model.proofs.NumbersOver.{over_number, sum_number, neg_number}
use Rattle.xc_model.proofs.Over.{sign_over}
use Rattle.xc_corners.specs.Answers.{sum_over_lines, one_at, low_at, high_at, is_low_open, is_high_open, coefficient, constant, lists_open, IsShort, AreListed, Contradicts}
use Rattle.xc_corners.specs.Conflicts.{named_end, end_of, whole_coefficient, whole_constant, Refutes, AreMultipliersOf}
use Rattle.xc_corners.specs.Corners.{low_bound, high_bound}
use Rattle.xc_corners.specs.Operations.{entries_of}
use Rattle.xc_corners.specs.Problems.{low_pair, high_pair, total, unit_at, row_at}
use Rattle.xc_corners.specs.WholeNumbers.{whole_problem, product_of_denominators, times_common, ends_of, weights_of}
use Rattle.xc_corners.specs.declared.multipliers.Multipliers.{Multipliers}
use Rattle.xc_corners.specs.declared.problem.Problem.{Problem}
use Rattle.xc_corners.proofs.Bounds.{end_bounds, range_whole}
use Rattle.xc_corners.proofs.CommonDenominators.{weights_divide, common_positive}
use Rattle.xc_corners.proofs.FirstNumbers.{row_whole, ranges_whole, rows_whole, scale_positive, unit_positive}
use Rattle.xc_corners.proofs.LineSums.{none_so, positive_part, some_sum, positive_sum}
use Rattle.xc_corners.proofs.Refuted.{only_at}
use Rattle.xc_corners.proofs.Sums.{sum_same, sum_minus, sum_of_zeros}
use Rattle.xc_corners.proofs.Weighed.{row_over}

-- ---- the ends and rows of a problem, over its denominators
pub range_there : (ranges : List (Interval Ratio)) (j : ℕ) → j < length ranges → (range : Interval Ratio) × (slice_get ranges j ≡ Some range)
range_there [] j h = absurd (omega (arith, h))
range_there (range ∷ ranges) zero h = (range, refl)
range_there (range ∷ ranges) (suc j) h = range_there ranges j (omega (arith, h))

low_over : (problem : Problem) (j : ℕ) → j < length problem.ranges → IsNumberOver (low_at problem j) (low_bound (whole_problem problem) j).real (whole_problem problem).unit
low_over problem j h =
    let there = range_there problem.ranges j h in
    subst (λ (o : Option (Interval Ratio)). IsNumberOver (option_map_or (λ range. fraction_of (value_of range.low)) o (whole_number (pos 0))) (low_bound (whole_problem problem) j).real (whole_problem problem).unit) (sym there.1)
    (over_number _ _ _ (end_bounds problem j there.0 (value_of there.0.low) there.1).low_real)

high_over : (problem : Problem) (j : ℕ) → j < length problem.ranges → IsNumberOver (high_at problem j) (high_bound (whole_problem problem) j).real (whole_problem problem).unit
high_over problem j h =
    let there = range_there problem.ranges j h in
    subst (λ (o : Option (Interval Ratio)). IsNumberOver (option_map_or (λ range. fraction_of (value_of range.high)) o (whole_number (pos 0))) (high_bound (whole_problem problem) j).real (whole_problem problem).unit) (sym there.1)
    (over_number _ _ _ (end_bounds problem j there.0 (value_of there.0.high) there.1).high_real)

closed_low : (d : ℕ) (end : End Ratio) → is_open end ≡ false → (low_pair d (end_at (times_common d) end)).tiny ≡ pos 0
closed_low d (Closed e) h = refl
closed_low d (Open e) h = absurd (no h)
  where
    no : true ≡ false → ⊥
    no e = subst (λ (b : Bool). cond b (Unit {0}) ⊥) e tt

closed_high : (d : ℕ) (end : End Ratio) → is_open end ≡ false → (high_pair d (end_at (times_common d) end)).tiny ≡ pos 0
closed_high d (Closed e) h = refl
closed_high d (Open e) h = absurd (no h)
  where
    no : true ≡ false → ⊥
    no e = subst (λ (b : Bool). cond b (Unit {0}) ⊥) e tt

low_tiny : (problem : Problem) (j : ℕ) → j < length problem.ranges → is_low_open problem j ≡ false → (low_bound (whole_problem problem) j).tiny ≡ pos 0
unfolding low_bound whole_problem
low_tiny problem j h o =
    let there = range_there problem.ranges j h in
    ap (λ (range : Interval ℤ). (low_pair (product_of_denominators (ends_of problem.ranges)) range.low).tiny) (range_whole problem j there.0 there.1)
    ∙ closed_low (product_of_denominators (ends_of problem.ranges)) there.0.low (ap (λ (q : Option (Interval Ratio)). option_map_or (λ range. is_open range.low) q false) (sym there.1) ∙ o)

high_tiny : (problem : Problem) (j : ℕ) → j < length problem.ranges → is_high_open problem j ≡ false → (high_bound (whole_problem problem) j).tiny ≡ pos 0
unfolding high_bound whole_problem
high_tiny problem j h o =
    let there = range_there problem.ranges j h in
    ap (λ (range : Interval ℤ). (high_pair (product_of_denominators (ends_of problem.ranges)) range.high).tiny) (range_whole problem j there.0 there.1)
    ∙ closed_high (product_of_denominators (ends_of problem.ranges)) there.0.high (ap (λ (q : Option (Interval Ratio)). option_map_or (λ range. is_open range.high) q false) (sym there.1) ∙ o)

-- 1 at j, over any denominator
unit_over : (d j k : ℕ) → 0 < d → IsNumberOver (one_at j k) (pos d *ℤ unit_at j k) (d * 1)
unit_over d j k p = go (eqb k j)
  where
    one : pos 1 *ℤ pos (d * 1) ≡ (pos d *ℤ pos 1) *ℤ pos 1
    one = let e : d * 1 ≡ d = omega arith in rw e (omega (arith, ints))

    go : (b : Bool) → IsNumberOver (cond b (whole_number (pos 1)) (whole_number (pos 0))) (pos d *ℤ cond b (pos 1) (pos 0)) (d * 1)
    go true = record { positive = omega (arith, p); cross = one }
    go false = record { positive = omega (arith, p); cross = omega (arith, ints) }

pub unit_row : (problem : Problem) (i j : ℕ) → IsNumberOver (sum_over_lines (entries_of problem i) (one_at j)) (total (row_at (whole_problem problem) i) (unit_at j)) ((whole_problem problem).scale * 1)
unfolding whole_problem
unit_row problem i j =
    let d = product_of_denominators (weights_of problem.rows) in
    subst (λ (row : List (ℕ × ℤ)). IsNumberOver (sum_over_lines (entries_of problem i) (one_at j)) (total row (unit_at j)) (d * 1)) (sym (row_whole problem i))
    (row_over d (one_at j) (unit_at j) 1 (entries_of problem i) (common_positive (weights_of problem.rows)) (omega arith) (weights_divide problem.rows i)
    (recursion_from_All (λ (entry : ℕ × Ratio). IsNumberOver (one_at j entry.0) (unit_at j entry.0) 1) (entries_of problem i) (λ k none l. go _)))
  where
    go : (k : ℕ) → IsNumberOver (one_at j k) (unit_at j k) 1
    go k = here (eqb k j)
      where
        here : (b : Bool) → IsNumberOver (cond b (whole_number (pos 1)) (whole_number (pos 0))) (cond b (pos 1) (pos 0)) 1
        here true = record { positive = omega arith; cross = refl }
        here false = record { positive = omega arith; cross = refl }

-- ---- signs
pub zero_num : (x : Fraction) (n : ℤ) (d : ℕ) → IsNumberOver x n d → n ≡ pos 0 → x.num ≡ pos 0
zero_num x n d h e = cancel (pos d) x.num (pos 0) (λ z. absurd (omega (arith, ints, z, h.positive))) (turned_product (pos d) x.num ∙ h.cross ∙ rw e (omega (arith, ints)))
  where
    turned_product : (a b : ℤ) → a *ℤ b ≡ b *ℤ a
    turned_product a b = simp ring

negative_num : (x : Fraction) (n : ℤ) (d : ℕ) → IsNumberOver x n d → n <ℤ pos 0 → x.num <ℤ pos 0
negative_num x n d h l = cancel_lt (pos d) x.num (pos 0) (omega (arith, ints, h.positive)) (below (pos d) (pos x.den) x.num n (omega (arith, ints, x.positive)) h.cross l)
  where
    below : (d e x n : ℤ) → pos 0 <ℤ e → x *ℤ d ≡ n *ℤ e → n <ℤ pos 0 → (d *ℤ x) <ℤ (d *ℤ pos 0)
    below d e x n p c l =
        let less : (e *ℤ n) <ℤ (e *ℤ pos 0) = scale_lt e n (pos 0) p l in
        let left : d *ℤ x ≡ e *ℤ n = turned_product d x ∙ c ∙ turned_product n e in
        omega (arith, ints, less, left)
      where
        turned_product : (a b : ℤ) → a *ℤ b ≡ b *ℤ a
        turned_product a b = simp ring

-- ---- both kinds of ends together
parts : (c : ℤ) → positive_part c +ℤ neg_ℤ (positive_part (neg_ℤ c)) ≡ c
parts (pos zero) = refl
parts (pos (suc n)) = omega (arith, ints)
parts (negsuc n) = omega (arith, ints)

gathered : (s c : ℤ) → s *ℤ positive_part c +ℤ neg_ℤ (s *ℤ positive_part (neg_ℤ c)) ≡ s *ℤ c
gathered s c = joined s (positive_part c) (positive_part (neg_ℤ c)) ∙ ap (λ (v : ℤ). s *ℤ v) (parts c)
  where
    joined : (s a b : ℤ) → s *ℤ a +ℤ neg_ℤ (s *ℤ b) ≡ s *ℤ (a +ℤ neg_ℤ b)
    joined s a b = simp ring

low_alone : (a low high : ℤ) → pos 0 *ℤ high +ℤ neg_ℤ (a *ℤ low) ≡ neg_ℤ a *ℤ low
low_alone a low high = no_high (pos 0 *ℤ high) (a *ℤ low) (omega (arith, ints)) ∙ simp ring
  where
    no_high : (z v : ℤ) → z ≡ pos 0 → z +ℤ neg_ℤ v ≡ neg_ℤ v
    no_high z v e = omega (arith, ints, e)

high_alone : (a low high : ℤ) → a *ℤ high +ℤ neg_ℤ (pos 0 *ℤ low) ≡ a *ℤ high
high_alone a low high = no_low (pos 0 *ℤ low) (a *ℤ high) (omega (arith, ints))
  where
    no_low : (z v : ℤ) → z ≡ pos 0 → v +ℤ neg_ℤ z ≡ v
    no_low z v e = omega (arith, ints, e)

named_part : (m low high : ℤ) (c : ℤ) → ((pos 0 <ℤ m → c ≡ low) × (m <ℤ pos 0 → c ≡ high)) → positive_part (neg_ℤ m) *ℤ high +ℤ neg_ℤ (positive_part m *ℤ low) ≡ neg_ℤ m *ℤ c
named_part (pos zero) low high c e = omega (arith, ints)
named_part (pos (suc n)) low high c e = rw (e.0 (omega (arith, ints))) (low_alone (pos (suc n)) low high)
named_part (negsuc n) low high c e = rw (e.1 (omega (arith, ints))) (high_alone (pos (suc n)) low high)

module _ (problem : Problem) (m : ℕ → ℤ) (d : ℕ) (ms : Multipliers) (p : 0 < d) (refutes : Refutes (whole_problem problem) m) (are : AreMultipliersOf (whole_problem problem) m d ms) where
  abbrev ranges : ℕ
  ranges = length (whole_problem problem).ranges

  inside : (j : ℕ) → j < ranges → j < length problem.ranges
  inside j h = subst (λ (n : ℕ). j < n) (ranges_whole problem) h

  -- the coefficient of range j, over d times the scale
  coefficient_over : (j : ℕ) → j < ranges → IsNumberOver (coefficient problem ms j) (whole_coefficient (whole_problem problem) m j) (d * ((whole_problem problem).scale * 1))
  unfolding whole_coefficient
  coefficient_over j h =
      let s = (whole_problem problem).scale in
      let q : 0 < s * 1 = omega (arith, scale_positive problem) in
      let rows = some_sum (length (whole_problem problem).rows) d (s * 1) (λ i. m (ranges + i)) ms.rows are.rows (λ i. sum_over_lines (entries_of problem i) (one_at j)) (λ i. total (row_at (whole_problem problem) i) (unit_at j)) p q (λ i l. unit_row problem i j) in
      let lows = positive_sum ranges d (s * 1) m ms.lows are.lows (one_at j) (λ k. pos s *ℤ unit_at j k) p q (λ k l. unit_over s j k (scale_positive problem)) in
      let highs = positive_sum ranges d (s * 1) (λ k. neg_ℤ (m k)) ms.highs are.highs (one_at j) (λ k. pos s *ℤ unit_at j k) p q (λ k l. unit_over s j k (scale_positive problem)) in
      let all = sum_number _ _ _ _ (d * (s * 1)) rows (sum_number _ _ _ _ (d * (s * 1)) lows (neg_number _ _ (d * (s * 1)) highs)) in
      subst (λ (n : ℤ). IsNumberOver (coefficient problem ms j) n (d * (s * 1)))
      (joined _ _ _ _ (only_at ranges j (pos s) (λ k. positive_part (m k)) h) (only_at ranges j (pos s) (λ k. positive_part (neg_ℤ (m k))) h) (gathered (pos s) (m j))) all
    where
      joined : (r a b c : ℤ) {x y : ℤ} → a ≡ x → b ≡ y → x +ℤ neg_ℤ y ≡ c → r +ℤ (a +ℤ neg_ℤ b) ≡ c +ℤ r
      joined r a b c e f g = omega (arith, ints, e, f, g)

  -- the constant, over d times the unit
  constant_over : IsNumberOver (constant problem ms) (whole_constant (whole_problem problem) m).real (d * (whole_problem problem).unit)
  unfolding whole_constant
  constant_over =
      let u = (whole_problem problem).unit in
      let lows = positive_sum ranges d u m ms.lows are.lows (low_at problem) (λ k. (low_bound (whole_problem problem) k).real) p (unit_positive problem) (λ k l. low_over problem k (inside k l)) in
      let highs = positive_sum ranges d u (λ k. neg_ℤ (m k)) ms.highs are.highs (high_at problem) (λ k. (high_bound (whole_problem problem) k).real) p (unit_positive problem) (λ k l. high_over problem k (inside k l)) in
      subst (λ (n : ℤ). IsNumberOver (constant problem ms) n (d * u))
      (sum_minus ranges (λ k. positive_part (neg_ℤ (m k)) *ℤ (high_bound (whole_problem problem) k).real) (λ k. positive_part (m k) *ℤ (low_bound (whole_problem problem) k).real)
      ∙ sum_same ranges _ _ (λ j l. named_part (m j) _ _ (named_end (whole_problem problem) m j).real (named (m j) (low_bound (whole_problem problem) j) (high_bound (whole_problem problem) j))))
      (sum_number _ _ _ _ (d * u) highs (neg_number _ _ (d * u) lows))
    where
      named : (c : ℤ) (low high : WholeParts) → (pos 0 <ℤ c → (end_of c low high).real ≡ low.real) × (c <ℤ pos 0 → (end_of c low high).real ≡ high.real)
      named (pos n) low high = (λ h. refl, λ h. absurd (omega (arith, ints, h)))
      named (negsuc n) low high = (λ h. absurd (omega (arith, ints, h)), λ h. refl)

  -- where no listed end is open, the constant has no tiny part
  closed_tiny : lists_open problem ms ≡ false → (whole_constant (whole_problem problem) m).tiny ≡ pos 0
  unfolding whole_constant
  closed_tiny h = sum_of_zeros ranges (λ j. neg_ℤ (m j) *ℤ (named_end (whole_problem problem) m j).tiny) (λ j l. go j l (m j) refl)
    where
      both : (list_any (λ line. is_low_open problem line.0) ms.lows ≡ false) × (list_any (λ line. is_high_open problem line.0) ms.highs ≡ false)
      both = or_parts (list_any (λ line. is_low_open problem line.0) ms.lows) (list_any (λ line. is_high_open problem line.0) ms.highs) h

      no_tiny : (c v : ℤ) → v ≡ pos 0 → c *ℤ v ≡ pos 0
      no_tiny c v e = rw e (omega (arith, ints))

      go : (j : ℕ) → j < ranges → (c : ℤ) → m j ≡ c → neg_ℤ (m j) *ℤ (end_of (m j) (low_bound (whole_problem problem) j) (high_bound (whole_problem problem) j)).tiny ≡ pos 0
      go j l (pos zero) e = rw e (omega (arith, ints))
      go j l (pos (suc n)) e = rw e (no_tiny (negsuc n) (low_bound (whole_problem problem) j).tiny (low_tiny problem j (inside j l) (none_so (is_low_open problem) ms.lows j both.0 (are.lows.all j l (rw e (omega (arith, ints)))))))
      go j l (negsuc n) e = rw e (no_tiny (pos (suc n)) (high_bound (whole_problem problem) j).tiny (high_tiny problem j (inside j l) (none_so (is_high_open problem) ms.highs j both.1 (are.highs.all j l (rw e (omega (arith, ints)))))))

  short : IsShort problem ms
  short = go refutes.short (cases_Bool (lists_open problem ms))
    where
      go : ((whole_constant (whole_problem problem) m).real <ℤ pos 0) ⊎ (((whole_constant (whole_problem problem) m).real ≡ pos 0) × ((whole_constant (whole_problem problem) m).tiny <ℤ pos 0)) → ((lists_open problem ms ≡ true) ⊎ (lists_open problem ms ≡ false)) → IsShort problem ms
      go (inl h) o = inl (negative_num _ _ _ constant_over h)
      go (inr h) (inl o) = inr (zero_num _ _ _ constant_over h.0, o)
      go (inr h) (inr o) = absurd (omega (arith, ints, h.1, closed_tiny o))

  listed : (n k : ℕ) (lines : List (ℕ × Ratio)) → n ≡ k → AreListed n lines → AreListed k lines
  listed n k lines e a = subst (λ (v : ℕ). AreListed v lines) e a

  pub contradicted : Contradicts problem ms
  contradicted = record {
    rows = listed _ _ ms.rows (rows_whole problem) are.rows.listed;
    lows = listed _ _ ms.lows (ranges_whole problem) are.lows.listed;
    highs = listed _ _ ms.highs (ranges_whole problem) are.highs.listed;
    rows_count = λ i none l e. (are.rows.each i none l).0 ((sign_over _ _ d (are.rows.each i none l).1).zero.0 e);
    lows_positive = λ i none l. (sign_over _ _ d (are.lows.each i none l).1).above.1 (are.lows.each i none l).0;
    highs_positive = λ i none l. (sign_over _ _ d (are.highs.each i none l).1).above.1 (are.highs.each i none l).0;
    cancels = λ j l. let k : j < ranges = subst (λ (n : ℕ). j < n) (sym (ranges_whole problem)) l in zero_num _ _ _ (coefficient_over j k) (refutes.cancels j k);
    short = short;
  }
