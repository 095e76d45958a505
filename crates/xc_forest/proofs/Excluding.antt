-- A contradiction excludes every value.
use Rattle.std.proofs.Common.{◌≡◌, ℕ, zero, suc, ◌*◌, ◌<◌, Bool, true, false, List, [], ◌∷◌, length, ℤ, pos, negsuc, neg_ℤ, ◌+ℤ◌, ◌*ℤ◌, ◌⊎◌, inl, inr, refl, sym, arith, ap, ◌∙◌}
use Rattle.std.proofs.lemmas.Int.{ints}
use Rattle.std.proofs.lemmas.Bool.{cases_eq, eq-eqb, ne_eqb}
use Rattle.std.proofs.lemmas.Nat.Gcd.{dvd_trans}
use Rattle.std.proofs.Math.Nat.{mul-pos, dvd-mul_left, dvd-mul_right}
use Prim.Native.Nat.{◌∣◌}
use lib.IntN.{zero-*ℤ}
use Rattle.xc_forest.specs.Forests.{AreRows, Contradicts, IsUnit, range_at, row_at, row_total, row_sum, number_with_sign, unit_at, points_of, sum_below, named_end, multiplier_at}
use Rattle.xc_lists.specs.Members.{IsIn}
use Rattle.xc_forest.specs.Laws.{Meets, ContradictionsExclude}
use Rattle.xc_forest.specs.Steps.Scaled.{scale_of_pair, scale_of, whole_over}
use Rattle.xc_forest.specs.Steps.Vertices.{◌≺◌, ◌≼◌, no_parts, Span, part, bound}
use Rattle.xc_forest.proofs.ListedSums.{same_below, none_below, single_below, turn_unit, turn_none}
use Rattle.xc_forest.proofs.PairOrder.{le_refl, lt_le, irreflexive}
use Rattle.xc_forest.proofs.Results.{row_total_over, named_over}
use Rattle.xc_forest.proofs.Scales.{positive_scale, pair_over_scale, divides_at, zero_parts_over, parts_below_over}
use Rattle.xc_interval.specs.Ends.{value_of}
use Rattle.xc_interval.specs.Intervals.{IsAtMost, IsPast, IsBefore}
use Rattle.xc_interval.specs.declared.ends.End.{End}
use Rattle.xc_interval.specs.declared.ends.End.TheVariants.{Closed, Open}
use Rattle.xc_interval.specs.declared.interval.Interval.{Interval}
use Rattle.xc_model.specs.Parts.{Parts, SameParts, IsLess, WholeParts, ArePartsOver, zero_parts}
use Rattle.xc_model.proofs.Integers.{add-mul, mul_assoc, mul_comm}
use Rattle.xc_model.proofs.NumbersOver.{below_number, equal_number}

-- ---- the order, over one denominator
less_over : (x y : Parts) (a b : WholeParts) (d : ℕ) → ArePartsOver x a d → ArePartsOver y b d → IsLess x y → a ≺ b
less_over x y a b d h k (inl l) = inl (below_number x.real y.real a.real b.real d h.real k.real l)
less_over x y a b d h k (inr l) = inr (equal_number x.real y.real a.real b.real d h.real k.real l.0, below_number x.tiny y.tiny a.tiny b.tiny d h.tiny k.tiny l.1)

at_most_over : (x y : Parts) (a b : WholeParts) (d : ℕ) → ArePartsOver x a d → ArePartsOver y b d → IsAtMost IsLess SameParts x y → a ≼ b
at_most_over x y a b d h k (inl l) = lt_at_most a b (less_over x y a b d h k l)
  where
    lt_at_most : (a b : WholeParts) → a ≺ b → a ≼ b
    lt_at_most a b h = grind (arith, ints)
at_most_over x y a b d h k (inr s) = inr (equal_number x.real y.real a.real b.real d h.real k.real s.real, (let e : a.tiny ≡ b.tiny = equal_number x.tiny y.tiny a.tiny b.tiny d h.tiny k.tiny s.tiny in omega (arith, ints)))

past_at_most : (e : End Parts) (x : Parts) → IsPast IsLess SameParts e x → IsAtMost IsLess SameParts (value_of e) x
past_at_most (Closed v) x h = h
past_at_most (Open v) x h = inl h

before_at_most : (e : End Parts) (x : Parts) → IsBefore IsLess SameParts e x → IsAtMost IsLess SameParts x (value_of e)
before_at_most (Closed v) x h = h
before_at_most (Open v) x h = inl h

-- ---- sums
plus_le : (a b c d : WholeParts) → a ≼ b → c ≼ d → record { real = a.real +ℤ c.real; tiny = a.tiny +ℤ c.tiny } ≼ record { real = b.real +ℤ d.real; tiny = b.tiny +ℤ d.tiny }
plus_le a b c d h k = grind (arith, ints)

sums_le : (n : ℕ) (f g : ℕ → WholeParts) → ((p : ℕ) → p < n → f p ≼ g p) → record { real = sum_below n (λ p. (f p).real); tiny = sum_below n (λ p. (f p).tiny) } ≼ record { real = sum_below n (λ p. (g p).real); tiny = sum_below n (λ p. (g p).tiny) }
sums_le zero f g h = le_refl no_parts
sums_le (suc n) f g h = plus_le _ _ (f n) (g n) (sums_le n f g (λ p l. h p (omega arith))) (h n (omega arith))

sum_plus : (n : ℕ) (f g : ℕ → ℤ) → sum_below n (λ j. f j +ℤ g j) ≡ sum_below n f +ℤ sum_below n g
sum_plus zero f g = refl
sum_plus (suc n) f g = let e : sum_below n (λ j. f j +ℤ g j) ≡ sum_below n f +ℤ sum_below n g = sum_plus n f g in omega (arith, ints)

sum_times : (n : ℕ) (f : ℕ → ℤ) (t : ℤ) → sum_below n f *ℤ t ≡ sum_below n (λ j. f j *ℤ t)
sum_times zero f t = zero-*ℤ t
sum_times (suc n) f t = add-mul (sum_below n f) (f n) t ∙ ap (λ (z : ℤ). z +ℤ f n *ℤ t) (sum_times n f t)

swap : (n m : ℕ) (f : ℕ → ℕ → ℤ) → sum_below n (λ p. sum_below m (λ i. f p i)) ≡ sum_below m (λ i. sum_below n (λ p. f p i))
swap zero m f = sym (none_below m (λ i. pos 0) (λ i l. refl))
swap (suc n) m f = ap (λ (z : ℤ). z +ℤ sum_below m (λ i. f n i)) (swap n m f) ∙ sym (sum_plus m (λ i. sum_below n (λ p. f p i)) (λ i. f n i))

-- ---- a row by the weights of its points
by_weights : (n : ℕ) (row : List (ℕ × Bool)) (x : ℕ → ℤ) → ((p : ℕ) → IsIn p (points_of row) → p < n) → row_sum row x ≡ sum_below n (λ p. row_sum row (unit_at p) *ℤ x p)
by_weights n [] x h = sym (none_below n _ (λ p l. zero-*ℤ (x p)))
by_weights n (e ∷ row) x h =
    let i : row_sum row x ≡ sum_below n (λ p. row_sum row (unit_at p) *ℤ x p) = by_weights n row x (λ p k. h p (inr k)) in
    let s : sum_below n (λ p. number_with_sign e.1 (unit_at p e.0) *ℤ x p) ≡ number_with_sign e.1 (unit_at e.0 e.0) *ℤ x e.0 = single_below n e.0 (λ p. number_with_sign e.1 (unit_at p e.0) *ℤ x p) (h e.0 (inl refl)) (λ p l m. rw (ne_eqb e.0 p (λ q. m (sym q))) (turn_none e.1 (x p))) in
    let o : number_with_sign e.1 (unit_at e.0 e.0) *ℤ x e.0 ≡ number_with_sign e.1 (x e.0) = rw (eq-eqb e.0 e.0 refl) (turn_unit e.1 (x e.0)) in
    let p : sum_below n (λ p. (number_with_sign e.1 (unit_at p e.0) +ℤ row_sum row (unit_at p)) *ℤ x p) ≡ sum_below n (λ p. number_with_sign e.1 (unit_at p e.0) *ℤ x p) +ℤ sum_below n (λ p. row_sum row (unit_at p) *ℤ x p) = same_below n _ _ (λ p k. add-mul (number_with_sign e.1 (unit_at p e.0)) (row_sum row (unit_at p)) (x p)) ∙ sum_plus n _ _ in
    omega (arith, ints)

-- where the coefficients cancel, values that meet the rows add up to 0 with the multipliers of their ends
cancelled : (n m : ℕ) (weight : ℕ → ℕ → ℤ) (by ends x : ℕ → ℤ) → ((p : ℕ) → p < n → ends p +ℤ sum_below m (λ i. weight i p *ℤ by i) ≡ pos 0) → ((i : ℕ) → i < m → sum_below n (λ p. weight i p *ℤ x p) ≡ pos 0)
    → sum_below n (λ p. ends p *ℤ x p) ≡ pos 0
cancelled n m weight by ends x h k =
    let a : sum_below n (λ p. ends p *ℤ x p +ℤ sum_below m (λ i. (weight i p *ℤ by i) *ℤ x p)) ≡ pos 0 = none_below n _ (λ p l. ap (λ (z : ℤ). ends p *ℤ x p +ℤ z) (sym (sum_times m (λ i. weight i p *ℤ by i) (x p))) ∙ sym (add-mul (ends p) (sum_below m (λ i. weight i p *ℤ by i)) (x p)) ∙ ap (λ (z : ℤ). z *ℤ x p) (h p l) ∙ zero-*ℤ (x p)) in
    let b : sum_below n (λ p. ends p *ℤ x p +ℤ sum_below m (λ i. (weight i p *ℤ by i) *ℤ x p)) ≡ sum_below n (λ p. ends p *ℤ x p) +ℤ sum_below n (λ p. sum_below m (λ i. (weight i p *ℤ by i) *ℤ x p)) = sum_plus n _ _ in
    let c : sum_below n (λ p. sum_below m (λ i. (weight i p *ℤ by i) *ℤ x p)) ≡ pos 0 = swap n m (λ p i. (weight i p *ℤ by i) *ℤ x p) ∙ none_below m _ (λ i l. same_below n _ _ (λ p j. turned (weight i p) (by i) (x p)) ∙ sym (sum_times n (λ p. weight i p *ℤ x p) (by i)) ∙ ap (λ (z : ℤ). z *ℤ by i) (k i l) ∙ zero-*ℤ (by i)) in
    omega (arith, ints)
  where
    turned : (a b c : ℤ) → (a *ℤ b) *ℤ c ≡ (a *ℤ c) *ℤ b
    turned a b c = mul_assoc a b c ∙ ap (λ (z : ℤ). a *ℤ z) (mul_comm b c) ∙ sym (mul_assoc a c b)

-- ---- a denominator of values
scale_values : ℕ → (ℕ → Parts) → ℕ
scale_values zero z = 1
scale_values (suc n) z = scale_values n z * scale_of_pair (z n)

positive_values : (n : ℕ) (z : ℕ → Parts) → 0 < scale_values n z
unfolding scale_values
positive_values zero z = omega arith
positive_values (suc n) z = mul-pos (positive_values n z) (mul-pos (z n).real.positive (z n).tiny.positive)

divides_values : (n : ℕ) (z : ℕ → Parts) (p : ℕ) → p < n → ((p ≡ n) ⊎ (p ≡ n → ⊥)) → scale_of_pair (z p) ∣ scale_values n z
unfolding scale_values
divides_values zero z p l o = absurd (omega arith)
divides_values (suc n) z p l o = go (cases_eq p n) (λ k. divides_values n z p k (cases_eq p n))
  where
    go : ((p ≡ n) ⊎ (p ≡ n → ⊥)) → (p < n → scale_of_pair (z p) ∣ scale_values n z) → scale_of_pair (z p) ∣ scale_values n z * scale_of_pair (z n)
    go (inl e) i = rw e (dvd-mul_left (scale_of_pair (z n)) (scale_values n z))
    go (inr e) i = dvd_trans (scale_of_pair (z p)) (i (omega arith)) (dvd-mul_right (scale_values n z) (scale_of_pair (z n)))

-- ---- one end and its value
abbrev named : ℤ → Span → WholeParts
named k a = record { real = bound false k a; tiny = bound true k a }

abbrev valued : ℤ → WholeParts → WholeParts
valued k w = record { real = k *ℤ w.real; tiny = k *ℤ w.tiny }

named_le : (k : ℤ) (a : Span) (w : WholeParts) → IsUnit k → a.low ≼ w → w ≼ a.high → named k a ≼ valued k w
named_le k a w (inl e) h j = rw e (inr (omega (arith, ints), omega (arith, ints)))
named_le k a w (inr (inl e)) h j = rw e (low_one a.low w h)
  where
    low_one : (x w : WholeParts) → x ≼ w → x ≼ record { real = pos 1 *ℤ w.real; tiny = pos 1 *ℤ w.tiny }
    low_one x w h = let r : pos 1 *ℤ w.real ≡ w.real = omega (arith, ints) in let t : pos 1 *ℤ w.tiny ≡ w.tiny = omega (arith, ints) in rw (r, t) h
named_le k a w (inr (inr e)) h j = rw e (high_one a.high w j)
  where
    high_one : (y w : WholeParts) → w ≼ y → record { real = neg_ℤ y.real; tiny = neg_ℤ y.tiny } ≼ record { real = negsuc 0 *ℤ w.real; tiny = negsuc 0 *ℤ w.tiny }
    high_one y w h = let r : negsuc 0 *ℤ w.real ≡ neg_ℤ w.real = omega (arith, ints) in let t : negsuc 0 *ℤ w.tiny ≡ neg_ℤ w.tiny = omega (arith, ints) in rw (r, t) (turned y w h)
      where
        turned : (y w : WholeParts) → w ≼ y → record { real = neg_ℤ y.real; tiny = neg_ℤ y.tiny } ≼ record { real = neg_ℤ w.real; tiny = neg_ℤ w.tiny }
        turned y w h = grind (arith, ints)

module _ (rows : List (List (ℕ × Bool))) (ranges : List (Interval Parts)) (by ends : List ℤ) (z : ℕ → Parts) (good : AreRows (length ranges) rows) (h : Contradicts rows ranges by ends) (k : Meets rows ranges z) where
  d : ℕ
  d = scale_of ranges * scale_values (length ranges) z

  positive : 0 < d
  unfolding d
  positive = mul-pos (positive_scale ranges) (positive_values (length ranges) z)

  span : ℕ → Span
  span p = record { low = whole_over d (value_of (range_at ranges p).low); high = whole_over d (value_of (range_at ranges p).high) }

  value : ℕ → WholeParts
  value p = whole_over d (z p)

  low_over : (p : ℕ) → p < length ranges → ArePartsOver (value_of (range_at ranges p).low) (span p).low d
  unfolding d span
  low_over p l = pair_over_scale d (value_of (range_at ranges p).low) positive (dvd_trans _ (divides_at ranges p l).0 (dvd-mul_right (scale_of ranges) (scale_values (length ranges) z)))

  high_over : (p : ℕ) → p < length ranges → ArePartsOver (value_of (range_at ranges p).high) (span p).high d
  unfolding d span
  high_over p l = pair_over_scale d (value_of (range_at ranges p).high) positive (dvd_trans _ (divides_at ranges p l).1 (dvd-mul_right (scale_of ranges) (scale_values (length ranges) z)))

  value_over : (p : ℕ) → p < length ranges → ArePartsOver (z p) (value p) d
  unfolding d value
  value_over p l = pair_over_scale d (z p) positive (dvd_trans _ (divides_values (length ranges) z p l (cases_eq p (length ranges))) (dvd-mul_left (scale_values (length ranges) z) (scale_of ranges)))

  -- the ends named are at most the values times their multipliers
  each_le : (p : ℕ) → p < length ranges → named (multiplier_at ends p) (span p) ≼ valued (multiplier_at ends p) (value p)
  each_le p l = named_le (multiplier_at ends p) (span p) (value p) (h.end_units p)
      (at_most_over (value_of (range_at ranges p).low) (z p) (span p).low (value p) d (low_over p l) (value_over p l) (past_at_most (range_at ranges p).low (z p) (k.within p l).low))
      (at_most_over (z p) (value_of (range_at ranges p).high) (value p) (span p).high d (value_over p l) (high_over p l) (before_at_most (range_at ranges p).high (z p) (k.within p l).high))

  -- a row's sum is 0 over d
  met : (c : Bool) (i : ℕ) → i < length rows → row_sum (row_at rows i) (λ p. part c (value p)) ≡ pos 0
  met c i l = pick c
    where
      total : ArePartsOver (row_total (row_at rows i) z) (record { real = row_sum (row_at rows i) (λ p. (value p).real); tiny = row_sum (row_at rows i) (λ p. (value p).tiny) }) d
      total = row_total_over (row_at rows i) z value d positive (λ p j. value_over p ((good i l).0 p j))

      zero_over : ArePartsOver zero_parts no_parts d
      zero_over = zero_parts_over d positive

      pick : (c : Bool) → row_sum (row_at rows i) (λ p. part c (value p)) ≡ pos 0
      pick false = equal_number _ _ _ (pos 0) d total.real zero_over.real (k.met i l).real
      pick true = equal_number _ _ _ (pos 0) d total.tiny zero_over.tiny (k.met i l).tiny

  values_cancel : (c : Bool) → sum_below (length ranges) (λ p. multiplier_at ends p *ℤ part c (value p)) ≡ pos 0
  values_cancel c = cancelled (length ranges) (length rows) (λ i p. row_sum (row_at rows i) (unit_at p)) (multiplier_at by) (multiplier_at ends) (λ p. part c (value p)) h.cancels (λ i l. sym (by_weights (length ranges) (row_at rows i) (λ p. part c (value p)) (good i l).0) ∙ met c i l)

  pub no_values : ⊥
  no_values =
      let above : no_parts ≺ record { real = sum_below (length ranges) (λ p. bound false (multiplier_at ends p) (span p)); tiny = sum_below (length ranges) (λ p. bound true (multiplier_at ends p) (span p)) } =
      less_over zero_parts _ no_parts _ d (zero_parts_over d positive) (parts_below_over (length ranges) (λ p. named_end (multiplier_at ends p) (range_at ranges p)) (λ p. named (multiplier_at ends p) (span p)) d positive (λ p l. named_over (multiplier_at ends p) (range_at ranges p) (span p) d (low_over p l) (high_over p l))) h.positive in
      let most = sums_le (length ranges) (λ p. named (multiplier_at ends p) (span p)) (λ p. valued (multiplier_at ends p) (value p)) each_le in
      irreflexive no_parts (rw (values_cancel false, values_cancel true) at (lt_le no_parts _ _ above most))

pub exclude : ContradictionsExclude
exclude rows ranges by ends z good h k = no_values rows ranges by ends z good h k
