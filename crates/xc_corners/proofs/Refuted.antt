-- At a conflict the counts of the variables refute: no range has a coefficient, and the constant is below 0.
use Rattle.std.proofs.Common.{◌≡◌, ◌≢◌, ℕ, zero, suc, ◌+◌, ◌-◌, ◌<◌, ◌≤◌, Bool, true, false, cond, [], length, ℤ, pos, negsuc, ◌+ℤ◌, ◌-ℤ◌, ◌*ℤ◌, neg_ℤ, ◌≤ℤ◌, ◌⊎◌, inl, inr, refl, sym, ap, ◌∙◌, arith, ltb}
use Rattle.std.proofs.lemmas.Int.{ints}
use Rattle.std.proofs.lemmas.Bool.{cases_eq, eq-eqb, ne_eqb, lt-ltb, le-ltb}
use Rattle.std.proofs.lemmas.List.{get_or_past}
use Rattle.std.proofs.Math.Nat.{add-suc, add-zero}
use Rattle.xc_interval.specs.declared.interval.Interval.{Interval}
use Rattle.xc_model.specs.Parts.{WholeParts}
use Rattle.xc_model.proofs.Integers.{ring}
use Rattle.xc_model.proofs.Pairs.{pair_cases}
use Rattle.xc_corners.specs.Choices.{Helps, IsConflict}
use Rattle.xc_corners.specs.Conflicts.{opposite_if, multiplier, end_of, whole_coefficient, whole_constant, Refutes}
use Rattle.xc_corners.specs.Corners.{variables, AddUp, Corner, Factors, sum_for, IsSolvedForm, low_bound, high_bound, bound, value, IsOutside}
use Rattle.xc_corners.specs.Operations.{passed_bound}
use Rattle.xc_corners.specs.Pairs.{◌≺◌, times, sum_below, zero_pair}
use Rattle.xc_corners.specs.Problems.{WholeProblem, IsWholeProblem, total, unit_at, row_at, low_pair, high_pair, zero_range}
use Rattle.xc_corners.proofs.NeverBack.{at_most, at_least}
use Rattle.xc_corners.proofs.Sums.{sum_same, sum_scale, sum_more, sum_at, sum_of_zeros, without}
use Rattle.xc_corners.proofs.Totals.{total_same, total_scale_right}
use Rattle.xc_corners.proofs.Values.{spread_at_basic}

-- ---- how often a variable counts
abbrev sign_of : Bool → ℤ
sign_of false = pos 1
sign_of true = negsuc 0

turned_is : (a : Bool) (f : ℤ) → opposite_if a f ≡ sign_of a *ℤ f
turned_is false f = omega (arith, ints)
turned_is true f = omega (arith, ints)

count_of_b : (x : Corner) (t : Factors) (a : Bool) (b : ℕ) → multiplier x t a b b ≡ sign_of a *ℤ pos t.over
unfolding multiplier
count_of_b x t a b = rw (eq-eqb b b refl) (turned_is a (pos t.over))

count_of_basic : (x : Corner) (t : Factors) (a : Bool) (b j : ℕ) → (j ≡ b → ⊥) → x.basic j ≡ true → multiplier x t a b j ≡ pos 0
unfolding multiplier
count_of_basic x t a b j n e = rw (ne_eqb j b n, e) (turned_is a (pos 0) ∙ omega (arith, ints))

count_of_other : (x : Corner) (t : Factors) (a : Bool) (b j : ℕ) → (j ≡ b → ⊥) → x.basic j ≡ false → multiplier x t a b j ≡ neg_ℤ (sign_of a *ℤ t.factor b j)
unfolding multiplier
count_of_other x t a b j n e = rw (ne_eqb j b n, e) (turned_is a (neg_ℤ (t.factor b j)) ∙ simp ring)

factored : (c w z v : ℤ) → (c *ℤ w) *ℤ z +ℤ neg_ℤ c *ℤ v ≡ c *ℤ (w *ℤ z -ℤ v)
factored c w z v = simp ring (omega (arith, ints))

-- what all variables count, over any numbers: b less the sum for it
counted : (p : WholeProblem) (x : Corner) (t : Factors) (a : Bool) (b : ℕ) (z : ℕ → ℤ) → b < variables p → x.basic b ≡ true
    → sum_below (variables p) (λ j. multiplier x t a b j *ℤ z j) ≡ sign_of a *ℤ (pos t.over *ℤ z b -ℤ sum_for p x t b z)
unfolding sum_for
counted p x t a b z h e =
    let first : sum_below (variables p) (λ j. multiplier x t a b j *ℤ z j) ≡ multiplier x t a b b *ℤ z b +ℤ sum_below (variables p) (without b (λ j. multiplier x t a b j *ℤ z j)) = sum_at (variables p) b (λ j. multiplier x t a b j *ℤ z j) h in
    let rest : sum_below (variables p) (without b (λ j. multiplier x t a b j *ℤ z j)) ≡ sum_below (variables p) (λ j. neg_ℤ (sign_of a) *ℤ cond (x.basic j) (pos 0) (t.factor b j *ℤ z j)) = sum_same (variables p) _ _ (λ j l. go j (cases_eq j b) (x.basic j) refl) in
    let scaled : neg_ℤ (sign_of a) *ℤ sum_below (variables p) (λ j. cond (x.basic j) (pos 0) (t.factor b j *ℤ z j)) ≡ sum_below (variables p) (λ j. neg_ℤ (sign_of a) *ℤ cond (x.basic j) (pos 0) (t.factor b j *ℤ z j)) = sum_scale (variables p) (neg_ℤ (sign_of a)) (λ j. cond (x.basic j) (pos 0) (t.factor b j *ℤ z j)) in
    rw (first, rest, ← scaled, count_of_b x t a b) (factored (sign_of a) (pos t.over) (z b) (sum_below (variables p) (λ j. cond (x.basic j) (pos 0) (t.factor b j *ℤ z j))))
  where
    go : (j : ℕ) → ((j ≡ b) ⊎ (j ≡ b → ⊥)) → (s : Bool) → x.basic j ≡ s → without b (λ i. multiplier x t a b i *ℤ z i) j ≡ neg_ℤ (sign_of a) *ℤ cond (x.basic j) (pos 0) (t.factor b j *ℤ z j)
    go j (inl c) s d = rw (eq-eqb j b c, c, e) (omega (arith, ints))
    go j (inr c) true d = rw (ne_eqb j b c, count_of_basic x t a b j c d, d) (omega (arith, ints))
    go j (inr c) false d = rw (ne_eqb j b c, count_of_other x t a b j c d, d) (simp ring)

-- ---- the coefficients
sum_split : (a m : ℕ) (f : ℕ → ℤ) → sum_below (a + m) f ≡ sum_below a f +ℤ sum_below m (λ i. f (a + i))
sum_split a zero f = rw add-zero (omega (arith, ints))
sum_split a (suc m) f = rw add-suc (let i : sum_below (a + m) f ≡ sum_below a f +ℤ sum_below m (λ i. f (a + i)) = sum_split a m f in omega (arith, ints))

none_left : (c v : ℤ) → c *ℤ (v -ℤ v) ≡ pos 0
none_left c v = simp ring (omega (arith, ints))

no_times : (c : ℤ) → c *ℤ pos 0 ≡ pos 0
no_times c = omega (arith, ints)

times_one : (c : ℤ) → c *ℤ pos 1 ≡ c
times_one c = omega (arith, ints)

times_nothing : (f c : ℤ) → f *ℤ (c *ℤ pos 0) ≡ pos 0
times_nothing f c = rw (no_times c) (no_times f)

times_unit : (f c : ℤ) → f *ℤ (c *ℤ pos 1) +ℤ pos 0 ≡ c *ℤ f
times_unit f c = rw (times_one c) (omega (arith, ints))

-- of the multiples of units at j, one counts
pub only_at : (n j : ℕ) (c : ℤ) (f : ℕ → ℤ) → j < n → sum_below n (λ k. f k *ℤ (c *ℤ unit_at j k)) ≡ c *ℤ f j
only_at n j c f h = sum_at n j _ h ∙ rw (eq-eqb j j refl, sum_of_zeros n _ (λ k l. rest k (cases_eq k j))) (times_unit (f j) c)
  where
    rest : (k : ℕ) → ((k ≡ j) ⊎ (k ≡ j → ⊥)) → without j (λ i. f i *ℤ (c *ℤ unit_at j i)) k ≡ pos 0
    rest k (inl d) = rw (eq-eqb k j d)
    rest k (inr d) = rw (ne_eqb k j d) (times_nothing (f k) c)

-- the numbers that the unit at range j gives the variables, times `scale`
abbrev range_unit : WholeProblem → ℕ → ℕ → ℤ
range_unit p j k = cond (ltb k (length p.ranges)) (pos p.scale *ℤ unit_at j k) (total (row_at p (k - length p.ranges)) (unit_at j))

unit_at_range : (p : WholeProblem) (j k : ℕ) → k < length p.ranges → range_unit p j k ≡ pos p.scale *ℤ unit_at j k
unit_at_range p j k h = rw (lt-ltb k _ h)

unit_at_row : (p : WholeProblem) (j i : ℕ) → range_unit p j (length p.ranges + i) ≡ total (row_at p i) (unit_at j)
unit_at_row p j i = rw (le-ltb (length p.ranges + i) (length p.ranges) (omega arith)) (ap (λ (n : ℕ). total (row_at p n) (unit_at j)) (omega arith))

unit_adds_up : (p : WholeProblem) → IsWholeProblem p → (j : ℕ) → AddUp p (range_unit p j)
unfolding AddUp
unit_adds_up p h j i k =
    ap (λ (v : ℤ). pos p.scale *ℤ v) (unit_at_row p j i) ∙ turned_product (pos p.scale) (total (row_at p i) (unit_at j)) ∙ total_scale_right (row_at p i) (unit_at j) (pos p.scale)
    ∙ total_same (row_at p i) _ _ (λ e d l. turned_product (unit_at j _) (pos p.scale) ∙ sym (unit_at_range p j _ (h.named i [] k e d l)))
  where
    turned_product : (c d : ℤ) → c *ℤ d ≡ d *ℤ c
    turned_product c d = simp ring

pub coefficient_zero : (p : WholeProblem) (x : Corner) (t : Factors) (a : Bool) (b j : ℕ) → IsWholeProblem p → IsSolvedForm p x t → b < variables p → x.basic b ≡ true → j < length p.ranges
    → whole_coefficient p (multiplier x t a b) j ≡ pos 0
unfolding whole_coefficient variables
coefficient_zero p x t a b j h f k e l =
    let m : pos t.over *ℤ range_unit p j b ≡ sum_for p x t b (range_unit p j) = f.sums _ (unit_adds_up p h j) b k e in
    let ranges : sum_below (length p.ranges) (λ k. multiplier x t a b k *ℤ range_unit p j k) ≡ pos p.scale *ℤ multiplier x t a b j =
    sum_same (length p.ranges) _ _ (λ i o. ap (λ (v : ℤ). multiplier x t a b i *ℤ v) (unit_at_range p j i o)) ∙ only_at (length p.ranges) j (pos p.scale) (multiplier x t a b) l in
    let rows : sum_below (length p.rows) (λ i. multiplier x t a b (length p.ranges + i) *ℤ range_unit p j (length p.ranges + i)) ≡ sum_below (length p.rows) (λ i. multiplier x t a b (length p.ranges + i) *ℤ total (row_at p i) (unit_at j)) =
    sum_same (length p.rows) _ _ (λ i o. ap (λ (v : ℤ). multiplier x t a b (length p.ranges + i) *ℤ v) (unit_at_row p j i)) in
    rw (← ranges, ← rows) (sym (sum_split (length p.ranges) (length p.rows) (λ k. multiplier x t a b k *ℤ range_unit p j k)) ∙ counted p x t a b (range_unit p j) k e ∙ rw m (none_left (sign_of a) (sum_for p x t b (range_unit p j))))

-- ---- the constant
end_low : (m : ℤ) (low high : WholeParts) (c : WholeParts → ℤ) → pos 0 ≤ℤ m → neg_ℤ m *ℤ c (end_of m low high) ≡ neg_ℤ m *ℤ c low
end_low (pos n) low high c h = refl
end_low (negsuc n) low high c h = absurd (omega (arith, ints))

end_high : (m : ℤ) (low high : WholeParts) (c : WholeParts → ℤ) → m ≤ℤ pos 0 → neg_ℤ m *ℤ c (end_of m low high) ≡ neg_ℤ m *ℤ c high
end_high (pos zero) low high c h = omega (arith, ints)
end_high (pos (suc n)) low high c h = absurd (omega (arith, ints))
end_high (negsuc n) low high c h = refl

end_same : (m : ℤ) (low : WholeParts) → end_of m low low ≡ low
end_same (pos n) low = refl
end_same (negsuc n) low = refl

twice_neg : (s f v : ℤ) → neg_ℤ (neg_ℤ (s *ℤ f)) *ℤ v ≡ s *ℤ (f *ℤ v)
twice_neg s f v = simp ring

abbrev brought : (WholeParts → ℤ) → ℤ → WholeParts → WholeParts → ℤ
brought c m low high = neg_ℤ m *ℤ c (end_of m low high)

-- of a variable that cannot enter
brought_side : (c : WholeParts → ℤ) (a h : Bool) (f : ℤ) (low high : WholeParts) → (Helps a h f → ⊥) → brought c (neg_ℤ (sign_of a *ℤ f)) low high ≡ sign_of a *ℤ (f *ℤ c (cond h high low))
brought_side c false false f low high n = end_low (neg_ℤ (pos 1 *ℤ f)) low high c (omega (arith, ints, at_most f n)) ∙ twice_neg (pos 1) f (c low)
brought_side c false true f low high n = end_high (neg_ℤ (pos 1 *ℤ f)) low high c (omega (arith, ints, at_least f n)) ∙ twice_neg (pos 1) f (c high)
brought_side c true false f low high n = end_low (neg_ℤ (negsuc 0 *ℤ f)) low high c (omega (arith, ints, at_least f n)) ∙ twice_neg (negsuc 0) f (c low)
brought_side c true true f low high n = end_high (neg_ℤ (negsuc 0 *ℤ f)) low high c (omega (arith, ints, at_most f n)) ∙ twice_neg (negsuc 0) f (c high)

pub low_past : (p : WholeProblem) (j : ℕ) → length p.ranges ≤ j → low_bound p j ≡ zero_pair
unfolding low_bound
low_past p j h = ap (λ (g : Interval ℤ). low_pair p.unit g.low) (get_or_past p.ranges j zero_range h)

pub high_past : (p : WholeProblem) (j : ℕ) → length p.ranges ≤ j → high_bound p j ≡ zero_pair
unfolding high_bound
high_past p j h = ap (λ (g : Interval ℤ). high_pair p.unit g.high) (get_or_past p.ranges j zero_range h)

gathered : (c v s : ℤ) → neg_ℤ (c *ℤ v) +ℤ c *ℤ s ≡ c *ℤ (s -ℤ v)
gathered c v s = simp ring (omega (arith, ints))

negated : (s w v : ℤ) → neg_ℤ (s *ℤ w) *ℤ v ≡ neg_ℤ (s *ℤ (w *ℤ v))
negated s w v = simp ring

module _ (p : WholeProblem) (x : Corner) (t : Factors) (a : Bool) (b : ℕ) (k : IsConflict p x t a b) (c : WholeParts → ℤ) where
  abbrev brought_at : ℕ → ℤ
  brought_at j = brought c (multiplier x t a b j) (low_bound p j) (high_bound p j)

  same_bound : (j : ℕ) → low_bound p j ≡ high_bound p j → (s : Bool) → c (cond s (high_bound p j) (low_bound p j)) ≡ c (low_bound p j)
  same_bound j d true = ap c (sym d)
  same_bound j d false = refl

  brought_other : (j : ℕ) → j < variables p → (j ≡ b → ⊥) → x.basic j ≡ false → brought_at j ≡ sign_of a *ℤ (t.factor b j *ℤ c (bound p x j))
  unfolding bound
  brought_other j h n e = rw (count_of_other x t a b j n e) (go (pair_cases (low_bound p j) (high_bound p j)))
    where
      go : ((low_bound p j ≡ high_bound p j) ⊎ (low_bound p j ≢ high_bound p j)) → brought c (neg_ℤ (sign_of a *ℤ t.factor b j)) (low_bound p j) (high_bound p j) ≡ sign_of a *ℤ (t.factor b j *ℤ c (cond (x.high j) (high_bound p j) (low_bound p j)))
      go (inl d) = rw (same_bound j d (x.high j), ← d, end_same (neg_ℤ (sign_of a *ℤ t.factor b j)) (low_bound p j)) (twice_neg (sign_of a) (t.factor b j) (c (low_bound p j)))
      go (inr d) = brought_side c a (x.high j) (t.factor b j) (low_bound p j) (high_bound p j) (λ l. k.none j h record { other = e; free = d; helps = l })

  brought_b : brought_at b ≡ neg_ℤ (sign_of a *ℤ (pos t.over *ℤ c (passed_bound p a b)))
  brought_b = rw (count_of_b x t a b) (go a)
    where
      go : (s : Bool) → brought c (sign_of s *ℤ pos t.over) (low_bound p b) (high_bound p b) ≡ neg_ℤ (sign_of s *ℤ (pos t.over *ℤ c (passed_bound p s b)))
      go false = end_low (pos 1 *ℤ pos t.over) (low_bound p b) (high_bound p b) c (omega (arith, ints)) ∙ negated (pos 1) (pos t.over) (c (low_bound p b))
      go true = end_high (negsuc 0 *ℤ pos t.over) (low_bound p b) (high_bound p b) c (omega (arith, ints)) ∙ negated (negsuc 0) (pos t.over) (c (high_bound p b))

  brought_sum : sum_below (variables p) brought_at ≡ sign_of a *ℤ (sum_for p x t b (λ j. c (bound p x j)) -ℤ pos t.over *ℤ c (passed_bound p a b))
  unfolding sum_for
  brought_sum =
      let first : sum_below (variables p) brought_at ≡ brought_at b +ℤ sum_below (variables p) (without b brought_at) = sum_at (variables p) b brought_at k.leaves.is_variable in
      let rest : sum_below (variables p) (without b brought_at) ≡ sum_below (variables p) (λ j. sign_of a *ℤ cond (x.basic j) (pos 0) (t.factor b j *ℤ c (bound p x j))) = sum_same (variables p) _ _ (λ j l. go j l (cases_eq j b) (x.basic j) refl) in
      let scaled : sign_of a *ℤ sum_below (variables p) (λ j. cond (x.basic j) (pos 0) (t.factor b j *ℤ c (bound p x j))) ≡ sum_below (variables p) (λ j. sign_of a *ℤ cond (x.basic j) (pos 0) (t.factor b j *ℤ c (bound p x j))) = sum_scale (variables p) (sign_of a) (λ j. cond (x.basic j) (pos 0) (t.factor b j *ℤ c (bound p x j))) in
      first ∙ rw (rest, ← scaled, brought_b) (gathered (sign_of a) (pos t.over *ℤ c (passed_bound p a b)) (sum_below (variables p) (λ j. cond (x.basic j) (pos 0) (t.factor b j *ℤ c (bound p x j)))))
    where
      go : (j : ℕ) → j < variables p → ((j ≡ b) ⊎ (j ≡ b → ⊥)) → (s : Bool) → x.basic j ≡ s → without b brought_at j ≡ sign_of a *ℤ cond (x.basic j) (pos 0) (t.factor b j *ℤ c (bound p x j))
      go j l (inl d) s e = rw (eq-eqb j b d, d, k.leaves.basic) (omega (arith, ints))
      go j l (inr d) true e = rw (ne_eqb j b d, count_of_basic x t a b j d e, e) (omega (arith, ints))
      go j l (inr d) false e = rw (ne_eqb j b d, brought_other j l d e, e) refl

  -- the sum over the ranges is that over all variables, since the bounds of a row are 0
  brought_ranges : c zero_pair ≡ pos 0 → sum_below (length p.ranges) brought_at ≡ sign_of a *ℤ (sum_for p x t b (λ j. c (bound p x j)) -ℤ pos t.over *ℤ c (passed_bound p a b))
  unfolding variables
  brought_ranges z = sym (sum_more (length p.ranges) (length p.rows) brought_at (λ j h l. rw (low_past p j h, high_past p j h, end_same (multiplier x t a b j) zero_pair, z) (no_part (multiplier x t a b j)))) ∙ brought_sum
    where
      no_part : (m : ℤ) → neg_ℤ m *ℤ pos 0 ≡ pos 0
      no_part m = omega (arith, ints)

past_signed : (s : Bool) (r l e f : ℤ) → ((s ≡ false) × ((record { real = r; tiny = e }) ≺ (record { real = l; tiny = f }))) ⊎ ((s ≡ true) × ((record { real = l; tiny = f }) ≺ (record { real = r; tiny = e })))
    → (record { real = sign_of s *ℤ (r -ℤ l); tiny = sign_of s *ℤ (e -ℤ f) }) ≺ zero_pair
past_signed s r l e f (inl (q, inl h)) = rw q (inl (simp ring (omega (arith, ints))))
past_signed s r l e f (inl (q, inr h)) = rw q (inr (simp ring (omega (arith, ints, h.0)), simp ring (omega (arith, ints, h.1))))
past_signed s r l e f (inr (q, inl h)) = rw q (inl (simp ring (omega (arith, ints))))
past_signed s r l e f (inr (q, inr h)) = rw q (inr (simp ring (omega (arith, ints, h.0)), simp ring (omega (arith, ints, h.1))))

module _ (p : WholeProblem) (x : Corner) (t : Factors) (a : Bool) (b : ℕ) (k : IsConflict p x t a b) where
  outside : (s : Bool) → IsOutside p x t s b → ((s ≡ false) × (value p x t b ≺ times (pos t.over) (passed_bound p s b))) ⊎ ((s ≡ true) × (times (pos t.over) (passed_bound p s b) ≺ value p x t b))
  outside false h = inl (refl, h)
  outside true h = inr (refl, h)

  left_over_is : whole_constant p (multiplier x t a b) ≡ record { real = sign_of a *ℤ ((value p x t b).real -ℤ pos t.over *ℤ (passed_bound p a b).real); tiny = sign_of a *ℤ ((value p x t b).tiny -ℤ pos t.over *ℤ (passed_bound p a b).tiny) }
  unfolding whole_constant value
  left_over_is = λ i. record {
    real = (brought_ranges p x t a b k (λ v. v.real) refl ∙ ap (λ (v : ℤ). sign_of a *ℤ (v -ℤ pos t.over *ℤ (passed_bound p a b).real)) (sym (spread_at_basic p x t (λ j. (bound p x j).real) b k.leaves.basic))) i;
    tiny = (brought_ranges p x t a b k (λ v. v.tiny) refl ∙ ap (λ (v : ℤ). sign_of a *ℤ (v -ℤ pos t.over *ℤ (passed_bound p a b).tiny)) (sym (spread_at_basic p x t (λ j. (bound p x j).tiny) b k.leaves.basic))) i;
  }

  pub refuted : IsWholeProblem p → IsSolvedForm p x t → Refutes p (multiplier x t a b)
  refuted h f = record {
    cancels = λ j l. coefficient_zero p x t a b j h f k.leaves.is_variable k.leaves.basic l;
    short = rw left_over_is (past_signed a (value p x t b).real (pos t.over *ℤ (passed_bound p a b).real) (value p x t b).tiny (pos t.over *ℤ (passed_bound p a b).tiny) (outside a k.leaves.outside));
  }
