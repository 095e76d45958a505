-- An exchange gives the solved form of the next corner.
use Rattle.std.proofs.Common.{◌≡◌, ◌≢◌, ℕ, ◌<◌, Bool, true, false, cond, ℤ, pos, negsuc, ◌+ℤ◌, ◌-ℤ◌, ◌*ℤ◌, neg_ℤ, ◌⊎◌, inl, inr, refl, sym, ap, ◌∙◌, arith, eqb}
use Rattle.std.specs.Prelude.{unsigned_abs}
use Rattle.std.proofs.lemmas.Int.{ints}
use Rattle.std.proofs.lemmas.Bool.{cases_eq, eq-eqb, ne_eqb, false≢true}
use Rattle.std.proofs.Math.Nat.{mul-pos}
use Rattle.xc_model.proofs.Integers.{ring, unsigned_abs_some}
use Rattle.xc_corners.specs.Choices.{corner_after_exchange}
use Rattle.xc_corners.specs.Corners.{variables, Corner, Factors, sum_for, IsSolvedForm}
use Rattle.xc_corners.specs.Pairs.{sum_below}
use Rattle.xc_corners.specs.Problems.{WholeProblem}
use Rattle.xc_corners.specs.Tables.{factors_after_exchange, sign}
use Rattle.xc_corners.proofs.Moves.{kept_basic, left_basic, entered_basic}
use Rattle.xc_corners.proofs.Pairs.{cancel_positive}
use Rattle.xc_corners.proofs.Sums.{without, sum_at, sum_same, sum_scale, combine}

-- the rest of the sum for k, without q
unfoldable pub rest_for : WholeProblem → Corner → Factors → ℕ → ℕ → (ℕ → ℤ) → ℤ
rest_for p x t k q z = sum_below (variables p) (λ j. cond (x.basic j) (pos 0) (cond (eqb j q) (pos 0) (t.factor k j *ℤ z j)))

-- the sum for k at x: the term of q and the rest
pub sum_before : (p : WholeProblem) (x : Corner) (t : Factors) (k q : ℕ) (z : ℕ → ℤ) → q < variables p → x.basic q ≡ false → sum_for p x t k z ≡ t.factor k q *ℤ z q +ℤ rest_for p x t k q z
unfolding sum_for rest_for
sum_before p x t k q z h e = sum_at (variables p) q _ h ∙ rw (e, sum_same (variables p) _ _ (λ j l. go j (x.basic j) (eqb j q)))
  where
    go : (j : ℕ) (s c : Bool) → cond c (pos 0) (cond s (pos 0) (t.factor k j *ℤ z j)) ≡ cond s (pos 0) (cond c (pos 0) (t.factor k j *ℤ z j))
    go j true true = refl
    go j true false = refl
    go j false true = refl
    go j false false = refl

-- the sum for k after the exchange: the term of b and the same rest, by the new factors
sum_afterwards : (p : WholeProblem) (x : Corner) (t : Factors) (above : Bool) (k b q : ℕ) (z : ℕ → ℤ) → b < variables p → x.basic b ≡ true → x.basic q ≡ false → sum_for p (corner_after_exchange p x above b q) t k z ≡ t.factor k b *ℤ z b +ℤ rest_for p x t k q z
unfolding sum_for rest_for
sum_afterwards p x t above k b q z h e f = sum_at (variables p) b _ h ∙ rw (left_basic p x above b q apart, sum_same (variables p) _ _ (λ j l. go j (cases_eq j b) (cases_eq j q)))
  where
    apart : b ≡ q → ⊥
    apart c = false≢true (sym f ∙ ap x.basic (sym c) ∙ e)

    go : (j : ℕ) → ((j ≡ b) ⊎ (j ≡ b → ⊥)) → ((j ≡ q) ⊎ (j ≡ q → ⊥)) → without b (λ i. cond ((corner_after_exchange p x above b q).basic i) (pos 0) (t.factor k i *ℤ z i)) j ≡ cond (x.basic j) (pos 0) (cond (eqb j q) (pos 0) (t.factor k j *ℤ z j))
    go j (inl c) d = rw (eq-eqb j b c, c, e)
    go j (inr c) (inl d) = rw (ne_eqb j b c, d, entered_basic p x above b q, f, eq-eqb q q refl)
    go j (inr c) (inr d) = rw (ne_eqb j b c, kept_basic p x above b q j c d, ne_eqb j q d)

pub unsigned_abs-sign : (f : ℤ) → pos (unsigned_abs f) ≡ sign f *ℤ f
unsigned_abs-sign (pos n) = omega (arith, ints)
unsigned_abs-sign (negsuc n) = omega (arith, ints)

-- the new rests, by the old ones
rest_of_q : (p : WholeProblem) (x : Corner) (t : Factors) (b q : ℕ) (z : ℕ → ℤ) → x.basic b ≡ true → rest_for p x (factors_after_exchange t b q) q q z ≡ neg_ℤ (sign (t.factor b q) *ℤ pos t.over) *ℤ rest_for p x t b q z
unfolding rest_for factors_after_exchange
rest_of_q p x t b q z e = sum_same (variables p) _ _ (λ j l. go j (cases_eq j b) (x.basic j) refl (eqb j q)) ∙ sym (sum_scale (variables p) _ _)
  where
    go : (j : ℕ) → ((j ≡ b) ⊎ (j ≡ b → ⊥)) → (s : Bool) → x.basic j ≡ s → (c : Bool) →
        cond (x.basic j) (pos 0) (cond c (pos 0) (sign (t.factor b q) *ℤ cond (eqb q q) (cond (eqb j b) (pos t.over *ℤ pos t.over) (neg_ℤ (pos t.over *ℤ t.factor b j))) (cond (eqb j b) (t.factor q q *ℤ pos t.over) (t.factor b q *ℤ t.factor q j -ℤ t.factor q q *ℤ t.factor b j)) *ℤ z j))
        ≡ neg_ℤ (sign (t.factor b q) *ℤ pos t.over) *ℤ cond (x.basic j) (pos 0) (cond c (pos 0) (t.factor b j *ℤ z j))
    go j d true m c = rw m (omega (arith, ints))
    go j (inl d) false m c = absurd (false≢true (sym m ∙ ap x.basic d ∙ e))
    go j (inr d) false m true = rw m (omega (arith, ints))
    go j (inr d) false m false = rw (m, eq-eqb q q refl, ne_eqb j b d) (simp ring)

rest_of_other : (p : WholeProblem) (x : Corner) (t : Factors) (b q k : ℕ) (z : ℕ → ℤ) → x.basic b ≡ true → (k ≡ q → ⊥) → rest_for p x (factors_after_exchange t b q) k q z ≡ (sign (t.factor b q) *ℤ t.factor b q) *ℤ rest_for p x t k q z +ℤ neg_ℤ (sign (t.factor b q) *ℤ t.factor k q) *ℤ rest_for p x t b q z
unfolding rest_for factors_after_exchange
rest_of_other p x t b q k z e n = sum_same (variables p) _ _ (λ j l. go j (cases_eq j b) (x.basic j) refl (eqb j q)) ∙ combine (variables p) _ _ _ _
  where
    go : (j : ℕ) → ((j ≡ b) ⊎ (j ≡ b → ⊥)) → (s : Bool) → x.basic j ≡ s → (c : Bool) →
        cond (x.basic j) (pos 0) (cond c (pos 0) (sign (t.factor b q) *ℤ cond (eqb k q) (cond (eqb j b) (pos t.over *ℤ pos t.over) (neg_ℤ (pos t.over *ℤ t.factor b j))) (cond (eqb j b) (t.factor k q *ℤ pos t.over) (t.factor b q *ℤ t.factor k j -ℤ t.factor k q *ℤ t.factor b j)) *ℤ z j))
        ≡ (sign (t.factor b q) *ℤ t.factor b q) *ℤ cond (x.basic j) (pos 0) (cond c (pos 0) (t.factor k j *ℤ z j)) +ℤ neg_ℤ (sign (t.factor b q) *ℤ t.factor k q) *ℤ cond (x.basic j) (pos 0) (cond c (pos 0) (t.factor b j *ℤ z j))
    go j d true m c = rw m (omega (arith, ints))
    go j (inl d) false m c = absurd (false≢true (sym m ∙ ap x.basic d ∙ e))
    go j (inr d) false m true = rw m (omega (arith, ints))
    go j (inr d) false m false = rw (m, ne_eqb k q n, ne_eqb j b d) (simp ring)

-- ---- the two systems of sums, as equations of numbers: s is the sign and f the factor of q in the sum for b, w the denominator
ahead_q : (s f w zq zb rb : ℤ) → w *ℤ zb ≡ f *ℤ zq +ℤ rb → (s *ℤ f *ℤ w) *ℤ zq ≡ (s *ℤ (w *ℤ w)) *ℤ zb +ℤ neg_ℤ (s *ℤ w) *ℤ rb
ahead_q s f w zq zb rb h = let e : (s *ℤ w) *ℤ (w *ℤ zb) ≡ (s *ℤ w) *ℤ (f *ℤ zq +ℤ rb) = ap (λ (v : ℤ). (s *ℤ w) *ℤ v) h in simp ring (omega (arith, ints, simp ring at e))

ahead_other : (s f w c zq zb zk rb rk : ℤ) → w *ℤ zb ≡ f *ℤ zq +ℤ rb → w *ℤ zk ≡ c *ℤ zq +ℤ rk → (s *ℤ f *ℤ w) *ℤ zk ≡ (s *ℤ (c *ℤ w)) *ℤ zb +ℤ ((s *ℤ f) *ℤ rk +ℤ neg_ℤ (s *ℤ c) *ℤ rb)
ahead_other s f w c zq zb zk rb rk h k =
    let e : (s *ℤ c) *ℤ (w *ℤ zb) ≡ (s *ℤ c) *ℤ (f *ℤ zq +ℤ rb) = ap (λ (v : ℤ). (s *ℤ c) *ℤ v) h in
    let g : (s *ℤ f) *ℤ (w *ℤ zk) ≡ (s *ℤ f) *ℤ (c *ℤ zq +ℤ rk) = ap (λ (v : ℤ). (s *ℤ f) *ℤ v) k in
    simp ring (omega (arith, ints, simp ring at e, simp ring at g))

back_b : (a w : ℕ) (s f zq zb rb : ℤ) → 0 < a → 0 < w → pos a ≡ s *ℤ f → (s *ℤ f *ℤ pos w) *ℤ zq ≡ (s *ℤ (pos w *ℤ pos w)) *ℤ zb +ℤ neg_ℤ (s *ℤ pos w) *ℤ rb → pos w *ℤ zb ≡ f *ℤ zq +ℤ rb
back_b a w s f zq zb rb ha hw e h =
    let g : f *ℤ ((s *ℤ f *ℤ pos w) *ℤ zq) ≡ f *ℤ ((s *ℤ (pos w *ℤ pos w)) *ℤ zb +ℤ neg_ℤ (s *ℤ pos w) *ℤ rb) = ap (λ (v : ℤ). f *ℤ v) h in
    let l : pos a *ℤ (pos w *ℤ (pos w *ℤ zb)) ≡ pos a *ℤ (pos w *ℤ (f *ℤ zq +ℤ rb)) = rw e (simp ring (omega (arith, ints, simp ring at g))) in
    cancel_positive w _ _ hw (cancel_positive a _ _ ha l)

back_other : (a : ℕ) (s f w c zq zb zk rb rk : ℤ) → 0 < a → pos a ≡ s *ℤ f → w *ℤ zb ≡ f *ℤ zq +ℤ rb → (s *ℤ f *ℤ w) *ℤ zk ≡ (s *ℤ (c *ℤ w)) *ℤ zb +ℤ ((s *ℤ f) *ℤ rk +ℤ neg_ℤ (s *ℤ c) *ℤ rb) → w *ℤ zk ≡ c *ℤ zq +ℤ rk
back_other a s f w c zq zb zk rb rk ha e h k =
    let g : (s *ℤ c) *ℤ (w *ℤ zb) ≡ (s *ℤ c) *ℤ (f *ℤ zq +ℤ rb) = ap (λ (v : ℤ). (s *ℤ c) *ℤ v) h in
    let l : pos a *ℤ (w *ℤ zk) ≡ pos a *ℤ (c *ℤ zq +ℤ rk) = rw e (simp ring (omega (arith, ints, simp ring at g, simp ring at k))) in
    cancel_positive a _ _ ha l

pub factor_q : (t : Factors) (b q : ℕ) → (factors_after_exchange t b q).factor q b ≡ sign (t.factor b q) *ℤ (pos t.over *ℤ pos t.over)
unfolding factors_after_exchange
factor_q t b q = rw (eq-eqb q q refl, eq-eqb b b refl)

pub factor_other : (t : Factors) (b q k : ℕ) → (k ≡ q → ⊥) → (factors_after_exchange t b q).factor k b ≡ sign (t.factor b q) *ℤ (t.factor k q *ℤ pos t.over)
unfolding factors_after_exchange
factor_other t b q k n = rw (ne_eqb k q n, eq-eqb b b refl)

pub over_is : (t : Factors) (b q : ℕ) → pos (factors_after_exchange t b q).over ≡ sign (t.factor b q) *ℤ t.factor b q *ℤ pos t.over
unfolding factors_after_exchange
over_is t b q = ap (λ (v : ℤ). v *ℤ pos t.over) (unsigned_abs-sign (t.factor b q))

module _ (p : WholeProblem) (x : Corner) (t : Factors) (above : Bool) (b q : ℕ) (hb : b < variables p) (hq : q < variables p) (eb : x.basic b ≡ true) (eq : x.basic q ≡ false) (n : t.factor b q ≢ pos 0) where
  after_q : (z : ℕ → ℤ) → sum_for p (corner_after_exchange p x above b q) (factors_after_exchange t b q) q z ≡ (sign (t.factor b q) *ℤ (pos t.over *ℤ pos t.over)) *ℤ z b +ℤ neg_ℤ (sign (t.factor b q) *ℤ pos t.over) *ℤ rest_for p x t b q z
  after_q z = sum_afterwards p x (factors_after_exchange t b q) above q b q z hb eb eq ∙ rw (factor_q t b q, rest_of_q p x t b q z eb)

  after_other : (k : ℕ) (z : ℕ → ℤ) → (k ≡ q → ⊥) → sum_for p (corner_after_exchange p x above b q) (factors_after_exchange t b q) k z ≡ (sign (t.factor b q) *ℤ (t.factor k q *ℤ pos t.over)) *ℤ z b +ℤ ((sign (t.factor b q) *ℤ t.factor b q) *ℤ rest_for p x t k q z +ℤ neg_ℤ (sign (t.factor b q) *ℤ t.factor k q) *ℤ rest_for p x t b q z)
  after_other k z c = sum_afterwards p x (factors_after_exchange t b q) above k b q z hb eb eq ∙ rw (factor_other t b q k c, rest_of_other p x t b q k z eb c)

  exchange_meets : (z : ℕ → ℤ) → ((k : ℕ) → k < variables p → x.basic k ≡ true → pos t.over *ℤ z k ≡ sum_for p x t k z) → (k : ℕ) → k < variables p → (corner_after_exchange p x above b q).basic k ≡ true → pos (factors_after_exchange t b q).over *ℤ z k ≡ sum_for p (corner_after_exchange p x above b q) (factors_after_exchange t b q) k z
  exchange_meets z m k h e = rw (over_is t b q) (go (cases_eq k q) (cases_eq k b))
    where
      row_b : pos t.over *ℤ z b ≡ t.factor b q *ℤ z q +ℤ rest_for p x t b q z
      row_b = m b hb eb ∙ sum_before p x t b q z hq eq

      go : ((k ≡ q) ⊎ (k ≡ q → ⊥)) → ((k ≡ b) ⊎ (k ≡ b → ⊥)) → sign (t.factor b q) *ℤ t.factor b q *ℤ pos t.over *ℤ z k ≡ sum_for p (corner_after_exchange p x above b q) (factors_after_exchange t b q) k z
      go (inl c) d = rw c (ahead_q (sign (t.factor b q)) (t.factor b q) (pos t.over) (z q) (z b) (rest_for p x t b q z) row_b ∙ sym (after_q z))
      go (inr c) (inl d) = absurd (false≢true (sym (left_basic p x above b q (λ g. c (d ∙ g))) ∙ ap (corner_after_exchange p x above b q).basic (sym d) ∙ e))
      go (inr c) (inr d) = ahead_other (sign (t.factor b q)) (t.factor b q) (pos t.over) (t.factor k q) (z q) (z b) (z k) (rest_for p x t b q z) (rest_for p x t k q z) row_b (m k h (sym (kept_basic p x above b q k d c) ∙ e) ∙ sum_before p x t k q z hq eq) ∙ sym (after_other k z c)

  exchange_met : (z : ℕ → ℤ) → 0 < t.over → ((k : ℕ) → k < variables p → (corner_after_exchange p x above b q).basic k ≡ true → pos (factors_after_exchange t b q).over *ℤ z k ≡ sum_for p (corner_after_exchange p x above b q) (factors_after_exchange t b q) k z) → (k : ℕ) → k < variables p → x.basic k ≡ true → pos t.over *ℤ z k ≡ sum_for p x t k z
  exchange_met z w m k h e = go (cases_eq k b)
    where
      not_q : k ≡ q → ⊥
      not_q c = false≢true (sym eq ∙ ap x.basic (sym c) ∙ e)

      row_b : pos t.over *ℤ z b ≡ t.factor b q *ℤ z q +ℤ rest_for p x t b q z
      row_b = back_b (unsigned_abs (t.factor b q)) t.over (sign (t.factor b q)) (t.factor b q) (z q) (z b) (rest_for p x t b q z) (unsigned_abs_some _ n) w (unsigned_abs-sign (t.factor b q)) (rw over_is at (m q hq (entered_basic p x above b q)) ∙ after_q z)

      go : ((k ≡ b) ⊎ (k ≡ b → ⊥)) → pos t.over *ℤ z k ≡ sum_for p x t k z
      go (inl d) = rw d (row_b ∙ sym (sum_before p x t b q z hq eq))
      go (inr d) = back_other (unsigned_abs (t.factor b q)) (sign (t.factor b q)) (t.factor b q) (pos t.over) (t.factor k q) (z q) (z b) (z k) (rest_for p x t b q z) (rest_for p x t k q z) (unsigned_abs_some _ n) (unsigned_abs-sign (t.factor b q)) row_b
          (rw over_is at (m k h (kept_basic p x above b q k d not_q ∙ e)) ∙ after_other k z not_q) ∙ sym (sum_before p x t k q z hq eq)

  pub exchange_solves : IsSolvedForm p x t → IsSolvedForm p (corner_after_exchange p x above b q) (factors_after_exchange t b q)
  unfolding factors_after_exchange
  exchange_solves f = record {
    positive = mul-pos (unsigned_abs_some _ n) f.positive;
    sums = λ z m. exchange_meets z (f.sums z m);
    rows = λ z m. f.rows z (exchange_met z f.positive m);
  }
