-- A contradiction over whole numbers: what is listed excludes every list of whole numbers.
use Rattle.std.proofs.Common.{◌≡◌, ℕ, zero, suc, ◌<◌, Bool, true, false, ◌||◌, List, ℤ, pos, ◌+ℤ◌, ◌-ℤ◌, ◌*ℤ◌, ◌<ℤ◌, ◌⊎◌, inl, inr, ◌∙◌, arith}
use Rattle.std.proofs.lemmas.Int.{ints}
use Rattle.std.proofs.lemmas.Bool.{false≢true}
use Rattle.std.specs.Prelude.{IsTrue}
use Rattle.std.specs.List.{AllByRecursion, list_any}
use Rattle.xc_model.proofs.Integers.{ring, cancel}
use Rattle.xc_system.proofs.Totals.{sum_below, sum_of_zeros, one_at, Term, total, total_same, total_zero, total_by_units, totals_by_units, IsLess, less_plus, total_less}

three_sums : (n : ℕ) (c : ℤ) (z f g h : ℕ → ℤ) → sum_below n (λ j. f j *ℤ z j) +ℤ c *ℤ (sum_below n (λ j. g j *ℤ z j) -ℤ sum_below n (λ j. h j *ℤ z j)) ≡ sum_below n (λ j. (f j +ℤ c *ℤ (g j -ℤ h j)) *ℤ z j)
three_sums zero c z f g h = omega (arith, ints)
three_sums (suc n) c z f g h = let i : sum_below n (λ j. f j *ℤ z j) +ℤ c *ℤ (sum_below n (λ j. g j *ℤ z j) -ℤ sum_below n (λ j. h j *ℤ z j)) ≡ sum_below n (λ j. (f j +ℤ c *ℤ (g j -ℤ h j)) *ℤ z j) = three_sums n c z f g h in simp ring (omega (arith, ints, simp ring at i))

-- numbers below n, rows of them with factors over d, the numbers to which ends belong, and these ends
pub record Whole : Type 0 where
  pub n : ℕ
  pub d : ℕ
  pub rows : ℕ → List Term
  pub of : ℕ → ℕ
  pub low : ℕ → ℤ
  pub high : ℕ → ℤ
  pub low_opens : ℕ → Bool
  pub high_opens : ℕ → Bool
  pub bindings : List Term
  pub lows : List Term
  pub highs : List Term

-- how often number j counts
abbrev pub counts : Whole → ℕ → ℤ
counts w j = total w.bindings (λ i. total (w.rows i) (one_at j)) +ℤ pos w.d *ℤ (total w.lows (λ k. one_at j (w.of k)) -ℤ total w.highs (λ k. one_at j (w.of k)))

-- what is listed is there, positive, and cancels, and what is left falls short of 0
pub record Contradicts (w : Whole) : Type 0 where
  pub positive : 0 < w.d
  pub bindings : AllByRecursion (λ t. AllByRecursion (λ e. e.0 < w.n) (w.rows t.0)) w.bindings
  pub lows : AllByRecursion (λ t. w.of t.0 < w.n) w.lows
  pub highs : AllByRecursion (λ t. w.of t.0 < w.n) w.highs
  pub cancels : (j : ℕ) → j < w.n → counts w j ≡ pos 0
  pub short : ((total w.highs w.high -ℤ total w.lows w.low) <ℤ pos 0) ⊎ ((total w.highs w.high -ℤ total w.lows w.low ≡ pos 0) × IsTrue (list_any (λ t. w.low_opens t.0) w.lows || list_any (λ t. w.high_opens t.0) w.highs))

-- the numbers z lie between the listed ends, and meet the listed rows
pub record Meets (w : Whole) (z : ℕ → ℤ) : Type 0 where
  pub bindings : AllByRecursion (λ t. total (w.rows t.0) z ≡ pos 0) w.bindings
  pub lows : AllByRecursion (λ t. (pos 0 <ℤ t.1) × IsLess (w.low_opens t.0) (w.low t.0) (z (w.of t.0))) w.lows
  pub highs : AllByRecursion (λ t. (pos 0 <ℤ t.1) × IsLess (w.high_opens t.0) (z (w.of t.0)) (w.high t.0)) w.highs

by_counts : (w : Whole) (c : Contradicts w) (z : ℕ → ℤ)
    → total w.bindings (λ i. total (w.rows i) z) +ℤ pos w.d *ℤ (total w.lows (λ k. z (w.of k)) -ℤ total w.highs (λ k. z (w.of k))) ≡ sum_below w.n (λ j. counts w j *ℤ z j)
by_counts w c z =
    let a : total w.lows (λ k. z (w.of k)) ≡ sum_below w.n (λ j. total w.lows (λ k. one_at j (w.of k)) *ℤ z j) = total_by_units w.n w.lows w.of z c.lows in
    let b : total w.highs (λ k. z (w.of k)) ≡ sum_below w.n (λ j. total w.highs (λ k. one_at j (w.of k)) *ℤ z j) = total_by_units w.n w.highs w.of z c.highs in
    let e : total w.bindings (λ i. total (w.rows i) z) ≡ sum_below w.n (λ j. total w.bindings (λ i. total (w.rows i) (one_at j)) *ℤ z j) = totals_by_units w.n w.bindings w.rows z c.bindings in
    rw (a, b, e) (three_sums w.n (pos w.d) z (λ j. total w.bindings (λ i. total (w.rows i) (one_at j))) (λ j. total w.lows (λ k. one_at j (w.of k))) (λ j. total w.highs (λ k. one_at j (w.of k))))

same_values : (c : ℕ) (a b : ℤ) → 0 < c → pos 0 +ℤ pos c *ℤ (a -ℤ b) ≡ pos 0 → a ≡ b
same_values c a b p e =
    let f : pos c *ℤ (a -ℤ b) ≡ pos 0 = omega (arith, ints) in
    cancel (pos c) a b (λ q. absurd (omega (arith, ints, q))) (omega (arith, ints, simp ring at f))

clash : (o : Bool) (l h m : ℤ) → IsLess o (l +ℤ m) (m +ℤ h) → ((h -ℤ l) <ℤ pos 0) ⊎ ((h -ℤ l ≡ pos 0) × IsTrue o) → ⊥
clash true l h m k (inl c) = omega (arith, ints)
clash false l h m k (inl c) = omega (arith, ints)
clash true l h m k (inr c) = omega (arith, ints, c.0)
clash false l h m k (inr c) = absurd (false≢true c.1)

pub excluded : (w : Whole) (z : ℕ → ℤ) → Contradicts w → Meets w z → ⊥
excluded w z c p =
    let none : total w.bindings (λ i. total (w.rows i) z) +ℤ pos w.d *ℤ (total w.lows (λ k. z (w.of k)) -ℤ total w.highs (λ k. z (w.of k))) ≡ pos 0 =
    by_counts w c z ∙ sum_of_zeros w.n _ (λ j h. let e : counts w j ≡ pos 0 = c.cancels j h in rw e (omega (arith, ints))) in
    let rows : total w.bindings (λ i. total (w.rows i) z) ≡ pos 0 = total_same w.bindings _ _ p.bindings ∙ total_zero w.bindings in
    let same : total w.lows (λ k. z (w.of k)) ≡ total w.highs (λ k. z (w.of k)) = same_values w.d _ _ c.positive (rw rows at none) in
    let k : IsLess (list_any (λ t. w.low_opens t.0) w.lows || list_any (λ t. w.high_opens t.0) w.highs) (total w.lows w.low +ℤ total w.highs (λ k. z (w.of k))) (total w.lows (λ k. z (w.of k)) +ℤ total w.highs w.high) =
    less_plus _ _ _ _ _ _ (total_less w.lows w.low_opens w.low (λ k. z (w.of k)) p.lows) (total_less w.highs w.high_opens (λ k. z (w.of k)) w.high p.highs) in
    clash _ (total w.lows w.low) (total w.highs w.high) (total w.highs (λ k. z (w.of k))) (rw same at k) c.short
