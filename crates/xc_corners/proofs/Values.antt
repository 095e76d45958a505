-- The values at a corner.
use Rattle.std.proofs.Common.{◌≡◌, ℕ, ◌<◌, Bool, true, false, cond, ℤ, pos, ◌*ℤ◌, refl, ◌∙◌, arith}
use Rattle.std.proofs.lemmas.Int.{ints}
use Rattle.xc_model.proofs.Integers.{mul_left_comm}
use Rattle.xc_model.proofs.Pairs.{same_pairs}
use Rattle.xc_corners.specs.Choices.{Leaves}
use Rattle.xc_corners.specs.Corners.{variables, low_bound, high_bound, AddUp, Corner, Factors, sum_for, IsSolvedForm, bound, spread, value, IsWithin}
use Rattle.xc_corners.specs.Pairs.{◌≼◌, times}
use Rattle.xc_corners.specs.Problems.{WholeProblem}
use Rattle.xc_corners.proofs.Moves.{IsOpen}
use Rattle.xc_corners.proofs.Pairs.{le_refl, times_le}
use Rattle.xc_corners.proofs.Sums.{sum_same, sum_scale}

-- ---- the values at a corner meet the definitions
nonbasic_term : (p : WholeProblem) (x : Corner) (t : Factors) (z : ℕ → ℤ) (b j : ℕ) (s : Bool) → x.basic j ≡ s → pos t.over *ℤ cond (x.basic j) (pos 0) (t.factor b j *ℤ z j) ≡ cond (x.basic j) (pos 0) (t.factor b j *ℤ spread p x t z j)
unfolding spread
nonbasic_term p x t z b j true e = rw e (omega (arith, ints))
nonbasic_term p x t z b j false e = rw e (mul_left_comm (pos t.over) (t.factor b j) (z j))

sum_of_spread : (p : WholeProblem) (x : Corner) (t : Factors) (z : ℕ → ℤ) (b : ℕ) → pos t.over *ℤ sum_for p x t b z ≡ sum_for p x t b (spread p x t z)
unfolding sum_for
sum_of_spread p x t z b = sum_scale (variables p) (pos t.over) _ ∙ sum_same (variables p) _ _ (λ j h. nonbasic_term p x t z b j (x.basic j) refl)

pub spread_at_basic : (p : WholeProblem) (x : Corner) (t : Factors) (z : ℕ → ℤ) (b : ℕ) → x.basic b ≡ true → spread p x t z b ≡ sum_for p x t b z
unfolding spread
spread_at_basic p x t z b e = rw e

pub spread_at_other : (p : WholeProblem) (x : Corner) (t : Factors) (z : ℕ → ℤ) (b : ℕ) → x.basic b ≡ false → spread p x t z b ≡ pos t.over *ℤ z b
unfolding spread
spread_at_other p x t z b e = rw e

pub spread_meets : (p : WholeProblem) (x : Corner) (t : Factors) (z : ℕ → ℤ) → IsSolvedForm p x t → AddUp p (spread p x t z)
spread_meets p x t z f = f.rows (spread p x t z) (λ b h e. rw (spread_at_basic p x t z b e) (sum_of_spread p x t z b))

pub value_at_other : (p : WholeProblem) (x : Corner) (t : Factors) (j : ℕ) → x.basic j ≡ false → value p x t j ≡ times (pos t.over) (bound p x j)
unfolding value
value_at_other p x t j e = same_pairs _ _ (spread_at_other p x t _ j e) (spread_at_other p x t _ j e)

pub bound_within : (p : WholeProblem) (x : Corner) (j : ℕ) (s : Bool) → x.high j ≡ s → low_bound p j ≼ high_bound p j → (low_bound p j ≼ bound p x j) × (bound p x j ≼ high_bound p j)
unfolding bound
bound_within p x j true e h = rw e (h, le_refl (high_bound p j))
bound_within p x j false e h = rw e (le_refl (low_bound p j), h)

pub other_within : (p : WholeProblem) (x : Corner) (t : Factors) (j : ℕ) → IsOpen p → x.basic j ≡ false → IsWithin p x t j
other_within p x t j o e =
    let w : (low_bound p j ≼ bound p x j) × (bound p x j ≼ high_bound p j) = bound_within p x j (x.high j) refl (o j) in
    rw (value_at_other p x t j e) (times_le (pos t.over) _ _ (omega (arith, ints)) w.0, times_le (pos t.over) _ _ (omega (arith, ints)) w.1)

-- a variable less than the one that leaves is within its bounds
pub lesser_within : (p : WholeProblem) (x : Corner) (t : Factors) (above : Bool) (r j : ℕ) → IsOpen p → Leaves p x t above r → j < r → IsWithin p x t j
lesser_within p x t above r j o v h = go (x.basic j) refl
  where
    go : (s : Bool) → x.basic j ≡ s → IsWithin p x t j
    go true e = v.least j h e
    go false e = other_within p x t j o e

pub sum_for_same : (p : WholeProblem) (x : Corner) (t : Factors) (b : ℕ) (y z : ℕ → ℤ) → ((j : ℕ) → j < variables p → x.basic j ≡ false → y j ≡ z j) → sum_for p x t b y ≡ sum_for p x t b z
unfolding sum_for
sum_for_same p x t b y z h = sum_same (variables p) _ _ (λ j k. go j k (x.basic j) refl)
  where
    go : (j : ℕ) → j < variables p → (s : Bool) → x.basic j ≡ s → cond (x.basic j) (pos 0) (t.factor b j *ℤ y j) ≡ cond (x.basic j) (pos 0) (t.factor b j *ℤ z j)
    go j k true e = rw e
    go j k false e = rw (e, h j k e)

pub sum_for_scale : (p : WholeProblem) (x : Corner) (t : Factors) (b : ℕ) (c : ℤ) (z : ℕ → ℤ) → c *ℤ sum_for p x t b z ≡ sum_for p x t b (λ j. c *ℤ z j)
unfolding sum_for
sum_for_scale p x t b c z = sum_scale (variables p) c _ ∙ sum_same (variables p) _ _ (λ j h. go j (x.basic j))
  where
    go : (j : ℕ) (s : Bool) → c *ℤ cond s (pos 0) (t.factor b j *ℤ z j) ≡ cond s (pos 0) (t.factor b j *ℤ (c *ℤ z j))
    go j true = omega (arith, ints)
    go j false = mul_left_comm c (t.factor b j) (z j)
