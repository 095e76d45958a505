-- The run of corners is one list, and ends where there is no choice.
use Rattle.std.proofs.Common.{◌≡◌, ℕ, zero, suc, ◌+◌, Bool, ◌⊎◌, inl, inr, ⊎_elim, refl, sym, subst, ◌∙◌, arith}
use Rattle.xc_corners.specs.Choices.{Enters, Exchange, Exchanges, IsFeasible, IsConflict}
use Rattle.xc_corners.specs.Corners.{Corner, Factors, IsSolvedForm}
use Rattle.xc_corners.specs.Problems.{WholeProblem, IsWholeProblem}
use Rattle.xc_corners.proofs.OneChoice.{one_next, one_leaving, within_same, past_not_within, can_enter_same}

-- so the run is one list
pub one_run : (p : WholeProblem) → IsWholeProblem p → (n : ℕ) (x y z : Corner) → Exchanges p n x y → Exchanges p n x z → y ≡ z
one_run p h zero x y z e f = sym e ∙ f
one_run p h (suc n) x y z (u, b, q, e, es) (w, d, r, f, fs) = one_run p h n u y z es (subst (λ (c : Corner). Exchanges p n c z) (sym (one_next p h x b q d r u w e f).2) fs)

-- one exchange more
pub one_more : (p : WholeProblem) (n : ℕ) (x y z : Corner) (b q : ℕ) → Exchanges p n x y → Exchange p y b q z → Exchanges p (suc n) x z
one_more p zero x y z b q e f = (z, b, q, rw e f, refl)
one_more p (suc n) x y z b q (u, d, r, e, es) f = (u, d, r, e, one_more p n u y z b q es f)

-- of two corners of the run, one leads to the other
pub along : (p : WholeProblem) → IsWholeProblem p → (m n : ℕ) (x y z : Corner) → Exchanges p m x y → Exchanges p n x z → ((k : ℕ) × Exchanges p k y z × (n ≡ m + k)) ⊎ ((k : ℕ) × Exchanges p k z y × (m ≡ n + k))
along p h zero n x y z e f = inl (n, subst (λ (c : Corner). Exchanges p n c z) e f, omega arith)
along p h (suc m) zero x y z e f = inr (suc m, subst (λ (c : Corner). Exchanges p (suc m) c y) f e, omega arith)
along p h (suc m) (suc n) x y z (u, b, q, e, es) (w, d, r, f, fs) = ⊎_elim
    (λ (i : (k : ℕ) × Exchanges p k y z × (n ≡ m + k)). inl (i.0, i.1, omega (arith, i.2)))
    (λ (i : (k : ℕ) × Exchanges p k z y × (m ≡ n + k)). inr (i.0, i.1, omega (arith, i.2)))
    (along p h m n u y z es (subst (λ (c : Corner). Exchanges p n c z) (sym (one_next p h x b q d r u w e f).2) fs))

-- no exchange follows a feasible corner or a conflict
pub feasible_last : (p : WholeProblem) (x : Corner) (t : Factors) (b q : ℕ) (y : Corner) → IsSolvedForm p x t → IsFeasible p x t → Exchange p x b q y → ⊥
feasible_last p x t b q y f w e = past_not_within p x e.factors e.above b e.leaves.outside (within_same p x t e.factors b e.leaves.is_variable f e.solved (w.within b e.leaves.is_variable e.leaves.basic))

pub conflict_last : (p : WholeProblem) → IsWholeProblem p → (x : Corner) (t : Factors) (a : Bool) (b d q : ℕ) (y : Corner) → IsSolvedForm p x t → IsConflict p x t a b → Exchange p x d q y → ⊥
conflict_last p h x t a b d q y f k e =
    let leaving : (a ≡ e.above) × (b ≡ d) = one_leaving p h x t e.factors a e.above b d f e.solved k.leaves e.leaves in
    let enters : Enters p x e.factors a b q = rw (leaving.0, leaving.1) e.enters in
    k.none q enters.is_variable (can_enter_same p x e.factors t a b q e.solved f k.leaves.is_variable enters.is_variable k.leaves.basic enters.can)
