-- Laws of sums over a list of vertices.
use Rattle.std.proofs.Common.{◌≡◌, ◌≢◌, ℕ, List, [], ◌∷◌, ℤ, pos, ◌+ℤ◌, inl, inr, refl, sym, subst, arith}
use Rattle.std.proofs.lemmas.Int.{ints}
use Rattle.xc_lists.specs.Members.{IsIn, IsOnce}
use Rattle.xc_forest.specs.Steps.Vertices.{sum_over}

pub sum_same : (vs : List ℕ) (f g : ℕ → ℤ) → ((v : ℕ) → IsIn v vs → f v ≡ g v) → sum_over vs f ≡ sum_over vs g
sum_same [] f g h = refl
sum_same (v ∷ vs) f g h =
    let a : f v ≡ g v = h v (inl refl) in
    let b : sum_over vs f ≡ sum_over vs g = sum_same vs f g (λ u k. h u (inr k)) in
    omega (arith, ints)

pub sum_zero : (vs : List ℕ) (f : ℕ → ℤ) → ((v : ℕ) → IsIn v vs → f v ≡ pos 0) → sum_over vs f ≡ pos 0
sum_zero [] f h = refl
sum_zero (v ∷ vs) f h =
    let a : f v ≡ pos 0 = h v (inl refl) in
    let b : sum_over vs f ≡ pos 0 = sum_zero vs f (λ u k. h u (inr k)) in
    omega (arith, ints)

pub apart : (u v : ℕ) (vs : List ℕ) → IsIn u vs → (IsIn v vs → ⊥) → u ≢ v
apart u v vs h k e = k (subst (λ (x : ℕ). IsIn x vs) e h)

-- f and g differ at r alone
pub sum_change : (vs : List ℕ) (r : ℕ) (f g : ℕ → ℤ) → IsOnce vs → IsIn r vs → ((v : ℕ) → IsIn v vs → v ≢ r → f v ≡ g v) → sum_over vs f +ℤ g r ≡ sum_over vs g +ℤ f r
sum_change [] r f g d h k = absurd h
sum_change (v ∷ vs) r f g d (inl e) k =
    let a : sum_over vs f ≡ sum_over vs g = sum_same vs f g (λ u i. k u (inr i) (λ q. d.0 (subst (λ (x : ℕ). IsIn x vs) (same u q) i))) in
    rw e (omega (arith, ints))
  where
    same : (u : ℕ) → u ≡ r → u ≡ v
    same u q = cc
sum_change (v ∷ vs) r f g d (inr i) k =
    let a : f v ≡ g v = k v (inl refl) (λ e. d.0 (subst (λ (x : ℕ). IsIn x vs) (sym e) i)) in
    let b : sum_over vs f +ℤ g r ≡ sum_over vs g +ℤ f r = sum_change vs r f g d.1 i (λ u j n. k u (inr j) n) in
    omega (arith, ints)

pub sum_single : (vs : List ℕ) (r : ℕ) (f : ℕ → ℤ) → IsOnce vs → IsIn r vs → ((v : ℕ) → IsIn v vs → v ≢ r → f v ≡ pos 0) → sum_over vs f ≡ f r
sum_single vs r f d h k =
    let a : sum_over vs f +ℤ pos 0 ≡ sum_over vs (λ v. pos 0) +ℤ f r = sum_change vs r f (λ v. pos 0) d h k in
    let b : sum_over vs (λ v. pos 0) ≡ pos 0 = sum_zero vs (λ v. pos 0) (λ v i. refl) in
    omega (arith, ints)
