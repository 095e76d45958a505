-- Sums over different places.
use Rattle.std.proofs.Common.{◌≡◌, ◌≢◌, ℕ, zero, suc, ◌+◌, ◌<◌, ◌≤◌, List, [], ◌∷◌, inl, inr, refl, sym, ap, ◌∙◌, arith, ◌⊎◌}
use Rattle.std.specs.Prelude.{fold, sum_by, ◌==◌, if◌then◌else◌}
use Rattle.std.proofs.lemmas.Bool.{cases_eq, eq-eqb, ne_eqb}
use Rattle.xc_lists.specs.Members.{IsIn, IsOnce}
use Rattle.xc_forest.specs.Laws.{count_below}

-- f, but 0 at v
abbrev but : (ℕ → ℕ) → ℕ → ℕ → ℕ
but f v w = if w == v then 0 else f w

but_here : (f : ℕ → ℕ) (v : ℕ) → but f v v ≡ 0
but_here f v = ap (λ b. if b then 0 else f v) (eq-eqb v v refl)

but_other : (f : ℕ → ℕ) (v w : ℕ) → w ≢ v → but f v w ≡ f w
but_other f v w h = ap (λ b. if b then 0 else f w) (ne_eqb w v h)

same_count_below : (n : ℕ) (f g : ℕ → ℕ) → ((w : ℕ) → w < n → f w ≡ g w) → count_below n f ≡ count_below n g
same_count_below zero f g h = refl
same_count_below (suc n) f g h = let i = same_count_below n f g (λ w l. h w (omega (arith, l))) in let k = h n (omega arith) in omega (arith, i, k)

taken : (n v : ℕ) (f : ℕ → ℕ) → v < n → count_below n (but f v) + f v ≡ count_below n f
taken zero v f l = absurd (omega (arith, l))
taken (suc n) v f l = go (cases_eq v n) (λ e. taken n v f (omega (arith, l, e)))
  where
    go : (v ≡ n) ⊎ (v ≢ n) → (v ≢ n → count_below n (but f v) + f v ≡ count_below n f) → count_below (suc n) (but f v) + f v ≡ count_below (suc n) f
    go (inl e) less = let i = same_count_below n (but f v) f (λ w m. but_other f v w (λ s. omega (arith, s, e, m))) in let k : but f v n ≡ 0 = ap (but f v) (sym e) ∙ but_here f v in let j = ap f e in omega (arith, i, k, j)
    go (inr e) less = let i = less e in let k : but f v n ≡ f n = but_other f v n (λ s. e (sym s)) in omega (arith, i, k)

from_start : (f : ℕ → ℕ) (a : ℕ) (vs : List ℕ) → fold (λ b w. b + f w) a vs ≡ a + sum_by f vs
from_start f a [] = omega arith
from_start f a (v ∷ vs) = let i = from_start f (a + f v) vs in let k = from_start f (0 + f v) vs in omega (arith, i, k)

pub more_sum : (f : ℕ → ℕ) (v : ℕ) (vs : List ℕ) → sum_by f (v ∷ vs) ≡ f v + sum_by f vs
more_sum f v vs = let k = from_start f (0 + f v) vs in omega (arith, k)

kept : (vs : List ℕ) (v : ℕ) (f : ℕ → ℕ) → (IsIn v vs → ⊥) → sum_by (but f v) vs ≡ sum_by f vs
kept [] v f h = refl
kept (w ∷ vs) v f h = let i = kept vs v f (λ k. h (inr k)) in let k : but f v w ≡ f w = but_other f v w (λ e. h (inl (sym e))) in omega (arith, i, k, more_sum f w vs, more_sum (but f v) w vs)

-- a sum over different places is no greater than that over all
pub once_below : (vs : List ℕ) (n : ℕ) (f : ℕ → ℕ) → IsOnce vs → ((v : ℕ) → IsIn v vs → v < n) → sum_by f vs ≤ count_below n f
once_below [] n f o h = omega arith
once_below (v ∷ vs) n f o h =
    let i : sum_by (but f v) vs ≤ count_below n (but f v) = once_below vs n (but f v) o.1 (λ w k. h w (inr k)) in
    let e = kept vs v f o.0 in
    let t = taken n v f (h v (inl refl)) in
    omega (arith, i, e, t, more_sum f v vs)
