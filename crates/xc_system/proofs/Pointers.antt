-- Pointers, their roots, and one write of a pointer.
use Rattle.std.proofs.Common.{◌≡◌, ℕ, ◌<◌, ◌≤◌, List, length, set, get_or, ◌⊎◌, inl, inr, refl, sym, ap, ◌∙◌, arith, cond, eqb, max, min, subst}
use Rattle.std.proofs.lemmas.List.{get_or-set_same, get_or-set_other, length-set}
use Rattle.std.proofs.lemmas.Bool.{cases_eq, eq-eqb, ne_eqb}
use Rattle.xc_system.specs.Steps.Roots.{Descends, IsRoots, roots_after_join}

-- q is pointed to a lesser number with the same root
pub descends_set : (up : List ℕ) (q v : ℕ) → Descends up → q < length up → v ≤ q → Descends (set up q v)
descends_set up q v h l k p m = go (cases_eq p q)
  where
    go : ((p ≡ q) ⊎ (p ≡ q → ⊥)) → get_or (set up q v) p 0 ≤ p
    go (inl e) = rw (e, get_or-set_same up q v 0 l) k
    go (inr e) = rw (get_or-set_other up q p v 0 e) (h p (omega (arith, length-set up q v)))

pub roots_set : (up : List ℕ) (q v : ℕ) (root : ℕ → ℕ) → IsRoots up root → q < length up → root v ≡ root q → (v ≡ q → get_or up q 0 ≡ q) → IsRoots (set up q v) root
roots_set up q v root h l e n = record { kept = λ p m. kept p (omega (arith, length-set up q v)) (cases_eq p q); own = λ p m. own p (omega (arith, length-set up q v)) (cases_eq p q) }
  where
    kept : (p : ℕ) → p < length up → ((p ≡ q) ⊎ (p ≡ q → ⊥)) → root (get_or (set up q v) p 0) ≡ root p
    kept p m (inl f) = rw (f, get_or-set_same up q v 0 l) e
    kept p m (inr f) = rw (get_or-set_other up q p v 0 f) (h.kept p m)

    own : (p : ℕ) → p < length up → ((p ≡ q) ⊎ (p ≡ q → ⊥)) → get_or (set up q v) p 0 ≡ p → root p ≡ p
    own p m (inl f) k = rw f (h.own q l (n (rw (f, get_or-set_same up q v 0 l) at k)))
    own p m (inr f) k = h.own p m (rw (get_or-set_other up q p v 0 f) at k)

-- two steps up
pub root_twice : (up : List ℕ) (q a : ℕ) (root : ℕ → ℕ) → IsRoots up root → Descends up → q < length up → get_or up q 0 ≡ a → root (get_or up a 0) ≡ root q
root_twice up q a root h d l e =
    let k : get_or up q 0 ≤ q = d q l in
    let m : a < length up = omega (arith, e) in
    h.kept a m ∙ (ap root (sym e) ∙ h.kept q l)

-- ---- two roots are joined
abbrev renamed : ℕ → ℕ → (ℕ → ℕ) → ℕ → ℕ
renamed m n root q = cond (eqb (root q) m) n (root q)

roots_renamed : (up : List ℕ) (m n : ℕ) (root : ℕ → ℕ) → IsRoots up root → m < length up → root m ≡ m → root n ≡ n → IsRoots (set up m n) (renamed m n root)
roots_renamed up m n root h l e f = record { kept = λ p k. kept p (omega (arith, length-set up m n)) (cases_eq p m); own = λ p k. own p (omega (arith, length-set up m n)) (cases_eq p m) }
  where
    at_n : ((n ≡ m) ⊎ (n ≡ m → ⊥)) → renamed m n root n ≡ n
    at_n (inl q) = rw (f, eq-eqb n m q)
    at_n (inr q) = rw (f, ne_eqb n m q)

    at_m : renamed m n root m ≡ n
    at_m = rw (e, eq-eqb m m refl)

    kept : (p : ℕ) → p < length up → ((p ≡ m) ⊎ (p ≡ m → ⊥)) → renamed m n root (get_or (set up m n) p 0) ≡ renamed m n root p
    kept p k (inl q) = rw (q, get_or-set_same up m n 0 l) (at_n (cases_eq n m) ∙ sym at_m)
    kept p k (inr q) = rw (get_or-set_other up m p n 0 q) (ap (λ (r : ℕ). cond (eqb r m) n r) (h.kept p k))

    own : (p : ℕ) → p < length up → ((p ≡ m) ⊎ (p ≡ m → ⊥)) → get_or (set up m n) p 0 ≡ p → renamed m n root p ≡ p
    own p k (inl q) j = rw q (at_m ∙ rw (q, get_or-set_same up m n 0 l) at j)
    own p k (inr q) j = rw (h.own p k (rw (get_or-set_other up m p n 0 q) at j), ne_eqb p m q)

pub roots_join : (up : List ℕ) (m n : ℕ) (root : ℕ → ℕ) (a b : ℕ) → IsRoots up root → m < length up → root m ≡ m → root n ≡ n → m ≡ max (root a) (root b) → n ≡ min (root a) (root b) → IsRoots (set up m n) (roots_after_join root a b)
roots_join up m n root a b h l e f s t =
    let P : ℕ → ℕ → Type 0 = λ x y. IsRoots (set up m n) (λ q. cond (eqb (root q) x) y (root q)) in
    subst (λ (x : ℕ). P x (min (root a) (root b))) s (subst (λ (y : ℕ). P m y) t (roots_renamed up m n root h l e f))
