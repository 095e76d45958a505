-- Numbers of roots.
use Rattle.std.proofs.Common.{◌≡◌, ℕ, ◌+◌, ◌<◌, List, [], ◌∷◌, ◌++◌, length, get_or, ◌⊎◌, inl, inr, sym, ap, ◌∙◌, arith, add-one}
use Rattle.std.proofs.lemmas.Bool.{cases_eq, eq-eqb, ne_eqb}
use Rattle.std.proofs.lemmas.List.{get_or_append_left, get_or_push}
use Rattle.xc_system.specs.Steps.Roots.{IsRoots, rank}

pub rank_more_own : (up : List ℕ) (p : ℕ) → get_or up p 0 ≡ p → rank up (p + 1) ≡ rank up p + 1
rank_more_own up p e = rw (add-one, eq-eqb (get_or up p 0) p e)

pub rank_more_other : (up : List ℕ) (p : ℕ) → (get_or up p 0 ≡ p → ⊥) → rank up (p + 1) ≡ rank up p
rank_more_other up p e = rw (add-one, ne_eqb (get_or up p 0) p e) (omega arith)

pub numbered_push : (up ns : List ℕ) (p x : ℕ) (root : ℕ → ℕ) → length ns ≡ p → ((q : ℕ) → q < p → get_or ns q 0 ≡ rank up (root q)) → x ≡ rank up (root p) → (q : ℕ) → q < p + 1 → get_or (ns ++ x ∷ []) q 0 ≡ rank up (root q)
numbered_push up ns p x root l h e q k = go (cases_eq q p)
  where
    go : ((q ≡ p) ⊎ (q ≡ p → ⊥)) → get_or (ns ++ x ∷ []) q 0 ≡ rank up (root q)
    go (inl f) = rw f (get_or_push ns x 0 p l ∙ e)
    go (inr f) = get_or_append_left ns (x ∷ []) 0 q (omega arith) ∙ h q (omega arith)

pub number_own : (up : List ℕ) (p : ℕ) (root : ℕ → ℕ) → IsRoots up root → p < length up → get_or up p 0 ≡ p → rank up p ≡ rank up (root p)
number_own up p root h l e = ap (rank up) (sym (h.own p l e))
