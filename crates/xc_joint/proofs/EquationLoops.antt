-- A loop over the equations of a component.
use Rattle.std.proofs.Common.{◌≡◌, ◌⊎◌, ℕ, ◌+◌, ◌<◌, ◌≤◌, List, length, get_or, inl, inr, sym, ap, subst, ◌∙◌, arith}
use Rattle.xc_lists.proofs.Members.{is_in_at, place_of}
use Rattle.xc_lists.specs.Members.{IsIn}

-- one that stands in the list that is gone through
pub one_there : (P : ℕ → Type 0) (items numbers : List ℕ) (n : ℕ) → items ≡ numbers → n < length items → P (get_or items n 0) → (x : ℕ) × IsIn x numbers × P x
one_there P items numbers n e l p = (get_or items n 0, subst (λ (xs : List ℕ). IsIn (get_or items n 0) xs) e (is_in_at items n l), p)

-- one more
pub one_more : (P : ℕ → Type 0) (items numbers : List ℕ) (n : ℕ) → items ≡ numbers → ((k : ℕ) → k < n → P (get_or numbers k 0)) → P (get_or items n 0) → (k : ℕ) → k < n + 1 → P (get_or numbers k 0)
one_more P items numbers n e before p k l = go (order k n)
  where
    order : (a b : ℕ) → (a < b) ⊎ ((a ≡ b) ⊎ (b < a))
    order a b = grind arith

    go : (k < n) ⊎ ((k ≡ n) ⊎ (n < k)) → P (get_or numbers k 0)
    go (inl less) = before k less
    go (inr (inl same)) = subst P (ap (λ (xs : List ℕ). get_or xs n 0) e ∙ ap (λ (m : ℕ). get_or numbers m 0) (sym same)) p
    go (inr (inr more)) = absurd (omega (arith, l, more))

-- all
pub all_there : (P : ℕ → Type 0) (items numbers : List ℕ) (n : ℕ) → items ≡ numbers → length items ≤ n → ((k : ℕ) → k < n → P (get_or numbers k 0)) → (i : ℕ) → IsIn i numbers → P i
all_there P items numbers n e l before i there =
    let at = place_of i numbers there in
    subst P at.2 (before at.0 (omega (arith, at.1, l, ap length e)))
