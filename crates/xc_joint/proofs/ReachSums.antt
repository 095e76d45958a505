-- Numbers listed once, all in another list, sum up to no more than that list.
use Rattle.std.proofs.Common.{◌≡◌, ◌⊎◌, ℕ, ◌+◌, ◌<◌, ◌≤◌, List, [], ◌∷◌, ◌++◌, length, get_or, inl, inr, refl, sym, ap, subst, ◌∙◌, arith, flat_map, sum_by}
use Rattle.std.proofs.lemmas.List.Sums.{sum_by-cons, sum_by-append}
use Rattle.std.specs.List.Sorted.{IsStrictlySortedBy}
use Rattle.std.specs.Ordering.{nat_cmp}
use Rattle.xc_lists.proofs.Onces.{once_from_places}
use Rattle.xc_model.proofs.Integers.{lt_or_le}
use Rattle.xc_joint.proofs.Searched.{rises}
use Rattle.xc_lists.specs.Members.{IsIn, IsOnce}

-- a list without one of its numbers
record IsWithout (x : ℕ) (ys zs : List ℕ) : Type 0 where
  pub sum : (f : ℕ → ℕ) → sum_by f ys ≡ f x + sum_by f zs
  pub others : (y : ℕ) → IsIn y ys → (y ≡ x) ⊎ IsIn y zs

without : (x : ℕ) (ys : List ℕ) → IsIn x ys → (zs : List ℕ) × IsWithout x ys zs
without x [] h = absurd h
without x (y ∷ ys) (inl e) = (
  ys,
  record {
    sum = λ f. sum_by-cons f y ys ∙ ap (λ z. f z + sum_by f ys) (sym e);
    others = λ z h. elim h [ inl k ↦ inl (k ∙ sym e) | inr k ↦ inr k ];
  },
)
without x (y ∷ ys) (inr h) =
    let r = without x ys h in (
      y ∷ r.0,
      record {
        sum = λ f. let a = sum_by-cons f y ys in let b = sum_by-cons f y r.0 in let c = r.1.sum f in omega (arith, a, b, c);
        others = λ z h. elim h [ inl k ↦ inr (inl k) | inr k ↦ elim (r.1.others z k) [ inl e ↦ inl e | inr i ↦ inr (inr i) ] ];
      },
    )

pub once_sum : (f : ℕ → ℕ) (xs ys : List ℕ) → IsOnce xs → ((x : ℕ) → IsIn x xs → IsIn x ys) → sum_by f xs ≤ sum_by f ys
once_sum f [] ys once all = omega arith
once_sum f (x ∷ xs) ys once all =
    let r = without x ys (all x (inl refl)) in
    let rest = once_sum f xs r.0 once.1 (λ z h. other r.1 z h (r.1.others z (all z (inr h)))) in
    let a = sum_by-cons f x xs in
    let b = r.1.sum f in
    omega (arith, rest, a, b)
  where
    other : {zs : List ℕ} → IsWithout x ys zs → (z : ℕ) → IsIn z xs → (z ≡ x) ⊎ IsIn z zs → IsIn z zs
    other {zs} w z h (inl e) = absurd (once.0 (subst (λ (k : ℕ). IsIn k xs) e h))
    other {zs} w z h (inr i) = i

-- ascending numbers are listed once
pub ascending_once : (xs : List ℕ) → IsStrictlySortedBy nat_cmp xs → IsOnce xs
ascending_once xs up = once_from_places xs (λ i j l m e. same i j l m e (lt_or_le i j) (lt_or_le j i))
  where
    same : (i j : ℕ) → i < length xs → j < length xs → get_or xs i 0 ≡ get_or xs j 0 → (i < j) ⊎ (j ≤ i) → (j < i) ⊎ (i ≤ j) → i ≡ j
    same i j l m e (inl a) b = let k = rises xs up i j a m in absurd (omega (arith, k, e))
    same i j l m e (inr a) (inl b) = let k = rises xs up j i b l in absurd (omega (arith, k, e))
    same i j l m e (inr a) (inr b) = omega arith

-- ---- lists of lists

in_left : (x : ℕ) (xs ys : List ℕ) → IsIn x xs → IsIn x (xs ++ ys)
in_left x [] ys h = absurd h
in_left x (y ∷ xs) ys (inl e) = inl e
in_left x (y ∷ xs) ys (inr h) = inr (in_left x xs ys h)

in_right : (x : ℕ) (xs ys : List ℕ) → IsIn x ys → IsIn x (xs ++ ys)
in_right x [] ys h = h
in_right x (y ∷ xs) ys h = inr (in_right x xs ys h)

pub in_flat : (g : ℕ → List ℕ) (p k : ℕ) (ps : List ℕ) → IsIn p ps → IsIn k (g p) → IsIn k (flat_map g ps)
in_flat g p k [] h i = absurd h
in_flat g p k (q ∷ ps) (inl e) i = in_left k (g q) (flat_map g ps) (subst (λ (z : ℕ). IsIn k (g z)) e i)
in_flat g p k (q ∷ ps) (inr h) i = in_right k (g q) (flat_map g ps) (in_flat g p k ps h i)

pub flat_sum : (f : ℕ → ℕ) (g : ℕ → List ℕ) (ps : List ℕ) → sum_by f (flat_map g ps) ≡ sum_by (λ p. sum_by f (g p)) ps
flat_sum f g [] = refl
flat_sum f g (p ∷ ps) = sum_by-append f (g p) (flat_map g ps) ∙ ap (λ z. sum_by f (g p) + z) (flat_sum f g ps) ∙ sym (sum_by-cons (λ q. sum_by f (g q)) p ps)
