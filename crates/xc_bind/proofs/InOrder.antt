-- Lists that ascend.
use Rattle.std.proofs.Common.{◌≡◌, ◌<◌, ℕ, List, [], ◌∷◌, ◌++◌, inl, inr, refl, sym, ap, subst, ◌∙◌}
use Rattle.std.specs.List.{AllByRecursion}
use Rattle.std.specs.List.Sorted.{IsStrictlySortedBy}
use Rattle.std.specs.Cmp.{nat_cmp_is}
use Rattle.std.specs.Ordering.{nat_cmp, ordering_then}
use Rattle.std.specs.declared.cmp.Ordering.{Ordering}
use Rattle.std.specs.declared.cmp.Ordering.TheVariants.{Less, Equal}
use Rattle.xc_bind.proofs.Members.{Has, in_either}
use Rattle.xc_bind.specs.Judged.{by_place}
use Rattle.xc_bind.specs.declared.types.Binding.{Binding}

pub all_of : {X : Type 0} (P : X → Type 0) (xs : List X) → ((x : X) → Has x xs → P x) → AllByRecursion P xs
all_of P [] h = tt
all_of P (x ∷ xs) h = (h x (inl refl), all_of P xs (λ y there. h y (inr there)))

pub one_of : {X : Type 0} (P : X → Type 0) (xs : List X) (x : X) → AllByRecursion P xs → Has x xs → P x
one_of P [] x all h = absurd h
one_of P (y ∷ ys) x all (inl e) = subst P e all.0
one_of P (y ∷ ys) x all (inr h) = one_of P ys x all.1 h

module _ {X : Type 0} (cmp : X → X → Ordering) where
  -- two lists end to end
  pub ascend_both : (xs ys : List X) → IsStrictlySortedBy cmp xs → IsStrictlySortedBy cmp ys → ((x y : X) → Has x xs → Has y ys → cmp x y ≡ Less) → IsStrictlySortedBy cmp (xs ++ ys)
  unfolding IsStrictlySortedBy
  ascend_both [] ys p q below = q
  ascend_both (x ∷ xs) ys p q below = (
    all_of (λ z. cmp x z ≡ Less) (xs ++ ys) (λ z there. elim (in_either z xs ys there) [ inl a ↦ one_of (λ z. cmp x z ≡ Less) xs z p.0 a | inr b ↦ below x z (inl refl) b ]),
    ascend_both xs ys p.1 q (λ w z one other. below w z (inr one) other),
  )

  -- the same list in another order that agrees
  pub ascend_so : (other : X → X → Ordering) (xs : List X) → ((x y : X) → Has x xs → Has y xs → cmp x y ≡ Less → other x y ≡ Less) → IsStrictlySortedBy cmp xs → IsStrictlySortedBy other xs
  unfolding IsStrictlySortedBy
  ascend_so other [] agree p = tt
  ascend_so other (x ∷ xs) agree p = (
    all_of (λ z. other x z ≡ Less) xs (λ z there. agree x z (inl refl) (inr there) (one_of (λ z. cmp x z ≡ Less) xs z p.0 there)),
    ascend_so other xs (λ w z one two. agree w z (inr one) (inr two)) p.1,
  )

less : (m n : ℕ) → m < n → nat_cmp m n ≡ Less
less m n h = sym (nat_cmp_is m n Less h)

same : (m n : ℕ) → m ≡ n → nat_cmp m n ≡ Equal
same m n h = sym (nat_cmp_is m n Equal h)

-- an earlier network
pub earlier_network : (a b : Binding) → a.network < b.network → by_place a b ≡ Less
earlier_network a b h = ap (λ o. ordering_then o (nat_cmp a.total b.total)) (less a.network b.network h)

-- an earlier total of one network
pub earlier_total : (a b : Binding) → a.network ≡ b.network → a.total < b.total → by_place a b ≡ Less
earlier_total a b e h = ap (λ o. ordering_then o (nat_cmp a.total b.total)) (same a.network b.network e) ∙ less a.total b.total h
