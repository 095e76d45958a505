-- The elements of lists that are made from others.
use Rattle.std.proofs.Common.{◌≡◌, ◌+◌, ◌⊎◌, ℕ, zero, suc, List, [], ◌∷◌, ◌++◌, Option, Some, None, filter_map, flat_map, slice_get, inl, inr, refl, sym, ap, subst, ◌∙◌, arith}
use Rattle.std.specs.List.{enumerate_from, cons_option}

-- it is one of these
abbrev pub Has : {X : Type 0} → X → List X → Type 0
Has x [] = ⊥
Has x (y ∷ ys) = (y ≡ x) ⊎ Has x ys

-- the place of an element
pub place_of_one : {X : Type 0} (x : X) (xs : List X) → Has x xs → (j : ℕ) × (slice_get xs j ≡ Some x)
place_of_one x [] h = absurd h
place_of_one x (y ∷ ys) (inl e) = (0, ap (λ z. Some z) e)
place_of_one x (y ∷ ys) (inr h) = let there = place_of_one x ys h in (suc there.0, there.1)

-- what stands at a place is an element
pub one_at : {X : Type 0} (xs : List X) (j : ℕ) (x : X) → slice_get xs j ≡ Some x → Has x xs
one_at [] j x e = absurd (cc)
one_at (y ∷ ys) zero x e = inl (cc)
one_at (y ∷ ys) (suc j) x e = inr (one_at ys j x e)

pub in_first : {X : Type 0} (x : X) (xs ys : List X) → Has x xs → Has x (xs ++ ys)
in_first x [] ys h = absurd h
in_first x (z ∷ zs) ys (inl e) = inl e
in_first x (z ∷ zs) ys (inr h) = inr (in_first x zs ys h)

pub in_second : {X : Type 0} (x : X) (xs ys : List X) → Has x ys → Has x (xs ++ ys)
in_second x [] ys h = h
in_second x (z ∷ zs) ys h = inr (in_second x zs ys h)

pub in_either : {X : Type 0} (x : X) (xs ys : List X) → Has x (xs ++ ys) → Has x xs ⊎ Has x ys
in_either x [] ys h = inr h
in_either x (z ∷ zs) ys (inl e) = inl (inl e)
in_either x (z ∷ zs) ys (inr h) = elim (in_either x zs ys h) [ inl a ↦ inl (inr a) | inr b ↦ inr b ]

-- what is made from one of these, where something is
module _ {X Y : Type 0} (f : X → Option Y) where
  pub made_from : (y : Y) (xs : List X) → Has y (filter_map f xs) → (x : X) × (Has x xs) × (f x ≡ Some y)
  made_from y [] h = absurd h
  made_from y (x ∷ xs) h = by (f x) refl h (made_from y xs)
    where
      by : (o : Option Y) → f x ≡ o → Has y (cons_option o (filter_map f xs)) → (Has y (filter_map f xs) → (z : X) × (Has z xs) × (f z ≡ Some y)) → (z : X) × (Has z (x ∷ xs)) × (f z ≡ Some y)
      by None e h later = let more = later h in (more.0, inr more.1, more.2)
      by (Some z) e (inl same) later = (x, inl refl, e ∙ ap (λ y. Some y) same)
      by (Some z) e (inr h) later = let more = later h in (more.0, inr more.1, more.2)

  pub is_made : (x : X) (y : Y) (xs : List X) → Has x xs → f x ≡ Some y → Has y (filter_map f xs)
  is_made x y [] h e = absurd h
  is_made x y (z ∷ zs) (inl same) e = rw (ap f same ∙ e) (inl refl)
  is_made x y (z ∷ zs) (inr h) e = by (f z) (is_made x y zs h e)
    where
      by : (o : Option Y) → Has y (filter_map f zs) → Has y (cons_option o (filter_map f zs))
      by None h = h
      by (Some w) h = inr h

-- what is one of those that are made from one of these
module _ {X Y : Type 0} (f : X → List Y) where
  pub flat_from : (y : Y) (xs : List X) → Has y (flat_map f xs) → (x : X) × (Has x xs) × (Has y (f x))
  flat_from y [] h = absurd h
  flat_from y (x ∷ xs) h = elim (in_either y (f x) (flat_map f xs) h) [
    | inl a ↦ (x, inl refl, a)
    | inr b ↦ let more = flat_from y xs b in (more.0, inr more.1, more.2)
  ]

  pub is_in_flat : (x : X) (y : Y) (xs : List X) → Has x xs → Has y (f x) → Has y (flat_map f xs)
  is_in_flat x y [] h g = absurd h
  is_in_flat x y (z ∷ zs) (inl same) g = in_first y (f z) (flat_map f zs) (subst (λ w. Has y (f w)) (sym same) g)
  is_in_flat x y (z ∷ zs) (inr h) g = in_second y (f z) (flat_map f zs) (is_in_flat x y zs h g)

-- an element with its number
pub numbered : {X : Type 0} (n : ℕ) (xs : List X) (j : ℕ) (x : X) → slice_get xs j ≡ Some x → Has (n + j, x) (enumerate_from n xs)
numbered n [] j x e = absurd (cc)
numbered n (y ∷ ys) zero x e = let none : n ≡ n + 0 = omega arith in let same : y ≡ x = cc in inl (λ i. (none i, same i))
numbered n (y ∷ ys) (suc j) x e =
    let further : n + 1 + j ≡ n + suc j = omega arith in
    inr (subst (λ k. Has (k, x) (enumerate_from (n + 1) ys)) further (numbered (n + 1) ys j x e))

pub number_from : {X : Type 0} (n : ℕ) (xs : List X) (p : ℕ × X) → Has p (enumerate_from n xs) → (j : ℕ) × (p.0 ≡ n + j) × (slice_get xs j ≡ Some p.1)
number_from n [] p h = absurd h
number_from n (y ∷ ys) p (inl e) = let none : n ≡ n + 0 = omega arith in (0, ap (λ q. q.0) (sym e) ∙ none, ap (λ q. Some q.1) e)
number_from n (y ∷ ys) p (inr h) =
    let more = number_from (n + 1) ys p h in
    let further : n + 1 + more.0 ≡ n + suc more.0 = omega arith in
    (suc more.0, more.1 ∙ further, more.2)
