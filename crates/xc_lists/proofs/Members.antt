-- What stands in lists of numbers, and where.
use Rattle.std.proofs.Common.{◌≡◌, ◌==◌, ℕ, zero, suc, ◌+◌, ◌<◌, ◌≤◌, Bool, true, false, cond, List, [], ◌∷◌, length, get_or, slice_index, ◌⊎◌, inl, inr, refl, sym, ap, subst, ◌∙◌, arith, true≢false}
use Rattle.std.proofs.lemmas.Bool.{cases_eq, eq-eqb, eqb-true}
use Rattle.std.proofs.lemmas.Bool.Decides.{nat_tests}
use Rattle.std.proofs.lemmas.List.Kept.{IsStrictlySortedBy-filter}
use Rattle.std.specs.List.{AllByRecursion, range_with_len, filter}
use Rattle.std.specs.List.Sorted.{IsStrictlySortedBy}
use Rattle.std.specs.Ordering.{nat_cmp}
use Rattle.std.specs.declared.cmp.Ordering.TheVariants.{Less}
use Rattle.xc_lists.specs.Members.{IsIn, IsOnce, places_with}
use Rattle.xc_lists.specs.Places.{places}

-- a member stands at some place, and what stands at a place is a member
pub place_of : (p : ℕ) (xs : List ℕ) → IsIn p xs → (j : ℕ) × (j < length xs) × (get_or xs j 0 ≡ p)
place_of p [] h = absurd h
place_of p (x ∷ xs) (inl e) = (0, omega arith, sym e)
place_of p (x ∷ xs) (inr h) = let r = place_of p xs h in let l = r.1 in (suc r.0, omega arith, r.2)

pub is_in_at : (xs : List ℕ) (j : ℕ) → j < length xs → IsIn (get_or xs j 0) xs
is_in_at [] j h = absurd (omega arith)
is_in_at (x ∷ xs) zero h = inl refl
is_in_at (x ∷ xs) (suc j) h = inr (is_in_at xs j (omega arith))

-- members of ranges and of filters
in_range : (i a n : ℕ) → IsIn i (range_with_len a n) → (a ≤ i) × (i < a + n)
in_range i a zero h = absurd h
in_range i a (suc n) (inl e) = (omega arith, omega arith)
in_range i a (suc n) (inr h) = let r = in_range i (a + 1) n h in let l = r.0 in let m = r.1 in (omega arith, omega arith)

later : (i a : ℕ) → a ≤ i → (i ≡ a → ⊥) → a + 1 ≤ i
later i a l e = grind arith

range_in : (i a n : ℕ) → a ≤ i → i < a + n → IsIn i (range_with_len a n)
range_in i a zero l m = absurd (omega arith)
range_in i a (suc n) l m = go (cases_eq i a) (λ e. range_in i (a + 1) n (later i a l e) (omega arith))
  where
    go : ((i ≡ a) ⊎ (i ≡ a → ⊥)) → ((i ≡ a → ⊥) → IsIn i (range_with_len (a + 1) n)) → (i ≡ a) ⊎ IsIn i (range_with_len (a + 1) n)
    go (inl e) r = inl e
    go (inr e) r = inr (r e)

in_filter : (p : ℕ → Bool) (i : ℕ) (xs : List ℕ) → IsIn i (filter p xs) → IsIn i xs × (p i ≡ true)
in_filter p i [] h = absurd h
in_filter p i (x ∷ xs) h = go (p x) refl h (in_filter p i xs)
  where
    go : (b : Bool) → p x ≡ b → IsIn i (cond b (x ∷ filter p xs) (filter p xs)) → (IsIn i (filter p xs) → IsIn i xs × (p i ≡ true)) → ((i ≡ x) ⊎ IsIn i xs) × (p i ≡ true)
    go true e (inl q) r = (inl q, ap p q ∙ e)
    go true e (inr k) r = let s = r k in (inr s.0, s.1)
    go false e k r = let s = r k in (inr s.0, s.1)

filter_in : (p : ℕ → Bool) (i : ℕ) (xs : List ℕ) → IsIn i xs → p i ≡ true → IsIn i (filter p xs)
filter_in p i [] h t = absurd h
filter_in p i (x ∷ xs) h t = go (p x) refl h (λ k. filter_in p i xs k t)
  where
    go : (b : Bool) → p x ≡ b → (i ≡ x) ⊎ IsIn i xs → (IsIn i xs → IsIn i (filter p xs)) → IsIn i (cond b (x ∷ filter p xs) (filter p xs))
    go true e (inl q) r = inl q
    go true e (inr k) r = inr (r k)
    go false e (inl q) r = absurd (true≢false (sym t ∙ ap p q ∙ e))
    go false e (inr k) r = r k

pub in_places : (ns : List ℕ) (k i : ℕ) → IsIn i (places_with ns k) → (i < length ns) × (get_or ns i 0 ≡ k)
in_places ns k i h =
    let f = in_filter (λ j. slice_index ns j == k) i (places ns) h in
    let r = in_range i 0 (length ns) f.0 in
    let l = r.1 in
    (omega arith, eqb-true (get_or ns i 0) k f.1)

pub places_in : (ns : List ℕ) (k i : ℕ) → i < length ns → get_or ns i 0 ≡ k → IsIn i (places_with ns k)
places_in ns k i l e = filter_in (λ j. slice_index ns j == k) i (places ns) (range_in i 0 (length ns) (omega arith) (omega arith)) (eq-eqb (get_or ns i 0) k e)

-- places ascend
all_above : (a b n : ℕ) → a < b → AllByRecursion (λ y. nat_cmp a y ≡ Less) (range_with_len b n)
all_above a b zero h = tt
all_above a b (suc n) h = (grind (arith, nat_tests), all_above a (b + 1) n (omega arith))

range_ascends : (a n : ℕ) → IsStrictlySortedBy nat_cmp (range_with_len a n)
unfolding IsStrictlySortedBy
range_ascends a zero = tt
range_ascends a (suc n) = (all_above a (a + 1) n (omega arith), range_ascends (a + 1) n)

pub places_ascend : (ns : List ℕ) (k : ℕ) → IsStrictlySortedBy nat_cmp (places_with ns k)
places_ascend ns k = IsStrictlySortedBy-filter nat_cmp (λ j. slice_index ns j == k) (places ns) (range_ascends 0 (length ns))

-- the first of an ascending list is its least
pub first_least : (xs : List ℕ) (x : ℕ) → IsStrictlySortedBy nat_cmp xs → IsIn x xs → slice_index xs 0 ≤ x
unfolding IsStrictlySortedBy
first_least [] x s h = absurd h
first_least (y ∷ ys) x s (inl e) = omega arith
first_least (y ∷ ys) x s (inr h) = by ys s.0 h
  where
    less : (y x : ℕ) → nat_cmp y x ≡ Less → y ≤ x
    less y x e = grind (arith, nat_tests)

    by : (zs : List ℕ) → AllByRecursion (λ z. nat_cmp y z ≡ Less) zs → IsIn x zs → y ≤ x
    by [] a h = absurd h
    by (z ∷ zs) a (inl e) = less y x (subst (λ (w : ℕ). nat_cmp y w ≡ Less) (sym e) a.0)
    by (z ∷ zs) a (inr h) = by zs a.1 h

-- what ascends is there once
pub once_of_ascending : (xs : List ℕ) → IsStrictlySortedBy nat_cmp xs → IsOnce xs
unfolding IsStrictlySortedBy
once_of_ascending [] h = tt
once_of_ascending (x ∷ xs) h = (none xs h.0, once_of_ascending xs h.1)
  where
    never : (x y : ℕ) → nat_cmp x y ≡ Less → x ≡ y → ⊥
    never x y e f = grind (arith, nat_tests)

    none : (ys : List ℕ) → AllByRecursion (λ y. nat_cmp x y ≡ Less) ys → IsIn x ys → ⊥
    none [] a i = i
    none (y ∷ ys) a (inl e) = never x y a.0 e
    none (y ∷ ys) a (inr i) = none ys a.1 i
