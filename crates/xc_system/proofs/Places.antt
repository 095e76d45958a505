-- Places at which numbers stand.
use Rattle.std.proofs.Common.{◌≡◌, ◌==◌, ℕ, suc, ◌+◌, ◌<◌, Bool, true, false, cond, List, [], ◌∷◌, ◌++◌, length, get_or, map, set, slice_index, ◌⊎◌, inl, inr, refl, sym, ap, subst, ◌∙◌, arith, add-zero, zero-add}
use Rattle.std.proofs.lemmas.Bool.{cases_eq, eq-eqb, ne_eqb}
use Rattle.std.proofs.lemmas.List.{get_or-set_same, get_or-set_other}
use Rattle.std.specs.List.{range_with_len, filter}
use Rattle.xc_lists.proofs.Ranges.{before_more}
use Rattle.xc_lists.specs.Places.{before}
use Rattle.xc_lists.specs.Members.{places_with}

filter_last : (p : ℕ → Bool) (xs : List ℕ) (x : ℕ) → filter p (xs ++ x ∷ []) ≡ filter p xs ++ cond (p x) (x ∷ []) []
filter_last p [] x = go (p x)
  where
    go : (b : Bool) → cond b (x ∷ []) [] ≡ [] ++ cond b (x ∷ []) []
    go true = refl
    go false = refl
filter_last p (y ∷ ys) x = go (p y) (filter_last p ys x)
  where
    go : (b : Bool) → filter p (ys ++ x ∷ []) ≡ filter p ys ++ cond (p x) (x ∷ []) [] → cond b (y ∷ filter p (ys ++ x ∷ [])) (filter p (ys ++ x ∷ [])) ≡ cond b (y ∷ filter p ys) (filter p ys) ++ cond (p x) (x ∷ []) []
    go true e = ap (λ (l : List ℕ). y ∷ l) e
    go false e = e

none_more : (l : List ℕ) → l ++ [] ≡ l
none_more [] = refl
none_more (x ∷ xs) = ap (λ (l : List ℕ). x ∷ l) (none_more xs)

-- the places of k before one more
more_here : (ns : List ℕ) (k i : ℕ) → get_or ns i 0 ≡ k → filter (λ j. slice_index ns j == k) (before (i + 1)) ≡ filter (λ j. slice_index ns j == k) (before i) ++ i ∷ []
more_here ns k i e = ap (filter (λ j. slice_index ns j == k)) (before_more i) ∙ filter_last (λ j. slice_index ns j == k) (before i) i ∙ ap (λ b. filter (λ j. slice_index ns j == k) (before i) ++ cond b (i ∷ []) []) (eq-eqb (get_or ns i 0) k e)

pub more_elsewhere : (ns : List ℕ) (k i : ℕ) → (get_or ns i 0 ≡ k → ⊥) → filter (λ j. slice_index ns j == k) (before (i + 1)) ≡ filter (λ j. slice_index ns j == k) (before i)
more_elsewhere ns k i e = ap (filter (λ j. slice_index ns j == k)) (before_more i) ∙ filter_last (λ j. slice_index ns j == k) (before i) i ∙ ap (λ b. filter (λ j. slice_index ns j == k) (before i) ++ cond b (i ∷ []) []) (ne_eqb (get_or ns i 0) k e) ∙ none_more _

-- one more place is put to those of its number
pub groups_more : (ms : List (List ℕ)) (ns new : List ℕ) (i n k0 : ℕ) → length ms ≡ n → get_or ns i 0 ≡ k0 → k0 < n → new ≡ get_or ms k0 [] ++ i ∷ [] → ((k : ℕ) → k < n → get_or ms k [] ≡ filter (λ j. slice_index ns j == k) (before i)) → (k : ℕ) → k < n → get_or (set ms k0 new) k [] ≡ filter (λ j. slice_index ns j == k) (before (i + 1))
groups_more ms ns new i n k0 l e b m h k j = go (cases_eq k k0)
  where
    own : get_or (set ms k0 new) k0 [] ≡ filter (λ j. slice_index ns j == k0) (before (i + 1))
    own = get_or-set_same ms k0 new [] (omega arith) ∙ m ∙ ap (λ (t : List ℕ). t ++ i ∷ []) (h k0 b) ∙ sym (more_here ns k0 i e)

    go : ((k ≡ k0) ⊎ (k ≡ k0 → ⊥)) → get_or (set ms k0 new) k [] ≡ filter (λ j. slice_index ns j == k) (before (i + 1))
    go (inl q) = subst (λ (x : ℕ). get_or (set ms k0 new) x [] ≡ filter (λ j. slice_index ns j == x) (before (i + 1))) (sym q) own
    go (inr q) = get_or-set_other ms k0 k new [] q ∙ h k j ∙ sym (more_elsewhere ns k i (λ f. q (sym f ∙ e)))

-- a list that has at each place what f makes of it
pub made_from : {X : Type 0} (f : ℕ → X) (d : X) (a : ℕ) (xs : List X) → ((k : ℕ) → k < length xs → get_or xs k d ≡ f (a + k)) → xs ≡ map f (range_with_len a (length xs))
made_from f d a [] h = refl
made_from {X} f d a (x ∷ xs) h = ap (λ (y : X). y ∷ xs) first ∙ ap (λ (l : List X). f a ∷ l) (made_from f d (a + 1) xs (λ k l. h (suc k) (omega arith) ∙ ap f (along k)))
  where
    first : x ≡ f a
    first = h 0 (omega arith) ∙ ap f (add-zero a)

    along : (k : ℕ) → a + suc k ≡ a + 1 + k
    along k = omega arith

pub groups_made : (ms : List (List ℕ)) (ns : List ℕ) (n : ℕ) → length ms ≡ n → ((k : ℕ) → k < n → get_or ms k [] ≡ filter (λ j. slice_index ns j == k) (before (length ns))) → ms ≡ map (places_with ns) (before n)
groups_made ms ns n l h = made_from (places_with ns) [] 0 ms (λ k m. h k (omega arith) ∙ ap (places_with ns) (sym (zero-add k))) ∙ ap (λ (m : ℕ). map (places_with ns) (before m)) l
