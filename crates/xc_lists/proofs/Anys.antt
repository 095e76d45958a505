-- Elements of lists for which a test holds.
use Rattle.std.proofs.Common.{◌≡◌, ◌<◌, ◌||◌, ◌+◌, ℕ, suc, List, [], ◌∷◌, Bool, true, false, drop, get_or, length, map, flat_map, add-one, refl, sym, ap, ◌∙◌}
use Rattle.std.proofs.Math.Seq.{drop-cons}
use Rattle.std.proofs.lemmas.List.Folds.{list_any-append}
use Rattle.std.specs.BTreeSet.{insert_key}
use Rattle.std.specs.List.{list_any}
use Rattle.std.specs.Ordering.{match_ordering}
use Rattle.std.specs.declared.cmp.Ordering.{Ordering}
use Rattle.std.specs.declared.cmp.Ordering.TheVariants.{Less, Equal, Greater}

or_turned : (a b : Bool) → (a || b) ≡ (b || a)
or_turned true true = refl
or_turned true false = refl
or_turned false true = refl
or_turned false false = refl

or_twice : (a r : Bool) → (a || r) ≡ ((a || r) || a)
or_twice true r = refl
or_twice false true = refl
or_twice false false = refl

pub or_along : (a b c : Bool) → ((a || b) || c) ≡ (a || (b || c))
or_along true b c = refl
or_along false b c = refl

-- a test that never holds
pub no_one : {X : Type 0} (p : X → Bool) (xs : List X) → ((x : X) → p x ≡ false) → list_any p xs ≡ false
no_one p [] h = refl
no_one p (x ∷ xs) h = ap (λ b. b || list_any p xs) (h x) ∙ no_one p xs h

-- what is left has the next in front
pub any_step : {X : Type 0} (p : X → Bool) (xs : List X) (i : ℕ) (d : X) → i < length xs → d ≡ get_or xs i d → list_any p (drop i xs) ≡ (p d || list_any p (drop (i + 1) xs))
any_step p xs i d h is =
    ap (list_any p) (drop-cons xs i d h)
    ∙ ap (λ x. p x || list_any p (drop (suc i) xs)) (sym is)
    ∙ ap (λ k. p d || list_any p (drop k xs)) (sym (add-one i))

-- some of the lists have it
pub any_flat : {X Y : Type 0} (f : X → List Y) (p : Y → Bool) (xs : List X) → list_any (λ x. list_any p (f x)) xs ≡ list_any p (flat_map f xs)
any_flat f p [] = refl
any_flat f p (x ∷ xs) = ap (λ b. list_any p (f x) || b) (any_flat f p xs) ∙ sym (list_any-append p (f x) (flat_map f xs))

-- one of them is carried to what has it
pub any_map : {X Y : Type 0} (p : Y → Bool) (f : X → Y) (xs : List X) → list_any (λ x. p (f x)) xs ≡ list_any p (map f xs)
any_map p f [] = refl
any_map p f (x ∷ xs) = ap (λ b. p (f x) || b) (any_map p f xs)

-- a key that is put into an ordered set is one more of which the test may hold
pub any_put_in : {K : Type 0} (cmp : K → K → Ordering) (p : K → Bool) → ((k x : K) → cmp k x ≡ Equal → p k ≡ p x) → (ks : List K) (k : K) → list_any p (insert_key cmp ks k) ≡ (list_any p ks || p k)
any_put_in cmp p same [] k = or_turned (p k) false
any_put_in cmp p same (x ∷ xs) k = by (cmp k x) refl (any_put_in cmp p same xs k)
  where
    by : (o : Ordering) → cmp k x ≡ o → list_any p (insert_key cmp xs k) ≡ (list_any p xs || p k) → list_any p (match_ordering o (k ∷ x ∷ xs) (x ∷ xs) (x ∷ insert_key cmp xs k)) ≡ (list_any p (x ∷ xs) || p k)
    by Less e rest = or_turned (p k) (list_any p (x ∷ xs))
    by Equal e rest = or_twice (p x) (list_any p xs) ∙ ap (λ b. list_any p (x ∷ xs) || b) (sym (same k x e))
    by Greater e rest = ap (λ b. p x || b) rest ∙ sym (or_along (p x) (list_any p xs) (p k))
