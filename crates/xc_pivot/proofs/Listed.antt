-- The list of the numbers whose places pass a test, one place after another.
use Rattle.std.proofs.Common.{◌≡◌, ◌≢◌, ◌==◌, ℕ, zero, suc, ◌+◌, ◌<◌, ◌≤◌, ◌||◌, Bool, true, false, if◌then◌else◌, List, [], ◌∷◌, ◌++◌, length, get_or, ◌⊎◌, inl, inr, refl, sym, ap, subst, ◌∙◌, arith, Option, Some, None, slice_get, All}
use Rattle.std.proofs.lemmas.Bool.{cases_lt, eq-eqb, ne_eqb}
use Rattle.std.proofs.lemmas.Bool.Decides.{nat_tests}
use Rattle.std.proofs.lemmas.List.Folds.{list_any-append}
use Rattle.std.specs.List.{AllByRecursion, list_any}
use Rattle.std.specs.List.Sorted.{IsStrictlySortedBy}
use Rattle.std.specs.Ordering.{nat_cmp}
use Rattle.std.specs.declared.cmp.Ordering.TheVariants.{Less}
use Rattle.xc_corners.specs.Corners.{Corner, corner_of}
use Rattle.xc_pivot.specs.States.{ArePlaces, is_row, is_high}
use Rattle.xc_pivot.specs.Walks.{IsListOf}
use Rattle.xc_pivot.specs.declared.types.Place.{Place}

less : (x n : ℕ) → x < n → nat_cmp x n ≡ Less
less x n h = grind (arith, nat_tests, h)

all_push : (P : ℕ → Type 0) (xs : List ℕ) (n : ℕ) → AllByRecursion P xs → P n → AllByRecursion P (xs ++ n ∷ [])
all_push P [] n all h = (h, tt)
all_push P (x ∷ xs) n all h = (all.0, all_push P xs n all.1 h)

pub push_ascends : (xs : List ℕ) (n : ℕ) → IsStrictlySortedBy nat_cmp xs → All (λ k. k < n) xs → IsStrictlySortedBy nat_cmp (xs ++ n ∷ [])
unfolding IsStrictlySortedBy
push_ascends [] n s b = (tt, tt)
push_ascends (x ∷ xs) n s b = (all_push (λ z. nat_cmp x z ≡ Less) xs n s.0 (less x n (b 0 x (omega arith))), push_ascends xs n s.1 (λ k d l. b (suc k) d (omega arith)))

push_below : (xs : List ℕ) (n : ℕ) → All (λ k. k < n) xs → All (λ k. k < n + 1) (xs ++ n ∷ [])
push_below [] n b zero d l = omega arith
push_below [] n b (suc k) d l = absurd (omega (arith, l))
push_below (x ∷ xs) n b zero d l = let h = b 0 x (omega arith) in omega (arith, h)
push_below (x ∷ xs) n b (suc k) d l = push_below xs n (λ i e m. b (suc i) e (omega (arith, m))) k d (omega (arith, l))

more_below : (xs : List ℕ) (n : ℕ) → All (λ k. k < n) xs → All (λ k. k < n + 1) xs
more_below xs n b k d l = let h = b k d l in omega (arith, h)

pub none_yet_ascends : IsStrictlySortedBy nat_cmp []
unfolding IsStrictlySortedBy
none_yet_ascends = tt

or_end : (b : Bool) → (b || false) ≡ b
or_end true = refl
or_end false = refl

push_has : (xs : List ℕ) (n j : ℕ) → n ≢ j → list_any (λ k. k == j) (xs ++ n ∷ []) ≡ list_any (λ k. k == j) xs
push_has xs n j h = list_any-append (λ k. k == j) xs (n ∷ []) ∙ ap (λ b. list_any (λ k. k == j) xs || (b || false)) (ne_eqb n j h) ∙ or_end _

or_true : (b c : Bool) → c ≡ true → (b || (c || false)) ≡ true
or_true true c e = refl
or_true false c e = or_end c ∙ e

push_has_it : (xs : List ℕ) (n : ℕ) → list_any (λ k. k == n) (xs ++ n ∷ []) ≡ true
push_has_it xs n = list_any-append (λ k. k == n) xs (n ∷ []) ∙ or_true (list_any (λ k. k == n) xs) (n == n) (eq-eqb n n refl)

same_some : {X : Type 0} (x y : X) → Some x ≡ Some y → x ≡ y
same_some {X} x y e = ap (λ (o : Option X). of o) e
  where
    of : Option X → X
    of None = x
    of (Some z) = z

pub none_yet : (test : Place → Bool) (places : List Place) → IsListOf test places 0 []
none_yet test places = record { ascends = none_yet_ascends; below = λ k d l. absurd (omega (arith, l)); tells = λ j place h is. absurd (omega (arith, h)); after = λ j h. refl }

module _ (test : Place → Bool) (places : List Place) (n : ℕ) (list : List ℕ) (place : Place) (at : slice_get places n ≡ Some place) (known : IsListOf test places n list) where
  pub one_further : (b : Bool) → b ≡ test place → IsListOf test places (n + 1) (if b then list ++ n ∷ [] else list)
  one_further false e = record {
    ascends = known.ascends;
    below = more_below list n known.below;
    tells = λ j p h is. tells_next j p h is (cases_lt j n);
    after = λ j h. known.after j (omega (arith, h));
  }
    where
      tells_next : (j : ℕ) (p : Place) → j < n + 1 → slice_get places j ≡ Some p → ((j < n) ⊎ (n ≤ j)) → list_any (λ k. k == j) list ≡ test p
      tells_next j p h is (inl l) = known.tells j p l is
      tells_next j p h is (inr l) =
          let same : n ≡ j = omega (arith, h, l) in
          known.after j l ∙ e ∙ ap test (same_some place p (sym at ∙ ap (slice_get places) same ∙ is))
  one_further true e = record {
    ascends = push_ascends list n known.ascends known.below;
    below = push_below list n known.below;
    tells = λ j p h is. tells_next j p h is (cases_lt j n);
    after = λ j h. push_has list n j (λ (q : n ≡ j). omega (arith, h, q)) ∙ known.after j (omega (arith, h));
  }
    where
      tells_next : (j : ℕ) (p : Place) → j < n + 1 → slice_get places j ≡ Some p → ((j < n) ⊎ (n ≤ j)) → list_any (λ k. k == j) (list ++ n ∷ []) ≡ test p
      tells_next j p h is (inl l) = push_has list n j (λ (q : n ≡ j). omega (arith, l, q)) ∙ known.tells j p l is
      tells_next j p h is (inr l) =
          let same : n ≡ j = omega (arith, h, l) in
          subst (λ i. list_any (λ k. k == i) (list ++ n ∷ []) ≡ true) same (push_has_it list n) ∙ e ∙ ap test (same_some place p (sym at ∙ ap (slice_get places) same ∙ is))

place_there : (places : List Place) (j : ℕ) → j < length places → (place : Place) × (slice_get places j ≡ Some place)
place_there [] j h = absurd (omega (arith, h))
place_there (p ∷ ps) zero h = (p, refl)
place_there (p ∷ ps) (suc j) h = place_there ps j (omega (arith, h))

pub read_there : (places : List Place) (j : ℕ) (d : Place) → j < length places → slice_get places j ≡ Some (get_or places j d)
read_there [] j d h = absurd (omega (arith, h))
read_there (p ∷ ps) zero d h = refl
read_there (p ∷ ps) (suc j) d h = read_there ps j d (omega (arith, h))

-- whether a number is listed, where all places are gone through
all_told : (test : Place → Bool) (places : List Place) (n : ℕ) (list : List ℕ) (f : ℕ → Bool) → n ≡ length places → ((j : ℕ) (place : Place) → slice_get places j ≡ Some place → f j ≡ test place) → ((j : ℕ) → length places ≤ j → f j ≡ false)
    → IsListOf test places n list → (j : ℕ) → list_any (λ k. k == j) list ≡ f j
all_told test places n list f ends inside outside known j = go (cases_lt j (length places))
  where
    go : (j < length places) ⊎ (length places ≤ j) → list_any (λ k. k == j) list ≡ f j
    go (inl h) = let there = place_there places j h in known.tells j there.0 (omega (arith, h, ends)) there.1 ∙ sym (inside j there.0 there.1)
    go (inr h) = known.after j (omega (arith, h, ends)) ∙ sym (outside j h)

pub corner_is : (m n : ℕ) (x : Corner) (places : List Place) (v : ℕ) (basic high : List ℕ) → v ≡ length places → ArePlaces m n x places → IsListOf is_row places v basic → IsListOf is_high places v high
    → corner_of (record { basic = basic; high = high }) ≡ x
corner_is m n x places v basic high past placed b h = λ i. record {
  basic = λ j. all_told is_row places v basic x.basic past placed.basic (λ k l. (placed.no_others k l).0) b j i;
  high = λ j. all_told is_high places v high x.high past placed.high (λ k l. (placed.no_others k l).1) h j i;
}
