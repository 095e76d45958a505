-- A key's number stays as keys are put behind it.
use Rattle.std.proofs.Common.{◌≡◌, ◌+◌, ◌++◌, ◌||◌, List, [], ◌∷◌, Bool, true, false, not, cond, fold, refl, sym, ap, ◌∙◌, true≢false, if◌then◌else◌}
use Rattle.std.specs.List.{list_any, position_or_len}
use Rattle.xc_report.specs.Dimensions.{is_same_key, with_key, key_number}
use Rattle.xc_report.specs.declared.dimensions.Key.{Key}
use Rattle.indexmap.specs.IndexSet.{insert_key}
use Rattle.xc_report.specs.contracts.dimensions.KeyPartialEq.TheImpl as keys
use Rattle.xc_report.proofs.SameKeys.{same_key, key_is}

module _ {X : Type 0} (p : X → Bool) where
  -- a first place is that of a longer list
  place_stays : (xs ys : List X) → list_any p xs ≡ true → position_or_len p (xs ++ ys) ≡ position_or_len p xs
  place_stays [] ys h = absurd (true≢false (sym h))
  place_stays (x ∷ xs) ys h = by (p x) (place_stays xs ys) h
    where
      by : (b : Bool) → (list_any p xs ≡ true → position_or_len p (xs ++ ys) ≡ position_or_len p xs) → (b || list_any p xs) ≡ true
          → cond (not b) (1 + position_or_len p (xs ++ ys)) 0 ≡ cond (not b) (1 + position_or_len p xs) 0
      by true rest e = refl
      by false rest e = ap (λ n. 1 + n) (rest e)

  -- an item that passes, put last, stands at the length
  place_last : (xs : List X) (x : X) → list_any p xs ≡ false → p x ≡ true → position_or_len p (xs ++ x ∷ []) ≡ position_or_len p xs
  place_last [] x h e = ap (λ b. cond (not b) (1 + 0) 0) e
  place_last (y ∷ xs) x h e = by (p y) (λ g. place_last xs x g e) h
    where
      by : (b : Bool) → (list_any p xs ≡ false → position_or_len p (xs ++ x ∷ []) ≡ position_or_len p xs) → (b || list_any p xs) ≡ false
          → cond (not b) (1 + position_or_len p (xs ++ x ∷ [])) 0 ≡ cond (not b) (1 + position_or_len p xs) 0
      by true rest g = refl
      by false rest g = ap (λ n. 1 + n) (rest g)

  any_stays : (xs ys : List X) → list_any p xs ≡ true → list_any p (xs ++ ys) ≡ true
  any_stays [] ys h = absurd (true≢false (sym h))
  any_stays (x ∷ xs) ys h = by (p x) (any_stays xs ys) h
    where
      by : (b : Bool) → (list_any p xs ≡ true → list_any p (xs ++ ys) ≡ true) → (b || list_any p xs) ≡ true → (b || list_any p (xs ++ ys)) ≡ true
      by true rest e = refl
      by false rest e = rest e

  any_last : (xs : List X) (x : X) → p x ≡ true → list_any p (xs ++ x ∷ []) ≡ true
  any_last [] x e = ap (λ b. b || false) e
  any_last (y ∷ xs) x e = by (p y) (any_last xs x e)
    where
      by : (b : Bool) → list_any p (xs ++ x ∷ []) ≡ true → (b || list_any p (xs ++ x ∷ [])) ≡ true
      by true rest = refl
      by false rest = rest

here_if : (ks : List Key) (k : Key) (b : Bool) → list_any (is_same_key k) ks ≡ b → key_number (if b then ks else ks ++ k ∷ []) k ≡ key_number ks k
here_if ks k true h = refl
here_if ks k false h = place_last (is_same_key k) ks k h (same_key k)

-- a key has the number that it is given
pub number_here : (ks : List Key) (k : Key) → key_number (with_key ks k) k ≡ key_number ks k
number_here ks k = here_if ks k _ refl

there_if : (ks : List Key) (k : Key) (b : Bool) → list_any (is_same_key k) ks ≡ b → list_any (is_same_key k) (if b then ks else ks ++ k ∷ []) ≡ true
there_if ks k true h = h
there_if ks k false h = any_last (is_same_key k) ks k (same_key k)

-- and is there
pub key_there : (ks : List Key) (k : Key) → list_any (is_same_key k) (with_key ks k) ≡ true
key_there ks k = there_if ks k _ refl

number_if : (ks : List Key) (k other : Key) (b : Bool) → list_any (is_same_key k) ks ≡ true → key_number (if b then ks else ks ++ other ∷ []) k ≡ key_number ks k
number_if ks k other true h = refl
number_if ks k other false h = place_stays (is_same_key k) ks (other ∷ []) h

still_if : (ks : List Key) (k other : Key) (b : Bool) → list_any (is_same_key k) ks ≡ true → list_any (is_same_key k) (if b then ks else ks ++ other ∷ []) ≡ true
still_if ks k other true h = h
still_if ks k other false h = any_stays (is_same_key k) ks (other ∷ []) h

-- a key that is there stays there as others are put in
pub still_there : (ks others : List Key) (k : Key) → list_any (is_same_key k) ks ≡ true → list_any (is_same_key k) (fold with_key ks others) ≡ true
still_there ks [] k h = h
still_there ks (o ∷ os) k h = still_there (with_key ks o) os k (still_if ks k o _ h)

-- the number of a key that is there stays as others are put in
pub number_stays : (ks others : List Key) (k : Key) → list_any (is_same_key k) ks ≡ true → key_number (fold with_key ks others) k ≡ key_number ks k
number_stays ks [] k h = refl
number_stays ks (o ∷ os) k h = number_stays (with_key ks o) os k (still_if ks k o _ h) ∙ number_if ks k o _ h

-- the derived equality of keys is that of the definitions
abbrev derived : Key → Key → Bool
derived = keys.eq-value.it

-- a place by the derived equality
pub place_is : (ks : List Key) (k : Key) → position_or_len (derived k) ks ≡ key_number (with_key ks k) k
place_is ks k = ap (λ p. position_or_len p ks) (λ i b. key_is k b i) ∙ sym (number_here ks k)

-- a list with a key by the derived equality
pub put_key_is : (ks : List Key) (k : Key) → insert_key derived ks k ≡ with_key ks k
put_key_is ks k = ap (λ p. if list_any p ks then ks else ks ++ k ∷ []) (λ i b. key_is k b i)
