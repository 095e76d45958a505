-- The place of the first element of a list that passes a test.
use Rattle.std.proofs.Common.{◌≡◌, ◌+◌, ◌<◌, ℕ, suc, get_or, find, List, [], ◌∷◌, ◌++◌, Bool, true, false, Option, Some, None, length, map, cond, refl, sym, ap, ◌∙◌, arith, add-zero, not, unwrap_or}
use Rattle.std.specs.List.{position_from, position_or_len}

-- a first place stays
pub position_from-stays : {X : Type 0} (t : X → Bool) (n k : ℕ) (xs : List X) (x : X) → position_from t n xs ≡ Some k → position_from t n (xs ++ x ∷ []) ≡ Some k
position_from-stays t n k [] x e = absurd (cc)
position_from-stays t n k (y ∷ ys) x e = elim (t y) as (λ b. cond b (Some n) (position_from t (n + 1) ys) ≡ Some k → cond b (Some n) (position_from t (n + 1) (ys ++ x ∷ [])) ≡ Some k) [ true ↦ λ h. h | false ↦ λ h. position_from-stays t (n + 1) k ys x h ] e

-- where there is none yet, a new last item may be the first
pub position_from-push : {X : Type 0} (t : X → Bool) (n : ℕ) (xs : List X) (x : X) → position_from t n xs ≡ None → position_from t n (xs ++ x ∷ []) ≡ cond (t x) (Some (n + length xs)) None
position_from-push t n [] x e = rw (add-zero n) refl
position_from-push t n (y ∷ ys) x e = elim (t y) as (λ b. cond b (Some n) (position_from t (n + 1) ys) ≡ None → cond b (Some n) (position_from t (n + 1) (ys ++ x ∷ [])) ≡ cond (t x) (Some (n + length (y ∷ ys))) None) [
  | true ↦ λ h. absurd (cc)
  | false ↦ λ h. let same : n + 1 + length ys ≡ n + length (y ∷ ys) = omega arith in rw (← same) (position_from-push t (n + 1) ys x h)
] e

-- tests that agree find one place
pub position_from_congr : {X : Type 0} (t u : X → Bool) (n : ℕ) (xs : List X) → ((x : X) → t x ≡ u x) → position_from t n xs ≡ position_from u n xs
position_from_congr t u n xs same = ap (λ v. position_from v n xs) (λ i x. same x i)

-- the place of the first, or how many there are
pub place_or_len : {X : Type 0} (t : X → Bool) (n : ℕ) (xs : List X) → unwrap_or (position_from t n xs) (n + length xs) ≡ n + position_or_len t xs
place_or_len t n [] = refl
place_or_len t n (x ∷ xs) = elim (t x) as (λ b. unwrap_or (cond b (Some n) (position_from t (n + 1) xs)) (n + length (x ∷ xs)) ≡ n + cond (not b) (1 + position_or_len t xs) 0) [
  | true ↦ sym (add-zero n)
  | false ↦
      let longer : n + length (x ∷ xs) ≡ n + 1 + length xs = omega arith in
      let further : n + 1 + position_or_len t xs ≡ n + (1 + position_or_len t xs) = omega arith in
      ap (λ m. unwrap_or (position_from t (n + 1) xs) m) longer ∙ place_or_len t (n + 1) xs ∙ further
]

-- positions in a list of images
pub position_from-map : {X Y : Type 0} (f : X → Y) (t : Y → Bool) (n : ℕ) (xs : List X) → position_from t n (map f xs) ≡ position_from (λ x. t (f x)) n xs
position_from-map f t n [] = refl
position_from-map f t n (x ∷ xs) = rw (position_from-map f t (n + 1) xs) refl

pub position_or_len_congr : {X : Type 0} (t u : X → Bool) (xs : List X) → ((x : X) → t x ≡ u x) → position_or_len t xs ≡ position_or_len u xs
position_or_len_congr t u xs same = ap (λ v. position_or_len v xs) (λ i x. same x i)

pub position_or_len-map : {X Y : Type 0} (f : X → Y) (t : Y → Bool) (xs : List X) → position_or_len t (map f xs) ≡ position_or_len (λ x. t (f x)) xs
position_or_len-map f t [] = refl
position_or_len-map f t (x ∷ xs) = rw (position_or_len-map f t xs) refl

some_place : {n k : ℕ} → Some n ≡ Some k → n ≡ k
some_place {n} {k} e = ap (λ o. unwrap_or o n) e

-- where an element is found: its place is j behind the start
pub record IsFound {X : Type 0} (found : Option X) (n k : ℕ) (xs : List X) : Type 0 where
  pub behind : ℕ
  pub place : k ≡ n + behind
  pub inside : behind < length xs
  pub is : (d : X) → found ≡ Some (get_or xs behind d)

found_later : {X : Type 0} (found : Option X) (n k : ℕ) (x : X) (xs : List X) → IsFound found (n + 1) k xs → IsFound found n k (x ∷ xs)
found_later found n k x xs h = record { behind = suc h.behind; place = omega (arith, h.place); inside = omega (arith, h.inside); is = λ d. h.is d }

-- an element is found at the first place
pub find_at : {X : Type 0} (t : X → Bool) (n k : ℕ) (xs : List X) → position_from t n xs ≡ Some k → IsFound (find t xs) n k xs
find_at t n k [] e = absurd (cc)
find_at t n k (x ∷ xs) e = elim (t x) as (λ b. cond b (Some n) (position_from t (n + 1) xs) ≡ Some k → IsFound (cond b (Some x) (find t xs)) n k (x ∷ xs)) [
  | true ↦ λ h. record { behind = 0; place = sym (some_place h) ∙ sym (add-zero n); inside = omega arith; is = λ d. refl }
  | false ↦ λ h. found_later (find t xs) n k x xs (find_at t (n + 1) k xs h)
] e

-- none is where there is none
pub find_none : {X : Type 0} (t : X → Bool) (n : ℕ) (xs : List X) → position_from t n xs ≡ None → find t xs ≡ None
find_none t n [] e = refl
find_none t n (x ∷ xs) e = elim (t x) as (λ b. cond b (Some n) (position_from t (n + 1) xs) ≡ None → cond b (Some x) (find t xs) ≡ None) [
  | true ↦ λ h. absurd (cc)
  | false ↦ λ h. find_none t (n + 1) xs h
] e

-- what stands behind an element that passes does not matter
pub position_or_len-before : {X : Type 0} (t : X → Bool) (front : List X) (x : X) (rest : List X) → t x ≡ true → position_or_len t (front ++ x ∷ rest) ≡ position_or_len t front
position_or_len-before t [] x rest e = rw e refl
position_or_len-before t (y ∷ ys) x rest e = rw (position_or_len-before t ys x rest e) refl
