-- What stands around the first element that passes a test.
use Rattle.std.proofs.Common.{◌≡◌, ℕ, ◌+◌, ◌-◌, ◌<◌, ◌≤◌, List, [], ◌∷◌, ◌++◌, Bool, true, false, not, length, take, drop, arith, Some, None, refl, sym, ◌∙◌, ap, cond}
use Rattle.std.specs.Prelude.{position, nat_lt}
use Rattle.std.specs.List.{list_all, position_or_len, before_first, after_first}
use Rattle.std.proofs.Math.ListN.{drop_of_length-le}
use Rattle.std.proofs.lemmas.Bool.{ltb-false, ltb-true, le-ltb, and_parts, cond-true, cond-false, not_from_true}
use Rattle.std.proofs.lemmas.List.{take_all, take_rest, take_at, drop_at, length-append, append-nil, append_assoc}

some_place : (b : Bool) (n at : ℕ) → cond b (Some n) None ≡ Some at → n ≡ at
some_place true n at e = cc
some_place false n at e = cc

some_test : (b : Bool) (n at : ℕ) → cond b (Some n) None ≡ Some at → b ≡ true
some_test true n at e = refl
some_test false n at e = cc

no_place : (b : Bool) (n : ℕ) → cond b (Some n) None ≡ None → b ≡ false
no_place true n e = cc
no_place false n e = refl

module _ {X : Type 0} (p : X → Bool) where
  -- the place of the first, where there is one
  place_is : (xs : List X) (at : ℕ) → position p xs ≡ Some at → position_or_len p xs ≡ at
  place_is xs at e = some_place (nat_lt (position_or_len p xs) (length xs)) (position_or_len p xs) at e

  pub before_place : (xs : List X) (at : ℕ) → position p xs ≡ Some at → take at xs ≡ before_first p xs
  before_place xs at e = ap (λ n. take n xs) (sym (place_is xs at e))

  pub after_place : (xs : List X) (at : ℕ) → position p xs ≡ Some at → take (length xs - (at + 1)) (drop (at + 1) xs) ≡ after_first p xs
  after_place xs at e = take_rest xs (at + 1) ∙ ap (λ n. drop (n + 1) xs) (sym (place_is xs at e))

  pub none_before : (xs : List X) → position p xs ≡ None → length xs ≤ position_or_len p xs
  none_before xs e = ltb-false (position_or_len p xs) (length xs) (no_place (nat_lt (position_or_len p xs) (length xs)) (position_or_len p xs) e)

  pub before_none : (xs : List X) → position p xs ≡ None → xs ≡ before_first p xs
  before_none xs e = sym (take_all (position_or_len p xs) xs (none_before xs e))

  pub after_none : (xs : List X) → position p xs ≡ None → ◌≡◌ {A = List X} [] (after_first p xs)
  after_none xs e = sym (drop_of_length-le xs (omega (arith, none_before xs e)))

  -- Behind elements that fail the test

  -- none of these passes
  abbrev pub Clear : List X → Type 0
  Clear xs = list_all (λ x. not (p x)) xs ≡ true

  pub place_behind : (xs rest : List X) → Clear xs → position_or_len p rest ≡ 0 → position_or_len p (xs ++ rest) ≡ length xs
  place_behind [] rest clear e = e
  place_behind (x ∷ xs) rest clear e =
      let parts = and_parts _ _ clear in
      cond-true (not (p x)) (1 + position_or_len p (xs ++ rest)) 0 parts.0 ∙ omega (arith, place_behind xs rest parts.1 e)

  mark_first : (x : X) (rest : List X) → p x ≡ true → position_or_len p (x ∷ rest) ≡ 0
  mark_first x rest e = cond-false (not (p x)) (1 + position_or_len p rest) 0 (not_from_true (p x) e)

  pub before_mark : (xs : List X) (x : X) (rest : List X) → Clear xs → p x ≡ true → before_first p (xs ++ (x ∷ rest)) ≡ xs
  before_mark xs x rest clear e = take_at xs (x ∷ rest) (position_or_len p (xs ++ (x ∷ rest))) (sym (place_behind xs (x ∷ rest) clear (mark_first x rest e)))

  pub after_mark : (xs : List X) (x : X) (rest : List X) → Clear xs → p x ≡ true → after_first p (xs ++ (x ∷ rest)) ≡ rest
  after_mark xs x rest clear e =
      let place = place_behind xs (x ∷ rest) clear (mark_first x rest e) in
      let whole : xs ++ (x ∷ rest) ≡ (xs ++ (x ∷ [])) ++ rest = sym (append_assoc xs (x ∷ []) rest) in
      let n : ℕ = position_or_len p (xs ++ (x ∷ rest)) + 1 in
      ap (drop n) whole ∙ drop_at (xs ++ (x ∷ [])) rest n (omega (arith, length-append xs (x ∷ []), place))

  none_place : (xs : List X) → Clear xs → position_or_len p xs ≡ length xs
  none_place xs clear = ap (position_or_len p) (sym (append-nil xs)) ∙ place_behind xs [] clear refl

  pub before_clear : (xs : List X) → Clear xs → before_first p xs ≡ xs
  before_clear xs clear = take_all (position_or_len p xs) xs (omega (arith, none_place xs clear))

  pub after_clear : (xs : List X) → Clear xs → ◌≡◌ {A = List X} (after_first p xs) []
  after_clear xs clear = drop_of_length-le xs (omega (arith, none_place xs clear))

  pub position_clear : (xs : List X) → Clear xs → position p xs ≡ None
  position_clear xs clear = cond-false (nat_lt (position_or_len p xs) (length xs)) (Some (position_or_len p xs)) None (le-ltb (position_or_len p xs) (length xs) (omega (arith, none_place xs clear)))

  -- a list is what stands before the first that passes, it, and what stands after it
  pub place_within : (xs : List X) (at : ℕ) → position p xs ≡ Some at → position_or_len p xs < length xs
  place_within xs at e = ltb-true (position_or_len p xs) (length xs) (some_test (nat_lt (position_or_len p xs) (length xs)) (position_or_len p xs) at e)
