-- The numbers of names in a list behind which others stand.
use Rattle.std.proofs.Common.{◌≡◌, ◌+◌, ◌++◌, ◌<◌, ℕ, zero, suc, List, [], ◌∷◌, Bool, true, false, Option, Some, None, Result, Ok, Err, IfOk, OnOk, OnErr, is_some, cond, length, drop, slice_get, if◌then◌else◌, refl, sym, ap, subst, ◌∙◌, arith, add-zero, append_assoc}
use Rattle.std.specs.List.{position_from}
use Rattle.xc_names.specs.Names.{name_of, is_named, number_of, with_name, AreNumbered, KeepsNumbers}
use Rattle.xc_names.specs.declared.expanded.Expanded.{Expanded}
use Rattle.xc_names.specs.declared.expanded.NameId.{NameId}
use Rattle.xc_lists.specs.declared.memory.Memory.{Memory}
use Rattle.xc_names.proofs.Found.{number_within}
use Rattle.xc_names.proofs.Numbered.{pushed_keeps, numbered_after}
use Rattle.xc_report.proofs.SaidMeasures.{in_some}

-- ---- first places

module _ {X : Type 0} (t : X → Bool) where
  -- a first place is that of a longer list
  place_before : (n k : ℕ) (xs ys : List X) → position_from t n xs ≡ Some k → position_from t n (xs ++ ys) ≡ Some k
  place_before n k [] ys e = absurd (cc)
  place_before n k (x ∷ xs) ys e = elim (t x) as (λ b. cond b (Some n) (position_from t (n + 1) xs) ≡ Some k → cond b (Some n) (position_from t (n + 1) (xs ++ ys)) ≡ Some k) [
    | true ↦ λ h. h
    | false ↦ λ h. place_before (n + 1) k xs ys h
  ] e

  -- where there is none, it is the first of those behind
  place_behind : (n : ℕ) (xs ys : List X) → position_from t n xs ≡ None → position_from t n (xs ++ ys) ≡ position_from t (n + length xs) ys
  place_behind n [] ys e = ap (λ m. position_from t m ys) (sym (add-zero n))
  place_behind n (x ∷ xs) ys e = elim (t x) as (λ b. cond b (Some n) (position_from t (n + 1) xs) ≡ None → cond b (Some n) (position_from t (n + 1) (xs ++ ys)) ≡ position_from t (n + length (x ∷ xs)) ys) [
    | true ↦ λ h. absurd (cc)
    | false ↦ λ h. let same : n + 1 + length xs ≡ n + length (x ∷ xs) = omega arith in place_behind (n + 1) xs ys h ∙ ap (λ m. position_from t m ys) same
  ] e

  -- by a later start it is as much later
  place_later : (m n k : ℕ) (xs : List X) → position_from t n xs ≡ Some k → position_from t (m + n) xs ≡ Some (m + k)
  place_later m n k [] e = absurd (cc)
  place_later m n k (x ∷ xs) e = elim (t x) as (λ b. cond b (Some n) (position_from t (n + 1) xs) ≡ Some k → cond b (Some (m + n)) (position_from t (m + n + 1) xs) ≡ Some (m + k)) [
    | true ↦ λ h. ap (λ i. Some (m + i)) (in_some n k h)
    | false ↦ λ h. let same : m + n + 1 ≡ m + (n + 1) = omega arith in ap (λ i. position_from t i xs) same ∙ place_later m (n + 1) k xs h
  ] e

  place_nowhere : (m n : ℕ) (xs : List X) → position_from t n xs ≡ None → position_from t m xs ≡ None
  place_nowhere m n [] e = refl
  place_nowhere m n (x ∷ xs) e = elim (t x) as (λ b. cond b (Some n) (position_from t (n + 1) xs) ≡ None → cond b (Some m) (position_from t (m + 1) xs) ≡ None) [
    | true ↦ λ h. absurd (cc)
    | false ↦ λ h. place_nowhere (m + 1) (n + 1) xs h
  ] e

-- ---- numbers

module _ (there gained : List Expanded) (s l : List ℕ) where
  -- a name that is there has its number
  pub number_before : (k : ℕ) → number_of s l there ≡ Some k → number_of s l (there ++ gained) ≡ Some k
  number_before k e = place_before (is_named s l) 0 k there gained e

  -- one that is gained has its number behind those that are there
  pub number_behind : (k : ℕ) → number_of s l there ≡ None → number_of s l gained ≡ Some k → number_of s l (there ++ gained) ≡ Some (length there + k)
  number_behind k none e =
      let start : 0 + length there ≡ length there + 0 = omega arith in
      place_behind (is_named s l) 0 there gained none ∙ ap (λ m. position_from (is_named s l) m gained) start ∙ place_later (is_named s l) (length there) 0 k gained e

  -- and others have none
  pub number_nowhere : number_of s l there ≡ None → number_of s l gained ≡ None → number_of s l (there ++ gained) ≡ None
  number_nowhere none e = place_behind (is_named s l) 0 there gained none ∙ place_nowhere (is_named s l) (0 + length there) 0 gained e

-- the numbers of names stay, and each name has the number of its place
pub record AreGrown (old new : List Expanded) : Type 0 where
  pub kept : KeepsNumbers old new
  pub numbered : AreNumbered old → AreNumbered new

grown_if : (there gained : List Expanded) (s l : List ℕ) → number_of s l there ≡ None → (o : Option ℕ) → number_of s l gained ≡ o → AreGrown (there ++ gained) (there ++ (if is_some o then gained else gained ++ name_of s l ∷ []))
grown_if there gained s l none (Some k) e = record { kept = λ space local number h. h; numbered = λ h. h }
grown_if there gained s l none None e = subst (AreGrown (there ++ gained)) (append_assoc there gained (name_of s l ∷ [])) (record {
  kept = pushed_keeps (there ++ gained) (name_of s l);
  numbered = numbered_after (there ++ gained) s l (number_nowhere there gained s l none e);
})

-- one name more is gained, where it is not there
pub grown : (there gained : List Expanded) (s l : List ℕ) → number_of s l there ≡ None → AreGrown (there ++ gained) (there ++ with_name s l gained)
grown there gained s l none = grown_if there gained s l none (number_of s l gained) refl

-- as it is after a call that may want memory
pub grown_by : (there gained after : List Expanded) (s l : List ℕ) → number_of s l there ≡ None → (made : Result NameId Memory)
    → OnOk made (after ≡ with_name s l gained) → OnErr made (after ≡ gained) → AreGrown (there ++ gained) (there ++ after)
grown_by there gained after s l none (Ok id) ok err = rw ok (grown there gained s l none)
grown_by there gained after s l none (Err e) ok err = rw err (record { kept = λ space local number h. h; numbered = λ h. h })

-- the number behind those that are there
pub number_told : (names : List Expanded) (s l : List ℕ) (n : ℕ) → number_of s l names ≡ Some n → (made : Result NameId Memory) → IfOk made (λ id. id.0 ≡ n) → IfOk made (λ id. number_of s l names ≡ Some id.0)
number_told names s l n e (Ok id) same = e ∙ ap Some (sym same)
number_told names s l n e (Err f) same = tt

-- ---- names that are gained, put behind the others one by one

slice_get_middle : (xs : List Expanded) (x : Expanded) (ys : List Expanded) → slice_get (xs ++ x ∷ ys) (length xs) ≡ Some x
slice_get_middle [] x ys = refl
slice_get_middle (y ∷ xs) x ys = slice_get_middle xs x ys

drop_at : (xs : List Expanded) (i : ℕ) (x : Expanded) → slice_get xs i ≡ Some x → drop i xs ≡ x ∷ drop (i + 1) xs
drop_at [] i x e = absurd (cc)
drop_at (y ∷ ys) zero x e = ap (λ z. z ∷ ys) (in_some y x e)
drop_at (y ∷ ys) (suc i) x e = let same : suc (i + 1) ≡ suc i + 1 = omega arith in drop_at ys i x e ∙ ap (λ n. x ∷ drop n (y ∷ ys)) same

not_there : (k n : ℕ) → k < n → k ≡ n → ⊥
not_there k n less same = omega arith

last_if : (names : List Expanded) (x : Expanded) (rest : List Expanded) → AreNumbered (names ++ x ∷ rest) → (o : Option ℕ) → number_of x.space x.local names ≡ o
    → (if is_some o then names else names ++ name_of x.space x.local ∷ []) ≡ names ++ x ∷ []
last_if names x rest own None e = refl
last_if names x rest own (Some k) e =
    let number = own (length names) x (slice_get_middle names x rest) in
    let same : k ≡ length names = in_some k (length names) (sym (number_before names (x ∷ rest) x.space x.local k e) ∙ number) in
    absurd (not_there k (length names) (number_within names x.space x.local k e) same)

-- a name that has the number of its own place, behind others, is new to them
new_goes_last : (names : List Expanded) (x : Expanded) (rest : List Expanded) → AreNumbered (names ++ x ∷ rest) → with_name x.space x.local names ≡ names ++ x ∷ []
new_goes_last names x rest own = last_if names x rest own (number_of x.space x.local names) refl

-- names with those that are left behind them, after one name more
pub added_more : (names more gained whole : List Expanded) (i : ℕ) (x : Expanded) → AreNumbered whole → names ++ drop i gained ≡ whole → slice_get gained i ≡ Some x
    → more ≡ with_name x.space x.local names → more ++ drop (i + 1) gained ≡ whole
added_more names more gained whole i x own left at is =
    let rest = drop (i + 1) gained in
    let all : names ++ x ∷ rest ≡ whole = ap (λ ys. names ++ ys) (sym (drop_at gained i x at)) ∙ left in
    ap (λ ns. ns ++ rest) (is ∙ new_goes_last names x rest (subst AreNumbered (sym all) own)) ∙ append_assoc names (x ∷ []) rest ∙ all
