-- The pieces of a text around a mark: the first, and those of what stands behind it.
use Rattle.std.proofs.Common.{◌≡◌, ◌+◌, ◌++◌, ℕ, suc, List, [], ◌∷◌, Bool, true, false, not, cond, nat_lt, length, take, drop, Option, Some, None, option_map, refl, sym, ap, ◌∙◌, subst, arith, append_assoc}
use Rattle.std.specs.List.{position_or_len, before_first, after_first, slice_split, onto_first}
use Rattle.std.proofs.lemmas.Bool.Decides.{nat_tests}
use Rattle.xc_report.specs.Each.{each_some}
use Rattle.xc_names.specs.Prefixes.{Bindings}
use Rattle.xc_names.specs.declared.expanded.Expanded.{Expanded}
use Rattle.xc_report.specs.Prefixed.{expanded_name}
use Rattle.xc_chars.specs.Parts.{around}
use Rattle.xc_report.specs.Units.{is_star, product}

none_before : (b : Bool) → nat_lt 0 0 ≡ b → b ≡ true → ⊥
none_before b e h = let lt : nat_lt 0 0 ≡ true = e ∙ h in grind (arith, nat_tests)

pub one_less : (m n : ℕ) → nat_lt (1 + m) (suc n) ≡ nat_lt m n
one_less m n = grind (arith, nat_tests)

pub take_one : {X : Type 0} (x : X) (xs : List X) (m n : ℕ) → m ≡ suc n → take m (x ∷ xs) ≡ x ∷ take n xs
take_one x xs m n e = subst (λ k. take k (x ∷ xs) ≡ x ∷ take n xs) (sym e) refl

pub drop_one : {X : Type 0} (x : X) (xs : List X) (m n : ℕ) → m ≡ suc n → drop m (x ∷ xs) ≡ drop n xs
drop_one x xs m n e = subst (λ k. drop k (x ∷ xs) ≡ drop n xs) (sym e) refl

pub split_first : {X : Type 0} (p : X → Bool) (xs : List X) → nat_lt (position_or_len p xs) (length xs) ≡ true → slice_split p xs ≡ before_first p xs ∷ slice_split p (after_first p xs)
split_first p [] h = absurd (none_before _ refl h)
split_first p (x ∷ xs) h = by (p x) (split_first p xs) h
  where
    by : (b : Bool) → (nat_lt (position_or_len p xs) (length xs) ≡ true → slice_split p xs ≡ before_first p xs ∷ slice_split p (after_first p xs)) → nat_lt (cond (not b) (1 + position_or_len p xs) 0) (suc (length xs)) ≡ true
        → cond b ([] ∷ slice_split p xs) (onto_first x (slice_split p xs)) ≡ take (cond (not b) (1 + position_or_len p xs) 0) (x ∷ xs) ∷ slice_split p (drop (cond (not b) (1 + position_or_len p xs) 0 + 1) (x ∷ xs))
    by true rest h = refl
    by false rest h =
        let place = position_or_len p xs in
        let front : take (1 + place) (x ∷ xs) ≡ x ∷ take place xs = take_one x xs (1 + place) place (omega arith) in
        let back : drop (1 + place + 1) (x ∷ xs) ≡ drop (place + 1) xs = drop_one x xs (1 + place + 1) (place + 1) (omega arith) in
        ap (onto_first x) (rest (sym (one_less place (length xs)) ∙ h))
        ∙ sym (ap (λ f. f ∷ slice_split p (drop (1 + place + 1) (x ∷ xs))) front ∙ ap (λ b. (x ∷ take place xs) ∷ slice_split p b) back)

pub split_last : {X : Type 0} (p : X → Bool) (xs : List X) → nat_lt (position_or_len p xs) (length xs) ≡ false → slice_split p xs ≡ xs ∷ []
split_last p [] h = refl
split_last p (x ∷ xs) h = by (p x) (split_last p xs) h
  where
    by : (b : Bool) → (nat_lt (position_or_len p xs) (length xs) ≡ false → slice_split p xs ≡ xs ∷ []) → nat_lt (cond (not b) (1 + position_or_len p xs) 0) (suc (length xs)) ≡ false
        → cond b ([] ∷ slice_split p xs) (onto_first x (slice_split p xs)) ≡ (x ∷ xs) ∷ []
    by true rest h = absurd (let lt : nat_lt 0 (suc (length xs)) ≡ false = h in grind (arith, nat_tests))
    by false rest h = ap (onto_first x) (rest (sym (one_less (position_or_len p xs) (length xs)) ∙ h))

pair_around : (p : ℕ → Bool) (text : List ℕ) (parts : List ℕ × List ℕ) (b : Bool) → nat_lt (position_or_len p text) (length text) ≡ b → cond b (Some (before_first p text, after_first p text)) None ≡ Some parts → slice_split p text ≡ parts.0 ∷ slice_split p parts.1
pair_around p text parts true h e =
    let same : (before_first p text, after_first p text) ≡ parts = cc in
    split_first p text h ∙ ap (λ (q : List ℕ × List ℕ). q.0 ∷ slice_split p q.1) same
pair_around p text parts false h e = absurd (cc)

none_around : (p : ℕ → Bool) (text : List ℕ) (b : Bool) → nat_lt (position_or_len p text) (length text) ≡ b → cond {A = Option (List ℕ × List ℕ)} b (Some (before_first p text, after_first p text)) None ≡ None → slice_split p text ≡ text ∷ []
none_around p text true h e = absurd (cc)
none_around p text false h e = split_last p text h

-- where a text has a mark, its pieces are what stands before it and the pieces of what stands behind it
pub pieces_around : (p : ℕ → Bool) (text : List ℕ) (parts : List ℕ × List ℕ) → around p text ≡ Some parts → slice_split p text ≡ parts.0 ∷ slice_split p parts.1
pieces_around p text parts e = pair_around p text parts _ refl e

-- where it has none, it is its only piece
pub no_pieces : (p : ℕ → Bool) (text : List ℕ) → around p text ≡ None → slice_split p text ≡ text ∷ []
no_pieces p text e = none_around p text _ refl e

-- what is left after the first element gave something
pub each_first : {A B : Type 0} (f : A → Option B) (done : List B) (x : A) (y : B) (xs : List A) → f x ≡ Some y → option_map (λ rest. done ++ rest) (each_some f (x ∷ xs)) ≡ option_map (λ rest. (done ++ y ∷ []) ++ rest) (each_some f xs)
each_first {B = B} f done x y xs e = rw e (moved (each_some f xs))
  where
    moved : (o : Option (List B)) → option_map (λ rest. done ++ rest) (option_map (λ ys. y ∷ ys) o) ≡ option_map (λ rest. (done ++ y ∷ []) ++ rest) o
    moved None = refl
    moved (Some ys) = ap Some (sym (append_assoc done (y ∷ []) ys))

-- nothing is given where the first element gives nothing
pub each_not : {A B : Type 0} (f : A → Option B) (done : List B) (x : A) (xs : List A) → f x ≡ None → option_map (λ rest. done ++ rest) (each_some f (x ∷ xs)) ≡ None
each_not f done x xs e = rw e refl

-- the measures of a product whose first piece is none
pub first_none : (prefixes : Bindings) (done : List Expanded) (left : List ℕ) (parts : List ℕ × List ℕ) → around is_star left ≡ Some parts → expanded_name prefixes parts.0 ≡ None → option_map (λ rest. done ++ rest) (product prefixes left) ≡ None
first_none prefixes done left parts cut none = ap (λ pieces. option_map (λ rest. done ++ rest) (each_some (expanded_name prefixes) pieces)) (pieces_around is_star left parts cut) ∙ each_not (expanded_name prefixes) done parts.0 (slice_split is_star parts.1) none

-- and of one whose first piece is a measure
pub first_some : (prefixes : Bindings) (done : List Expanded) (left : List ℕ) (parts : List ℕ × List ℕ) (name : Expanded) → around is_star left ≡ Some parts → expanded_name prefixes parts.0 ≡ Some name → option_map (λ rest. done ++ rest) (product prefixes left) ≡ option_map (λ rest. (done ++ name ∷ []) ++ rest) (product prefixes parts.1)
first_some prefixes done left parts name cut some = ap (λ pieces. option_map (λ rest. done ++ rest) (each_some (expanded_name prefixes) pieces)) (pieces_around is_star left parts cut) ∙ each_first (expanded_name prefixes) done parts.0 name (slice_split is_star parts.1) some

-- the measures of a last piece that is none
pub last_none : (prefixes : Bindings) (done : List Expanded) (left : List ℕ) → around is_star left ≡ None → expanded_name prefixes left ≡ None → option_map (λ rest. done ++ rest) (product prefixes left) ≡ None
last_none prefixes done left cut none = ap (λ pieces. option_map (λ rest. done ++ rest) (each_some (expanded_name prefixes) pieces)) (no_pieces is_star left cut) ∙ each_not (expanded_name prefixes) done left [] none

-- and of one that is a measure
pub last_some : (prefixes : Bindings) (done : List Expanded) (left : List ℕ) (name : Expanded) → around is_star left ≡ None → expanded_name prefixes left ≡ Some name → option_map (λ rest. done ++ rest) (product prefixes left) ≡ Some (done ++ name ∷ [])
last_some prefixes done left name cut some = ap (λ pieces. option_map (λ rest. done ++ rest) (each_some (expanded_name prefixes) pieces)) (no_pieces is_star left cut) ∙ rw some refl

-- what a list gives, by its first element and the rest
pub each_cons : {A B : Type 0} (f : A → Option B) (x : A) (y : B) (xs : List A) (ys : List B) → f x ≡ Some y → each_some f xs ≡ Some ys → each_some f (x ∷ xs) ≡ Some (y ∷ ys)
each_cons f x y xs ys e h = rw (e, h) refl
