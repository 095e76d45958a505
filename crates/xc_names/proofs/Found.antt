-- A number found in a list is the place of an equal name.
use Rattle.std.proofs.Common.{◌≡◌, ◌+◌, ◌<◌, ℕ, suc, length, List, [], ◌∷◌, Bool, true, false, Option, Some, None, IsSome, cond, slice_get, refl, sym, ap, ◌∙◌, true≢false, add-zero, arith}
use Rattle.std.proofs.lemmas.Slice.Eq.{bytes_eq-Decides}
use Rattle.std.specs.List.{position_from}
use Rattle.std.specs.Str.{bytes_eq}
use Rattle.std.proofs.lemmas.Bool.{and_parts}
use Rattle.std.proofs.lemmas.Option.{slice_get_within}
use Rattle.xc_names.specs.Laws.{NumbersTellNames, NumbersArePlaces, NamesStandAtNumbers}
use Rattle.xc_names.specs.Names.{name_of, is_named, number_of}
use Rattle.xc_names.specs.declared.expanded.Expanded.{Expanded}

-- the item at the place of the first that passes does pass
record IsAt {X : Type 0} (t : X → Bool) (n k : ℕ) (xs : List X) : Type 0 where
  from : ℕ
  item : X
  place : k ≡ n + from
  there : slice_get xs from ≡ Some item
  passes : t item ≡ true

found_at : {X : Type 0} (t : X → Bool) (n k : ℕ) (xs : List X) → position_from t n xs ≡ Some k → IsAt t n k xs
found_at t n k [] e = absurd (cc)
found_at t n k (x ∷ xs) e = by (t x) refl (found_at t (n + 1) k xs) e
  where
    by : (b : Bool) → t x ≡ b → (position_from t (n + 1) xs ≡ Some k → IsAt t (n + 1) k xs) → cond b (Some n) (position_from t (n + 1) xs) ≡ Some k → IsAt t n k (x ∷ xs)
    by true p later h = record { from = 0; item = x; place = (let same : n ≡ k = cc in sym same) ∙ sym (add-zero n); there = refl; passes = p }
    by false p later h =
        let rest = later h in
        record { from = suc rest.from; item = rest.item; place = omega (arith, rest.place); there = rest.there; passes = rest.passes }

-- the number of a name is below how many there are
pub number_within : (names : List Expanded) (s l : List ℕ) (n : ℕ) → number_of s l names ≡ Some n → n < length names
number_within names s l n e = let f = found_at (is_named s l) 0 n names e in omega (arith, f.place, slice_get_within names f.from f.item f.there)

-- names with equal parts are equal
same_name : (s l : List ℕ) (name : Expanded) → is_named s l name ≡ true → name ≡ name_of s l
same_name s l name e =
    let h = and_parts (bytes_eq s name.space) (bytes_eq l name.local) e in
    λ i. record { space = sym ((bytes_eq-Decides s name.space).0 h.0) i; local = sym ((bytes_eq-Decides l name.local).0 h.1) i }

-- the name with a number stands at its place
at_number : (names : List Expanded) (s l : List ℕ) (n : ℕ) → number_of s l names ≡ Some n → slice_get names n ≡ Some (name_of s l)
at_number names s l n e =
    let f = found_at (is_named s l) 0 n names e in
    let place : n ≡ f.from = omega (arith, f.place) in
    rw place (f.there ∙ ap Some (same_name s l f.item f.passes))

told : (names : List Expanded) (s l s' l' : List ℕ) (o : Option ℕ) → number_of s l names ≡ o → IsSome o → number_of s' l' names ≡ o → name_of s l ≡ name_of s' l'
told names s l s' l' (Some n) e there e' =
    let same : Some (name_of s l) ≡ Some (name_of s' l') = sym (at_number names s l n e) ∙ at_number names s' l' n e' in cc
told names s l s' l' None e there e' = absurd (true≢false (sym there))

pub numbers_tell_names : NumbersTellNames
numbers_tell_names names s l s' l' there = (
  λ e. told names s l s' l' (number_of s l names) refl there (sym e),
  λ e. ap (λ (n : Expanded). number_of n.space n.local names) e,
)

pub numbers_are_places : NumbersArePlaces
numbers_are_places names s l n own = (
  at_number names s l n,
  λ e. own n (name_of s l) e,
)

pub names_stand_at_numbers : NamesStandAtNumbers
names_stand_at_numbers names s l n e = (number_within names s l n e, at_number names s l n e)
