-- The numbers of names in a list that grows by a name.
use Rattle.std.proofs.Common.{◌≡◌, ◌<◌, ◌+◌, ◌⊎◌, inl, inr, ℕ, List, [], ◌∷◌, ◌++◌, Bool, true, false, Option, Some, None, cond, length, length-append, refl, sym, ap, ◌∙◌, arith, zero-add}
use Rattle.std.proofs.Math.ListN.{get_or-append}
use Rattle.std.proofs.lemmas.List.{get_or_push}
use Rattle.std.proofs.lemmas.Option.{slice_get_within, slice_get_read, get_or_from_slice_get}
use Rattle.std.proofs.lemmas.Bool.{cases_lt}
use Rattle.std.proofs.lemmas.Slice.Eq.{bytes_eq-Decides}
use Rattle.std.proofs.lemmas.Cmp.{nat_list_eq_equiv}
use Rattle.std.specs.Str.{bytes_eq}
use Rattle.xc_lists.proofs.Positions.{position_from-stays, position_from-push}
use Rattle.std.proofs.lemmas.Bool.{and_parts}
use Rattle.xc_names.specs.Names.{name_of, is_named, number_of, AreNumbered, KeepsNumbers}
use Rattle.xc_names.specs.declared.expanded.Expanded.{Expanded}

-- a name that is there keeps its number
pub pushed_keeps : (names : List Expanded) (name : Expanded) → KeepsNumbers names (names ++ name ∷ [])
pushed_keeps names name s l k e = position_from-stays (is_named s l) 0 k names name e

-- a name is itself
is_itself : (space local : List ℕ) → is_named space local (name_of space local) ≡ true
is_itself space local = rw (nat_list_eq_equiv.refl space) (nat_list_eq_equiv.refl local)

-- equal names have one number
one_number : (names : List Expanded) (s l : List ℕ) (name : Expanded) → is_named s l name ≡ true → number_of s l names ≡ number_of name.space name.local names
one_number names s l name e =
    let h = and_parts (bytes_eq s name.space) (bytes_eq l name.local) e in
    rw ((bytes_eq-Decides s name.space).0 h.0) (rw ((bytes_eq-Decides l name.local).0 h.1) refl)

-- numbers after a new name goes last
pub number_after : (names : List Expanded) (space local : List ℕ) → number_of space local names ≡ None
    → (s l : List ℕ) → number_of s l (names ++ name_of space local ∷ []) ≡ cond (is_named s l (name_of space local)) (Some (length names)) (number_of s l names)
number_after names space local none s l = by (is_named s l (name_of space local)) refl (number_of s l names) refl
  where
    by : (b : Bool) → is_named s l (name_of space local) ≡ b → (o : Option ℕ) → number_of s l names ≡ o → number_of s l (names ++ name_of space local ∷ []) ≡ cond b (Some (length names)) o
    by true e (Some k) f = absurd (let h : Some k ≡ None = sym f ∙ one_number names s l (name_of space local) e ∙ none in cc)
    by true e None f = position_from-push (is_named s l) 0 names (name_of space local) f ∙ ap (λ b. cond b (Some (0 + length names)) None) e ∙ ap Some (zero-add (length names))
    by false e (Some k) f = position_from-stays (is_named s l) 0 k names (name_of space local) f
    by false e None f = position_from-push (is_named s l) 0 names (name_of space local) f ∙ ap (λ b. cond b (Some (0 + length names)) None) e

-- the new name has the next number
pub number_of_new : (names : List Expanded) (space local : List ℕ) → number_of space local names ≡ None → number_of space local (names ++ name_of space local ∷ []) ≡ Some (length names)
number_of_new names space local none = number_after names space local none space local ∙ ap (λ b. cond b (Some (length names)) (number_of space local names)) (is_itself space local)

last_or_before : (i n : ℕ) → i < n + 1 → (i < n) ⊎ (i ≡ n)
last_or_before i n h = elim (cases_lt i n) [ inl g ↦ inl g | inr g ↦ inr (omega arith) ]

-- each name of the longer list has the number of its place
pub numbered_after : (names : List Expanded) (space local : List ℕ) → number_of space local names ≡ None → AreNumbered names → AreNumbered (names ++ name_of space local ∷ [])
numbered_after names space local none own i name at = by (last_or_before i (length names) (omega (arith, slice_get_within (names ++ name_of space local ∷ []) i name at, length-append names (name_of space local ∷ []))))
  where
    by : (i < length names) ⊎ (i ≡ length names) → number_of name.space name.local (names ++ name_of space local ∷ []) ≡ Some i
    by (inl h) = position_from-stays (is_named name.space name.local) 0 i names (name_of space local) (own i name (slice_get_read names (length names) i name refl h (sym (sym (get_or-append names (name_of space local ∷ []) name i h) ∙ get_or_from_slice_get (names ++ name_of space local ∷ []) i name name at))))
    by (inr e) =
        let same : name ≡ name_of space local = sym (get_or_from_slice_get (names ++ name_of space local ∷ []) i name name at) ∙ get_or_push names (name_of space local) name i (sym e) in
        rw same (rw e (number_of_new names space local none))
