-- What is found in lists of links, and in maps that are made of them.
use Rattle.indexmap.specs.IndexMap.{IndexMap, get}
use Rattle.std.proofs.Common.{◌≡◌, ◌<◌, ◌+◌, ◌++◌, ◌&&◌, ℕ, List, [], ◌∷◌, Bool, true, false, Option, Some, None, drop, get_or, length, find, flat_map, option_map, if◌then◌else◌, add-one, append-nil, refl, sym, ap, ◌∙◌}
use Rattle.std.proofs.Math.Seq.{drop-cons}
use Rattle.std.proofs.lemmas.Cmp.{nat_list_eq_equiv}
use Rattle.std.proofs.lemmas.Grind.{flat_map-append}
use Rattle.std.proofs.lemmas.List.Folds.{find-append}
use Rattle.std.specs.Option.{option_or}
use Rattle.xc_concepts.proofs.NumbersByIds.{or_along}
use Rattle.xc_concepts.specs.Rules.{is_same_name}
use Rattle.xc_concepts.specs.Steps.Links.{as_name, own_next, next_of, next_name}
use Rattle.xc_concepts.specs.declared.links.Link.{Link}
use Rattle.xc_concepts.specs.declared.links.TypeName.{TypeName}
use Rattle.xc_names.specs.declared.expanded.Expanded.{Expanded}

-- a map with the same entries gives the same
pub get_same : {K V S : Type 0} (same : K → K → Bool) (old new : IndexMap K V S) (key : K) → new.entries ≡ old.entries → get same new key ≡ get same old key
get_same same old new key e = rw e refl

-- names are equal either way
pub turned_name : (a b : Expanded) → is_same_name a b ≡ is_same_name b a
turned_name a b = λ i. nat_list_eq_equiv.symm a.space b.space i && nat_list_eq_equiv.symm a.local b.local i

map_or : {A B : Type 0} (f : A → B) (a b : Option A) → option_map f (option_or a b) ≡ option_or (option_map f a) (option_map f b)
map_or f None b = refl
map_or f (Some x) b = refl

module _ {A : Type 0} (test : A → Bool) (value : A → Option Expanded) where
  -- the value of the first that passes
  abbrev pub found : List A → Option (Option Expanded)
  found xs = option_map value (find test xs)

  in_front : (x : A) (rest : List A) → found (x ∷ rest) ≡ option_or (if test x then Some (value x) else None) (found rest)
  in_front x rest = by (test x)
    where
      by : (b : Bool) → option_map value (if b then Some x else find test rest) ≡ option_or (if b then Some (value x) else None) (option_map value (find test rest))
      by true = refl
      by false = refl

  module _ {K : Type 0} (same : K → K → Bool) (key : K) where
    at_end : (links : List (Link K)) (l : Link K) → next_of same key (links ++ l ∷ []) ≡ option_or (next_of same key links) (own_next same key l)
    at_end links l =
        ap (option_map (λ m. m.next)) (find-append (λ m. same m.key key) links (l ∷ []))
        ∙ map_or (λ m. m.next) (find (λ m. same m.key key) links) (find (λ m. same m.key key) (l ∷ []))
        ∙ ap (option_or (next_of same key links)) (by (same l.key key))
      where
        by : (b : Bool) → option_map (λ m. m.next) (if b then Some l else None) ≡ (if b then Some l.next else None)
        by true = refl
        by false = refl

    own_value : (l : Link K) (d : A) → same l.key key ≡ test d → option_map as_name l.next ≡ value d → next_name (own_next same key l) ≡ (if test d then Some (value d) else None)
    own_value l d e f = ap (λ b. next_name (if b then Some l.next else None)) e ∙ by (test d)
      where
        by : (b : Bool) → next_name (if b then Some l.next else None) ≡ (if b then Some (value d) else None)
        by true = ap Some f
        by false = refl

    -- one more link, and what is left
    pub links_step : (xs : List A) (i : ℕ) (d : A) (links : List (Link K)) (l : Link K) → i < length xs → d ≡ get_or xs i d → same l.key key ≡ test d → option_map as_name l.next ≡ value d
        → option_or (next_name (next_of same key (links ++ l ∷ []))) (found (drop (i + 1) xs)) ≡ option_or (next_name (next_of same key links)) (found (drop i xs))
    links_step xs i d links l h is e f =
        let rest = found (drop (i + 1) xs) in
        let next : found (drop i xs) ≡ option_or (if test d then Some (value d) else None) rest =
        ap found (drop-cons xs i d h ∙ (λ j. sym is j ∷ drop (sym (add-one i) j) xs)) ∙ in_front d (drop (i + 1) xs) in
        ap (λ o. option_or o rest) (ap next_name (at_end links l) ∙ map_or (option_map as_name) (next_of same key links) (own_next same key l) ∙ ap (option_or (next_name (next_of same key links))) (own_value l d e f))
        ∙ or_along (next_name (next_of same key links)) (if test d then Some (value d) else None) rest
        ∙ ap (option_or (next_name (next_of same key links))) (sym next)

  -- a look-up after the links of one more list are put in
  pub found_after : {S : Type 0} (f : S → List A) (xs : List S) (x : S) (old new more : Option (Option TypeName)) → new ≡ option_or old more → next_name old ≡ found (flat_map f xs) → next_name more ≡ found (f x)
      → next_name new ≡ found (flat_map f (xs ++ x ∷ []))
  found_after f xs x old new more e was own =
      ap next_name e ∙ map_or (option_map as_name) old more ∙ (λ i. option_or (was i) (own i))
      ∙ sym (map_or value (find test (flat_map f xs)) (find test (f x)))
      ∙ ap (option_map value) (sym (find-append test (flat_map f xs) (f x)))
      ∙ ap found (sym (flat_map-append f xs (x ∷ []) ∙ ap (λ ys. flat_map f xs ++ ys) (append-nil (f x))))
