-- Sets of attributes as lists in order: two are one where each attribute of the one is among the other's.
use Rattle.std.proofs.Common.{◌≡◌, ◌<◌, ◌&&◌, ◌||◌, ◌+◌, ℕ, suc, List, [], ◌∷◌, Bool, true, false, drop, get_or, length, map, add-one, true≢false, refl, sym, ap, ◌∙◌}
use Rattle.std.proofs.Math.Seq.{drop-cons}
use Rattle.std.proofs.lemmas.Bool.{and_from, and_parts, or_left, or_right}
use Rattle.std.proofs.lemmas.Cmp.{then_total, lists_total, tied_itself}
use Rattle.std.proofs.lemmas.Map.Lookups.{btree_set_from_contains, exact_bytes}
use Rattle.std.proofs.lemmas.Map.Text.{is_eq-slice_cmp}
use Rattle.std.specs.BTreeSet.{insert_key}
use Rattle.std.specs.Cmp.{IsTotalOrder}
use Rattle.std.specs.Cmp.Lexicographic.{slice_cmp, on_texts}
use Rattle.std.specs.FinMap.{slice_cmp-IsAntisymmetric}
use Rattle.std.specs.List.{AllByRecursion, list_any}
use Rattle.std.specs.List.Sorted.{IsStrictlySortedBy}
use Rattle.std.specs.Ordering.{nat_cmp, is_eq, match_ordering, ordering_reverse, ordering_then}
use Rattle.std.specs.Str.{bytes_eq}
use Rattle.std.specs.declared.cmp.Ordering.{Ordering}
use Rattle.std.specs.declared.cmp.Ordering.TheVariants.{Less, Equal, Greater}
use Rattle.xc_calc.specs.Effective.{are_among, are_same, is_same_attribute}
use Rattle.xc_calc.specs.Steps.Sets.{attribute_of, by_attribute, by_compared, in_order, put_all}
use Rattle.xc_calc.specs.declared.common.Compared.{Compared}
use Rattle.xc_elements.specs.declared.nodes.Attribute.{Attribute}
use Rattle.xc_lists.proofs.Anys.{any_put_in, or_along}
use Rattle.xc_lists.proofs.Orderings.{is_eq-then}

-- ---- the order

pub total : IsTotalOrder by_attribute
total = then_total (on_texts (λ (a : Attribute). a.space)) (then_total (on_texts (λ (a : Attribute). a.local)) (on_texts (λ (a : Attribute). a.value)))

tied : (o : Ordering) → is_eq o ≡ true → o ≡ Equal
tied Equal e = refl
tied Less e = absurd (true≢false (sym e))
tied Greater e = absurd (true≢false (sym e))

exact : (a b : Attribute) → by_attribute a b ≡ Equal → a ≡ b
exact a b e =
    let space = slice_cmp nat_cmp a.space b.space in
    let local = slice_cmp nat_cmp a.local b.local in
    let value = slice_cmp nat_cmp a.value b.value in
    let first = and_parts (is_eq space) (is_eq (ordering_then local value)) (sym (is_eq-then space (ordering_then local value)) ∙ ap is_eq e) in
    let second = and_parts (is_eq local) (is_eq value) (sym (is_eq-then local value) ∙ first.1) in
    let spaces : a.space ≡ b.space = exact_bytes a.space b.space (tied space first.0) in
    let locals : a.local ≡ b.local = exact_bytes a.local b.local (tied local second.0) in
    let values : a.value ≡ b.value = exact_bytes a.value b.value (tied value second.1) in
    λ i. record { space = spaces i; local = locals i; value = values i }

along_three : (a b c : Bool) → (a && (b && c)) ≡ (a && b && c)
along_three true b c = refl
along_three false b c = refl

-- attributes are equal in the order where they are the same
same_is : (a b : Attribute) → is_eq (by_attribute a b) ≡ is_same_attribute a b
same_is a b =
    let space = slice_cmp nat_cmp a.space b.space in
    let local = slice_cmp nat_cmp a.local b.local in
    let value = slice_cmp nat_cmp a.value b.value in
    is_eq-then space (ordering_then local value)
    ∙ ap (λ t. is_eq space && t) (is_eq-then local value)
    ∙ along_three (is_eq space) (is_eq local) (is_eq value)
    ∙ ap (λ t. t && is_eq local && is_eq value) (is_eq-slice_cmp a.space b.space)
    ∙ ap (λ t. bytes_eq a.space b.space && t && is_eq value) (is_eq-slice_cmp a.local b.local)
    ∙ ap (λ t. bytes_eq a.space b.space && bytes_eq a.local b.local && t) (is_eq-slice_cmp a.value b.value)

-- ---- putting in

-- what the code puts in
pub map_put : (ks : List Compared) (k : Compared) → map attribute_of (insert_key by_compared ks k) ≡ insert_key by_attribute (map attribute_of ks) (attribute_of k)
map_put [] k = refl
map_put (x ∷ xs) k = by (by_compared k x) (map_put xs k)
  where
    by : (o : Ordering) → map attribute_of (insert_key by_compared xs k) ≡ insert_key by_attribute (map attribute_of xs) (attribute_of k)
        → map attribute_of (match_ordering o (k ∷ x ∷ xs) (x ∷ xs) (x ∷ insert_key by_compared xs k)) ≡ match_ordering o (attribute_of k ∷ attribute_of x ∷ map attribute_of xs) (attribute_of x ∷ map attribute_of xs) (attribute_of x ∷ insert_key by_attribute (map attribute_of xs) (attribute_of k))
    by Less rest = refl
    by Equal rest = refl
    by Greater rest = ap (λ l. attribute_of x ∷ l) rest

-- what is left has the next in front
pub put_step : (set attributes : List Attribute) (i : ℕ) (d : Attribute) → i < length attributes → d ≡ get_or attributes i d → put_all set (drop i attributes) ≡ put_all (insert_key by_attribute set d) (drop (i + 1) attributes)
put_step set attributes i d h is =
    ap (put_all set) (drop-cons attributes i d h)
    ∙ ap (λ x. put_all (insert_key by_attribute set x) (drop (suc i) attributes)) (sym is)
    ∙ ap (λ k. put_all (insert_key by_attribute set d) (drop k attributes)) (sym (add-one i))

all_put : (P : Attribute → Type 0) (ks : List Attribute) (k : Attribute) → AllByRecursion P ks → P k → AllByRecursion P (insert_key by_attribute ks k)
all_put P [] k h p = (p, tt)
all_put P (x ∷ xs) k h p = by (by_attribute k x) (all_put P xs k h.1 p)
  where
    by : (o : Ordering) → AllByRecursion P (insert_key by_attribute xs k) → AllByRecursion P (match_ordering o (k ∷ x ∷ xs) (x ∷ xs) (x ∷ insert_key by_attribute xs k))
    by Less rest = (p, h)
    by Equal rest = h
    by Greater rest = (h.0, rest)

below_more : (k x : Attribute) (xs : List Attribute) → by_attribute k x ≡ Less → AllByRecursion (λ y. by_attribute x y ≡ Less) xs → AllByRecursion (λ y. by_attribute k y ≡ Less) xs
below_more k x [] e h = tt
below_more k x (y ∷ ys) e h = (total.trans k x y e h.0, below_more k x ys e h.1)

sorted_put : (ks : List Attribute) (k : Attribute) → IsStrictlySortedBy by_attribute ks → IsStrictlySortedBy by_attribute (insert_key by_attribute ks k)
unfolding IsStrictlySortedBy
sorted_put [] k p = (tt, tt)
sorted_put (x ∷ xs) k p = by (by_attribute k x) refl (sorted_put xs k p.1)
  where
    by : (o : Ordering) → by_attribute k x ≡ o → IsStrictlySortedBy by_attribute (insert_key by_attribute xs k) → IsStrictlySortedBy by_attribute (match_ordering o (k ∷ x ∷ xs) (x ∷ xs) (x ∷ insert_key by_attribute xs k))
    by Less e rest = ((e, below_more k x xs e p.0), p)
    by Equal e rest = p
    by Greater e rest = (all_put (λ y. by_attribute x y ≡ Less) xs k p.0 (total.antisymm x k ∙ ap ordering_reverse e), rest)

sorted_all : (set more : List Attribute) → IsStrictlySortedBy by_attribute set → IsStrictlySortedBy by_attribute (put_all set more)
sorted_all set [] p = p
sorted_all set (a ∷ more) p = sorted_all (insert_key by_attribute set a) more (sorted_put set a p)

sorted_none : IsStrictlySortedBy by_attribute []
unfolding IsStrictlySortedBy
sorted_none = tt

-- ---- what is in a set

abbrev has : List Attribute → Attribute → Bool
has attributes q = list_any (λ a. is_eq (by_attribute q a)) attributes

or_none : (b : Bool) → b ≡ (b || false)
or_none true = refl
or_none false = refl

members : (set more : List Attribute) (q : Attribute) → has (put_all set more) q ≡ (has set q || has more q)
members set [] q = or_none (has set q)
members set (a ∷ more) q =
    members (insert_key by_attribute set a) more q
    ∙ ap (λ b. b || has more q) (any_put_in by_attribute (λ x. is_eq (by_attribute q x)) (λ k x e. ap (λ y. is_eq (by_attribute q y)) (exact k x e)) set a)
    ∙ or_along (has set q) (is_eq (by_attribute q a)) (has more q)

one_way : (these those : List Attribute) (q : Attribute) → are_among these those ≡ true → has these q ≡ true → has those q ≡ true
one_way [] those q among there = absurd (true≢false (sym there))
one_way (a ∷ these) those q among there =
    let parts = and_parts (list_any (is_same_attribute a) those) (are_among these those) among in
    by (is_eq (by_attribute q a)) refl there (one_way these those q parts.1)
  where
    by : (b : Bool) → is_eq (by_attribute q a) ≡ b → (b || has these q) ≡ true → (has these q ≡ true → has those q ≡ true) → has those q ≡ true
    by true e there rest =
        let parts = and_parts (list_any (is_same_attribute a) those) (are_among these those) among in
        ap (has those) (exact q a (tied (by_attribute q a) e)) ∙ ap (λ p. list_any p those) (λ i b. same_is a b i) ∙ parts.0
    by false e there rest = rest there

both : (a b : Bool) → (a ≡ true → b ≡ true) → (b ≡ true → a ≡ true) → a ≡ b
both true b f g = sym (f refl)
both false true f g = g refl
both false false f g = refl

-- two lists with the same attributes have one set
one_set : (these those : List Attribute) → are_same these those ≡ true → in_order these ≡ in_order those
one_set these those same =
    let parts = and_parts (are_among these those) (are_among those these) same in
    btree_set_from_contains total (record { keys = in_order these }) (record { keys = in_order those })
    (sorted_all [] these sorted_none) (sorted_all [] those sorted_none)
    (λ q. members [] these q ∙ both (has these q) (has those q) (one_way these those q parts.0) (one_way those these q parts.1) ∙ sym (members [] those q))
    exact

itself : (xs : List Attribute) → is_eq (slice_cmp by_attribute xs xs) ≡ true
itself xs = ap is_eq (tied_itself (lists_total total) xs)

among_from : (these those : List Attribute) → ((q : Attribute) → has these q ≡ true → has those q ≡ true) → are_among these those ≡ true
among_from [] those h = refl
among_from (a ∷ these) those h =
    let here : is_eq (by_attribute a a) ≡ true = ap is_eq (tied_itself total a) in
    and_from (list_any (is_same_attribute a) those) (are_among these those)
    (sym (ap (λ p. list_any p those) (λ i b. same_is a b i)) ∙ h a (or_left (is_eq (by_attribute a a)) (has these a) here))
    (among_from these those (λ q there. h q (or_right (is_eq (by_attribute q a)) (has these q) there)))

-- two lists with one set have the same attributes
same_from_set : (these those : List Attribute) → in_order these ≡ in_order those → are_same these those ≡ true
same_from_set these those one =
    let agree : (q : Attribute) → has these q ≡ has those q = λ q. sym (members [] these q) ∙ ap (λ set. has set q) one ∙ members [] those q in
    and_from (are_among these those) (are_among those these)
    (among_from these those (λ q there. sym (agree q) ∙ there))
    (among_from those these (λ q there. agree q ∙ there))

-- sets are equal in the order exactly where lists have the same attributes
pub same_sets : (these those : List Attribute) → is_eq (slice_cmp by_attribute (in_order these) (in_order those)) ≡ are_same these those
same_sets these those =
    let order = slice_cmp by_attribute (in_order these) (in_order those) in
    both (is_eq order) (are_same these those)
    (λ e. same_from_set these those (slice_cmp-IsAntisymmetric exact (in_order these) (in_order those) (tied order e)))
    (λ same. ap (λ set. is_eq (slice_cmp by_attribute (in_order these) set)) (sym (one_set these those same)) ∙ itself (in_order these))

-- ---- how the code compares sets

pub compared_by : (ks ls : List Compared) → slice_cmp by_compared ks ls ≡ slice_cmp by_attribute (map attribute_of ks) (map attribute_of ls)
compared_by [] [] = refl
compared_by [] (l ∷ ls) = refl
compared_by (k ∷ ks) [] = refl
compared_by (k ∷ ks) (l ∷ ls) = ap (ordering_then (by_compared k l)) (compared_by ks ls)
