-- Measures by two numberings: whether two lists say the same does not depend on the numbers.
use Rattle.std.proofs.Common.{◌≡◌, ◌+◌, ◌≤◌, ℕ, List, [], ◌∷◌, Option, Some, None, option_map, option_and_then, is_some, map, cond, ltb, suc, get_or, set, sum_by, IsPermutation, refl, sym, ap, ap₂, subst, ◌∙◌, arith, le_antisymm}
use Rattle.std.specs.List.{AllByRecursion, swap}
use Rattle.std.specs.List.Sorted.{IsNonDecreasingBy, SwapsInRange, apply_swaps}
use Rattle.std.proofs.lemmas.Bool.Decides.{nat_tests}
use Rattle.std.proofs.Math.ListN.{get_or-map}
use Rattle.std.proofs.lemmas.List.{length-map, map-set}
use Rattle.std.proofs.lemmas.List.Elements.{recursion_from_All}
use Rattle.std.proofs.lemmas.List.Sorted.{IsNonDecreasingBy-from_sort, IsPermutation-map, IsPermutation-sym, IsPermutation-trans, sum_by-IsPermutation}
use Rattle.std.proofs.lemmas.List.Sums.{sum_by-cons}
use Rattle.xc_names.specs.Laws.{NumbersTellNames}
use Rattle.xc_names.specs.Names.{number_of}
use Rattle.xc_names.specs.declared.expanded.Expanded.{Expanded}
use Rattle.xc_names.specs.declared.expanded.NameId.{NameId}
use Rattle.xc_report.specs.Each.{each_some}
use Rattle.xc_report.specs.Numbered.{id_of, Ascend, AreMeasures}

-- ---- options and lists

pub in_some : {X : Type 0} (x y : X) → Some x ≡ Some y → x ≡ y
in_some x y e = cc

-- what an option is made to, where it is made to something
pub mapped : {X Y : Type 0} (f : X → Y) (o : Option X) (y : Y) → option_map f o ≡ Some y → (x : X) × (o ≡ Some x) × (y ≡ f x)
mapped f None y e = absurd (cc)
mapped f (Some x) y e = (x, refl, sym (in_some (f x) y e))

heads : {X : Type 0} (x y : X) (xs ys : List X) → x ∷ xs ≡ y ∷ ys → x ≡ y
heads x y xs ys e = cc

tails : {X : Type 0} (x y : X) (xs ys : List X) → x ∷ xs ≡ y ∷ ys → xs ≡ ys
tails x y xs ys e = cc

each_step : {X Y : Type 0} (f : X → Option Y) (x : X) (xs : List X) (ys : List Y) (first : Option Y) (others : Option (List Y)) → f x ≡ first → ((zs : List Y) → others ≡ Some zs → map f xs ≡ map (λ z. Some z) zs)
    → option_and_then (λ y. option_map (λ zs. y ∷ zs) others) first ≡ Some ys → f x ∷ map f xs ≡ map (λ z. Some z) ys
each_step f x xs ys None others e rest h = absurd (cc)
each_step f x xs ys (Some y) None e rest h = absurd (cc)
each_step f x xs ys (Some y) (Some zs) e rest h = ap₂ (λ o os. o ∷ os) e (rest zs refl) ∙ ap (map (λ z. Some z)) (in_some (y ∷ zs) ys h)

-- each of a list gives something
each_gives : {X Y : Type 0} (f : X → Option Y) (xs : List X) (ys : List Y) → each_some f xs ≡ Some ys → map f xs ≡ map (λ y. Some y) ys
each_gives f [] ys h = ap (map (λ y. Some y)) (in_some [] ys h)
each_gives f (x ∷ xs) ys h = each_step f x xs ys (f x) (each_some f xs) refl (each_gives f xs) h

-- ---- numbers of names

abbrev pub id_at : ℕ → NameId
id_at number = record { 0 = number }

abbrev id_or_zero : Option NameId → NameId
id_or_zero None = id_at 0
id_or_zero (Some id) = id

ids_back : (ids : List NameId) → map id_or_zero (map (λ id. Some id) ids) ≡ ids
ids_back [] = refl
ids_back (id ∷ ids) = ap (λ rest. id ∷ rest) (ids_back ids)

module _ (tell : NumbersTellNames) where
  -- names with one number are the same
  pub one_name : (names : List Expanded) (a b : Expanded) (id : NameId) → id_of names a ≡ Some id → id_of names b ≡ Some id → a ≡ b
  one_name names a b id h k =
      let first = mapped id_at (number_of a.space a.local names) id h in
      let second = mapped id_at (number_of b.space b.local names) id k in
      let numbers : first.0 ≡ second.0 = ap (λ (i : NameId). i.0) (sym first.2 ∙ second.2) in
      (tell names a.space a.local b.space b.local (ap is_some first.1)).0 (first.1 ∙ ap (λ n. Some n) numbers ∙ sym second.1)

  -- and so are lists of names with the same numbers
  same_names : (names ms ns : List Expanded) (ids : List NameId) → map (id_of names) ms ≡ map (λ id. Some id) ids → map (id_of names) ns ≡ map (λ id. Some id) ids → ms ≡ ns
  same_names names [] [] ids h k = refl
  same_names names [] (n ∷ ns) [] h k = absurd (cc)
  same_names names [] (n ∷ ns) (id ∷ ids) h k = absurd (cc)
  same_names names (m ∷ ms) [] [] h k = absurd (cc)
  same_names names (m ∷ ms) [] (id ∷ ids) h k = absurd (cc)
  same_names names (m ∷ ms) (n ∷ ns) [] h k = absurd (cc)
  same_names names (m ∷ ms) (n ∷ ns) (id ∷ ids) h k = ap₂ (λ z zs. z ∷ zs) (one_name names m n id (heads _ _ _ _ h) (heads _ _ _ _ k)) (same_names names ms ns ids (tails _ _ _ _ h) (tails _ _ _ _ k))

-- ---- exchanges of what a list is mapped to

module _ {X Y : Type 0} (f : X → Y) where
  map_swap : (xs : List X) (i j : ℕ) → map f (swap xs i j) ≡ swap (map f xs) i j
  map_swap [] i j = refl
  map_swap (x ∷ xs) i j = map-set f (set (x ∷ xs) i (get_or (x ∷ xs) j x)) j (get_or (x ∷ xs) i x)
      ∙ (λ z. set ((map-set f (x ∷ xs) i (get_or (x ∷ xs) j x) ∙ ap (set (map f (x ∷ xs)) i) (sym (get_or-map f (x ∷ xs) j x))) z) j (sym (get_or-map f (x ∷ xs) i x) z))

  map_swaps : (xs : List X) (moves : List (ℕ × ℕ)) → map f (apply_swaps xs moves) ≡ apply_swaps (map f xs) moves
  map_swaps xs [] = refl
  map_swaps xs (m ∷ ms) = map_swap (apply_swaps xs ms) m.0 m.1 ∙ ap (λ l. swap l m.0 m.1) (map_swaps xs ms)

  -- exchanges of what a list is mapped to are exchanges of the list, where no other list is mapped to the same
  permuted_back : (xs ys : List X) → ((zs : List X) → map f zs ≡ map f ys → zs ≡ ys) → IsPermutation (map f xs) (map f ys) → IsPermutation xs ys
  permuted_back xs ys only p = record {
    moves = p.moves;
    below = subst (λ n. SwapsInRange n p.moves) (length-map xs f) p.below;
    is = sym (only (apply_swaps xs p.moves) (map_swaps xs p.moves ∙ sym p.is));
  }

-- ---- numbers in order

-- each number is at most those behind it
abbrev Rise : List NameId → Type 0
Rise [] = Unit {0}
Rise (x ∷ xs) = AllByRecursion (λ y. x.0 ≤ y.0) xs × Rise xs

rise : (ids : List NameId) → IsNonDecreasingBy (λ (id : NameId). id.0) ids → Rise ids
rise [] h = tt
rise (x ∷ xs) h = (
  recursion_from_All (λ (y : NameId). x.0 ≤ y.0) xs (λ k d lt. h 0 (suc k) d (omega arith) (omega arith)),
  rise xs (λ i j d le lt. h (suc i) (suc j) d (omega arith) (omega arith)),
)

-- one where a number is below another
abbrev below : ℕ → ℕ → ℕ
below n m = cond (ltb m n) 1 0

not_below : (n m : ℕ) → n ≤ m → below n m ≡ 0
not_below n m h = grind (arith, nat_tests)

from_not_below : (n m : ℕ) → below n m ≡ 0 → n ≤ m
from_not_below n m h = grind (arith, nat_tests)

abbrev below_id : NameId → NameId → ℕ
below_id y z = below y.0 z.0

none_below : (y : NameId) (zs : List NameId) → AllByRecursion (λ z. y.0 ≤ z.0) zs → sum_by (below_id y) zs ≡ 0
none_below y [] all = refl
none_below y (z ∷ zs) all =
    let first : below_id y z ≡ 0 = not_below y.0 z.0 all.0 in
    let rest : sum_by (below_id y) zs ≡ 0 = none_below y zs all.1 in
    sum_by-cons (below_id y) z zs ∙ ap₂ (λ a b. a + b) first rest

none_first : (a b : ℕ) → a + b ≡ 0 → a ≡ 0
none_first a b e = omega arith

-- lists have one sum, whatever stands for a number
abbrev SameSums : List NameId → List NameId → Type 0
SameSums xs ys = (f : NameId → ℕ) → sum_by f xs ≡ sum_by f ys

least_first : (x y : NameId) (xs ys : List NameId) → AllByRecursion (λ z. y.0 ≤ z.0) ys → SameSums (x ∷ xs) (y ∷ ys) → y.0 ≤ x.0
least_first x y xs ys all same =
    let itself : y.0 ≤ y.0 = omega arith in
    let none : sum_by (below_id y) (y ∷ ys) ≡ 0 = none_below y (y ∷ ys) (itself, all) in
    from_not_below y.0 x.0 (none_first (below_id y x) (sum_by (below_id y) xs) (sym (sum_by-cons (below_id y) x xs) ∙ same (below_id y) ∙ none))

cancelled : (a b c d : ℕ) → a ≡ b → a + c ≡ b + d → c ≡ d
cancelled a b c d e h = omega arith

rest_sums : (x y : NameId) (xs ys : List NameId) → x ≡ y → SameSums (x ∷ xs) (y ∷ ys) → SameSums xs ys
rest_sums x y xs ys e same = λ f. cancelled (f x) (f y) (sum_by f xs) (sum_by f ys) (ap f e) (sym (sum_by-cons f x xs) ∙ same f ∙ sum_by-cons f y ys)

abbrev one : NameId → ℕ
one id = 1

one_more : (n : ℕ) → 0 ≡ 1 + n → ⊥
one_more n e = omega arith

-- numbers in order are known by their sums
in_order_same : (xs ys : List NameId) → Rise xs → Rise ys → SameSums xs ys → xs ≡ ys
in_order_same [] [] s t same = refl
in_order_same [] (y ∷ ys) s t same = absurd (one_more (sum_by one ys) (same one ∙ sum_by-cons one y ys))
in_order_same (x ∷ xs) [] s t same = absurd (one_more (sum_by one xs) (sym (same one) ∙ sum_by-cons one x xs))
in_order_same (x ∷ xs) (y ∷ ys) s t same =
    let first : x ≡ y = ap id_at (le_antisymm (least_first y x ys xs s.0 (λ f. sym (same f))) (least_first x y xs ys t.0 same)) in
    ap₂ (λ z zs. z ∷ zs) first (in_order_same xs ys s.1 t.1 (rest_sums x y xs ys first same))

ascend_same : (xs ys : List NameId) → Ascend xs → Ascend ys → IsPermutation xs ys → xs ≡ ys
ascend_same xs ys s t p =
    in_order_same xs ys (rise xs (IsNonDecreasingBy-from_sort (λ (id : NameId). id.0) xs s)) (rise ys (IsNonDecreasingBy-from_sort (λ (id : NameId). id.0) ys t)) (λ f. sym (sum_by-IsPermutation f xs ys p))

-- ---- measures

-- the numbers of measures are those of the names
ids_are : (names ms : List Expanded) (ids : List NameId) → (h : AreMeasures names ms ids) → map id_or_zero (map (id_of names) ms) ≡ h.numbers
ids_are names ms ids h = ap (map id_or_zero) (each_gives (id_of names) ms h.numbers h.each) ∙ ids_back h.numbers

-- where their names are the same but for their order, measures have the same numbers
same_measures : (names ms ns : List Expanded) (a b : List NameId) → AreMeasures names ms a → AreMeasures names ns b → IsPermutation ms ns → a ≡ b
same_measures names ms ns a b h k p =
    let numbers : IsPermutation h.numbers k.numbers =
    subst (λ l. IsPermutation l k.numbers) (ids_are names ms a h) (subst (IsPermutation (map id_or_zero (map (id_of names) ms))) (ids_are names ns b k)
    (IsPermutation-map id_or_zero (map (id_of names) ms) (map (id_of names) ns) (IsPermutation-map (id_of names) ms ns p))) in
    ascend_same a b h.ascend k.ascend (IsPermutation-trans a h.numbers b (IsPermutation-sym h.numbers a h.same) (IsPermutation-trans h.numbers k.numbers b numbers k.same))

module _ (tell : NumbersTellNames) where
  -- measures with the same numbers have the same names but for their order
  permuted_names : (names ms ns : List Expanded) (a b : List NameId) → AreMeasures names ms a → AreMeasures names ns b → a ≡ b → IsPermutation ms ns
  permuted_names names ms ns a b h k e =
      let first = each_gives (id_of names) ms h.numbers h.each in
      let second = each_gives (id_of names) ns k.numbers k.each in
      let numbers : IsPermutation h.numbers k.numbers = IsPermutation-trans h.numbers a k.numbers h.same (subst (λ l. IsPermutation l k.numbers) (sym e) (IsPermutation-sym k.numbers b k.same)) in
      permuted_back (id_of names) ms ns (λ zs same. same_names tell names zs ns k.numbers (same ∙ second) second)
      (subst (λ l. IsPermutation l (map (id_of names) ns)) (sym first) (subst (IsPermutation (map (λ id. Some id) h.numbers)) (sym second) (IsPermutation-map (λ id. Some id) h.numbers k.numbers numbers)))

  -- measures that have the same numbers by one numbering have the same by another
  pub measures_carried : (names others ms ns : List Expanded) (a b c d : List NameId) → AreMeasures names ms a → AreMeasures names ns b → AreMeasures others ms c → AreMeasures others ns d → a ≡ b → c ≡ d
  measures_carried names others ms ns a b c d h k i j e = same_measures others ms ns c d i j (permuted_names names ms ns a b h k e)
