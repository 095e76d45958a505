-- The points of the totals of a network are those that have bindings in it.
use Rattle.std.proofs.Common.{◌≡◌, ◌==◌, ◌||◌, ◌+◌, ◌*◌, ◌++◌, append_assoc, ◌<◌, ◌≤◌, inl, inr, ℕ, zero, suc, List, [], ◌∷◌, Bool, true, false, Option, Some, None, Result, Ok, Err, IfOk, cond, drop, filter_map, get_or, length, map, if◌then◌else◌, slice_get, All, true≢false, refl, sym, ap, subst, ◌∙◌, arith}
use Rattle.std.proofs.lemmas.Bool.{ne_eqb}
use Rattle.std.proofs.lemmas.Bool.Decides.{Decides-eqb, eqb_tells}
use Rattle.std.proofs.lemmas.List.Elements.{All-nil, All-cons, All-head, All-tail}
use Rattle.std.proofs.lemmas.Nat.{mul-le}
use Rattle.std.proofs.lemmas.Option.{slice_get_within}
use Rattle.std.specs.BTreeSet.{insert_key}
use Rattle.std.specs.Cmp.{ranked}
use Rattle.std.specs.List.{AllByRecursion, enumerate_from, list_any, cons_option}
use Rattle.std.specs.List.Sorted.{IsStrictlySortedBy}
use Rattle.std.specs.Option.{option_map_or}
use Rattle.std.specs.Ordering.{nat_cmp}
use Rattle.std.specs.declared.cmp.Ordering.TheVariants.{Less, Equal}
use Rattle.xc_bind.specs.Bindings.{arcs_from, binding_of, bindings_in, leads_from, term_of, with_terms}
use Rattle.xc_bind.specs.Steps.Numbered.{numbers_from, numbers_of}
use Rattle.xc_bind.specs.Steps.Totals.{is_total, binding_where, binding_at}
use Rattle.xc_calc.specs.declared.arc.Arc.{Arc}
use Rattle.xc_calc.specs.declared.arc.Network.{Network}
use Rattle.xc_lists.proofs.Anys.{any_map, any_put_in, any_step, no_one, or_along}
use Rattle.xc_names.specs.NameSets.{is_among}
use Rattle.xc_names.specs.declared.expanded.NameId.{NameId}
use Rattle.xc_points.specs.declared.types.Point.{Point}

-- a number that is put in is one more
pub put_in : (ks : List ℕ) (k n : ℕ) → is_among (insert_key nat_cmp ks k) n ≡ (is_among ks n || (k == n))
put_in ks k n = any_put_in nat_cmp (λ x. x == n) (λ k x e. ap (λ m. m == n) (ranked k x Equal (sym e))) ks k

pub is_itself : (n : ℕ) → n == n ≡ true
is_itself n = (Decides-eqb n n).1 refl

differ : (a b : ℕ) → a < b → (a == b) ≡ false
differ a b h = ne_eqb a b (λ e. absurd (omega (arith, e, h)))

-- numbers are equal either way
eqb-turned : (a b : ℕ) → (a == b) ≡ (b == a)
eqb-turned a b = elim (eqb_tells a b) [
  | inl h ↦ h.0 ∙ sym (ap (λ c. b == c) h.1 ∙ is_itself b)
  | inr h ↦ h.0 ∙ sym (ne_eqb b a (λ e. h.1 (sym e)))
]

-- the numbers so far and those that are left, where one more is put in
pub put_more : (old new left : List ℕ) (i d : ℕ) → i < length left → d ≡ get_or left i d → new ≡ insert_key nat_cmp old d
    → (k : ℕ) → (is_among new k || is_among (drop (i + 1) left) k) ≡ (is_among old k || is_among (drop i left) k)
put_more old new left i d h is put k =
    ap (λ ks. is_among ks k || is_among (drop (i + 1) left) k) put
    ∙ ap (λ b. b || is_among (drop (i + 1) left) k) (put_in old d k)
    ∙ or_along (is_among old k) (d == k) (is_among (drop (i + 1) left) k)
    ∙ ap (λ b. is_among old k || b) (sym (any_step (λ n. n == k) left i d h is))

-- ---- the concepts from which arcs lead

abbrev pub some_from : List Arc → ℕ → Bool
some_from arcs n = list_any (λ arc. arc.from.0 == n) arcs

-- an arc leads from a concept by its number
pub leads_by_number : (concept : NameId) (arcs : List Arc) → some_from arcs concept.0 ≡ list_any (leads_from concept) arcs
leads_by_number concept [] = refl
leads_by_number concept (arc ∷ arcs) = ap (λ b. b || some_from arcs concept.0) (eqb-turned arc.from.0 concept.0) ∙ ap (λ b. leads_from concept arc || b) (leads_by_number concept arcs)

-- what are listed are the concepts from which arcs lead
pub concepts_are : (ids : List NameId) (set : List ℕ) (arcs : List Arc) → map (λ id. id.0) ids ≡ set → ((n : ℕ) → is_among set n ≡ some_from arcs n)
    → (concept : NameId) → list_any (λ id. id.0 == concept.0) ids ≡ list_any (leads_from concept) arcs
concepts_are ids set arcs listed exactly concept =
    any_map (λ n. n == concept.0) (λ id. id.0) ids
    ∙ ap (λ ns. is_among ns concept.0) listed
    ∙ exactly concept.0
    ∙ leads_by_number concept arcs

pub concepts_answered : {E : Type 0} {V : Type 0} (items : V → List NameId) (arcs : List Arc) (set : List ℕ) (r : Result V E) → ((n : ℕ) → is_among set n ≡ some_from arcs n) → IfOk r (λ ids. map (λ id. id.0) (items ids) ≡ set)
    → IfOk r (λ ids. (concept : NameId) → list_any (λ id. id.0 == concept.0) (items ids) ≡ list_any (leads_from concept) arcs)
concepts_answered items arcs set (Ok ids) exactly listed = concepts_are (items ids) set arcs listed exactly
concepts_answered items arcs set (Err e) exactly listed = tt

-- ---- the numbers of the points of a concept

-- a number before the first is none of them
before_first : (concept first k : ℕ) (points : List Point) → k < first → is_among (numbers_from concept first points) k ≡ false
before_first concept first k [] h = refl
before_first concept first k (point ∷ points) h = by (concept == point.concept.0) (before_first concept (first + 1) k points (omega (arith, h)))
  where
    other : (first == k) ≡ false
    other = eqb-turned first k ∙ differ k first h

    by : (b : Bool) → is_among (numbers_from concept (first + 1) points) k ≡ false → is_among (cons_option (if b then Some first else None) (numbers_from concept (first + 1) points)) k ≡ false
    by true rest = ap (λ b. b || is_among (numbers_from concept (first + 1) points) k) other ∙ rest
    by false rest = rest

-- it has the numbers of the points whose concept it is
pub numbers_are : (concept : NameId) (first k : ℕ) (points : List Point)
    → is_among (numbers_from concept.0 first points) (first + k) ≡ option_map_or (λ point. concept.0 == point.concept.0) (slice_get points k) false
numbers_are concept first k [] = refl
numbers_are concept first zero (point ∷ points) =
    let here : first + 0 ≡ first = omega arith in
    ap (is_among (numbers_from concept.0 first (point ∷ points))) here
    ∙ by (concept.0 == point.concept.0) (before_first concept.0 (first + 1) first points (omega arith))
  where
    by : (b : Bool) → is_among (numbers_from concept.0 (first + 1) points) first ≡ false → is_among (cons_option (if b then Some first else None) (numbers_from concept.0 (first + 1) points)) first ≡ b
    by true rest = ap (λ b. b || is_among (numbers_from concept.0 (first + 1) points) first) (is_itself first)
    by false rest = rest
numbers_are concept first (suc k) (point ∷ points) =
    let further : first + suc k ≡ first + 1 + k = omega arith in
    let later : first < first + suc k = omega arith in
    by (first + suc k) (concept.0 == point.concept.0) (differ first (first + suc k) later)
    ∙ ap (is_among (numbers_from concept.0 (first + 1) points)) further
    ∙ numbers_are concept (first + 1) k points
  where
    by : (n : ℕ) (b : Bool) → (first == n) ≡ false → is_among (cons_option (if b then Some first else None) (numbers_from concept.0 (first + 1) points)) n ≡ is_among (numbers_from concept.0 (first + 1) points) n
    by n true other = ap (λ b. b || is_among (numbers_from concept.0 (first + 1) points) n) other
    by n false other = refl

-- the points of the concepts from which arcs lead are those that may be totals
pub totals_are : (points : List Point) (arcs : List Arc) (concepts : List NameId)
    → ((concept : NameId) → list_any (λ id. id.0 == concept.0) concepts ≡ list_any (leads_from concept) arcs)
    → (k : ℕ) → list_any (λ concept. is_among (numbers_of points concept) k) concepts ≡ is_total points arcs k
totals_are points arcs concepts exactly k =
    ap (λ p. list_any p concepts) (λ i concept. numbers_at concept i)
    ∙ by (slice_get points k)
  where
    numbers_at : (concept : NameId) → is_among (numbers_of points concept) k ≡ option_map_or (λ point. concept.0 == point.concept.0) (slice_get points k) false
    numbers_at concept = let none : k ≡ 0 + k = omega arith in ap (is_among (numbers_of points concept)) none ∙ numbers_are concept 0 k points

    by : (o : Option Point) → list_any (λ concept. option_map_or (λ point. concept.0 == point.concept.0) o false) concepts ≡ option_map_or (λ point. list_any (leads_from point.concept) arcs) o false
    by None = no_one (λ _. false) concepts (λ _. refl)
    by (Some point) = exactly point.concept

-- ---- the bindings of a network

-- a point from whose concept no arc leads has no binding
no_arc : (points : List Point) (network : ℕ) (arcs : List Arc) (number : ℕ) (total : Point) → list_any (leads_from total.concept) arcs ≡ false → binding_of points network arcs (number, total) ≡ None
no_arc points network arcs number total none = ap (λ terms. with_terms network number (filter_map (term_of points total.key) terms)) (nothing arcs none)
  where
    nothing : (arcs : List Arc) → list_any (leads_from total.concept) arcs ≡ false → arcs_from arcs total.concept ≡ []
    nothing [] none = refl
    nothing (arc ∷ arcs) none = by (leads_from total.concept arc) none (nothing arcs)
      where
        by : (b : Bool) → (b || list_any (leads_from total.concept) arcs) ≡ false → (list_any (leads_from total.concept) arcs ≡ false → arcs_from arcs total.concept ≡ []) → cond b (arc ∷ arcs_from arcs total.concept) (arcs_from arcs total.concept) ≡ []
        by true none rest = absurd (true≢false none)
        by false none rest = rest none

-- numbers that ascend from the first one on
abbrev AscendFrom : ℕ → List ℕ → Type 0
AscendFrom n [] = Unit {0}
AscendFrom n (k ∷ ks) = n ≤ k × AscendFrom (k + 1) ks

ascend_from : (n : ℕ) (ks : List ℕ) → IsStrictlySortedBy nat_cmp ks → AllByRecursion (λ k. n ≤ k) ks → AscendFrom n ks
unfolding IsStrictlySortedBy
ascend_from n [] p low = tt
ascend_from n (k ∷ ks) p low = (low.0, ascend_from (k + 1) ks p.1 (above k ks p.0))
  where
    above : (k : ℕ) (ks : List ℕ) → AllByRecursion (λ y. nat_cmp k y ≡ Less) ks → AllByRecursion (λ y. k + 1 ≤ y) ks
    above k [] h = tt
    above k (y ∷ ys) h = let below : k < y = ranked k y Less (sym h.0) in (omega (arith, below), above k ys h.1)

all_above : (ks : List ℕ) → AllByRecursion (λ k. 0 ≤ k) ks
all_above [] = tt
all_above (k ∷ ks) = (omega arith, all_above ks)

before_all : (n k : ℕ) (ks : List ℕ) → AscendFrom n ks → k < n → is_among ks k ≡ false
before_all n k [] h below = refl
before_all n k (m ∷ ms) h below = ap (λ b. b || is_among ms k) (eqb-turned m k ∙ differ k m (omega (arith, below, h.0))) ∙ before_all (m + 1) k ms h.1 (omega (arith, below, h.0))

-- each of these numbers is below the limit
abbrev AreBelow : ℕ → List ℕ → Type 0
AreBelow limit ks = (k : ℕ) → is_among ks k ≡ true → k < limit

or_second : (b : Bool) → (b || true) ≡ true
or_second true = refl
or_second false = refl

below_rest : (limit k : ℕ) (ks : List ℕ) → AreBelow limit (k ∷ ks) → AreBelow limit ks
below_rest limit k ks h j there = h j (ap (λ b. (k == j) || b) there ∙ or_second (k == j))

below_head : (limit k : ℕ) (ks : List ℕ) → AreBelow limit (k ∷ ks) → k < limit
below_head limit k ks h = h k (ap (λ b. b || is_among ks k) (is_itself k))

-- what is made of things by their numbers, where nothing is made of those whose numbers are left out
module _ {X Y : Type 0} (f : ℕ × X → Option Y) (g : ℕ → Option Y) where
  -- nothing is made of what is left out
  abbrev IsNone : ℕ → List X → List ℕ → Type 0
  IsNone n xs ks = (j : ℕ) (x : X) → slice_get xs j ≡ Some x → is_among ks (n + j) ≡ false → f (n + j, x) ≡ None

  -- by its number, the same is made of each
  abbrev IsSame : ℕ → List X → Type 0
  IsSame n xs = (j : ℕ) (x : X) → slice_get xs j ≡ Some x → g (n + j) ≡ f (n + j, x)

  none_first : (n : ℕ) (x : X) (xs : List X) (ks : List ℕ) → IsNone n (x ∷ xs) ks → is_among ks n ≡ false → f (n, x) ≡ None
  none_first n x xs ks none out =
      let here : n + 0 ≡ n = omega arith in
      subst (λ m. f (m, x) ≡ None) here (none 0 x refl (ap (is_among ks) here ∙ out))

  none_rest : (n : ℕ) (x : X) (xs : List X) (ks : List ℕ) → IsNone n (x ∷ xs) ks → IsNone (n + 1) xs ks
  none_rest n x xs ks none j y there out =
      let further : n + suc j ≡ n + 1 + j = omega arith in
      subst (λ m. f (m, y) ≡ None) further (none (suc j) y there (ap (is_among ks) further ∙ out))

  none_behind : (n k : ℕ) (xs : List X) (ks : List ℕ) → k < n → IsNone n xs (k ∷ ks) → IsNone n xs ks
  none_behind n k xs ks below none j y there out =
      let other : k < n + j = omega (arith, below) in
      none j y there (ap (λ b. b || is_among ks (n + j)) (differ k (n + j) other) ∙ out)

  same_first : (n : ℕ) (x : X) (xs : List X) → IsSame n (x ∷ xs) → g n ≡ f (n, x)
  same_first n x xs same =
      let here : n + 0 ≡ n = omega arith in
      subst (λ m. g m ≡ f (m, x)) here (same 0 x refl)

  same_rest : (n : ℕ) (x : X) (xs : List X) → IsSame n (x ∷ xs) → IsSame (n + 1) xs
  same_rest n x xs same j y there =
      let further : n + suc j ≡ n + 1 + j = omega arith in
      subst (λ m. g m ≡ f (m, y)) further (same (suc j) y there)

  made_of_some : (n limit : ℕ) (xs : List X) (ks : List ℕ) → limit ≡ n + length xs → AscendFrom n ks → AreBelow limit ks → IsSame n xs → IsNone n xs ks → filter_map g ks ≡ filter_map f (enumerate_from n xs)
  made_of_some n limit [] [] e up below same none = refl
  made_of_some n limit [] (k ∷ ks) e up below same none = let first = below_head limit k ks below in absurd (omega (arith, e, first, up.0))
  made_of_some n limit (x ∷ xs) [] e up below same none =
      made_of_some (n + 1) limit xs [] (omega (arith, e)) tt below (same_rest n x xs same) (none_rest n x xs [] none)
      ∙ ap (λ o. cons_option o (filter_map f (enumerate_from (n + 1) xs))) (sym (none_first n x xs [] none refl))
  made_of_some n limit (x ∷ xs) (k ∷ ks) e up below same none = elim (eqb_tells k n) [
    | inl h ↦
        let later : AscendFrom (n + 1) ks = subst (λ m. AscendFrom (m + 1) ks) h.1 up.1 in
        let near : k < n + 1 = omega (arith, h.1) in
        ap (λ o. cons_option o (filter_map g ks)) (ap g h.1 ∙ same_first n x xs same)
        ∙ ap (cons_option (f (n, x))) (made_of_some (n + 1) limit xs ks (omega (arith, e)) later (below_rest limit k ks below) (same_rest n x xs same) (none_behind (n + 1) k xs ks near (none_rest n x xs (k ∷ ks) none)))
    | inr h ↦
        let above : n + 1 ≤ k = omega (arith, up.0, h.1) in
        let out : is_among (k ∷ ks) n ≡ false = before_all (n + 1) n (k ∷ ks) (above, up.1) (omega arith) in
        made_of_some (n + 1) limit xs (k ∷ ks) (omega (arith, e)) (above, up.1) below (same_rest n x xs same) (none_rest n x xs (k ∷ ks) none)
        ∙ ap (λ o. cons_option o (filter_map f (enumerate_from (n + 1) xs))) (sym (none_first n x xs (k ∷ ks) none out))
  ]

-- the totals of a network are the numbers of points
pub all_within : (points : List Point) (arcs : List Arc) (totals : List ℕ) → ((k : ℕ) → is_among totals k ≡ is_total points arcs k) → (k : ℕ) → is_among totals k ≡ true → k < length points
all_within points arcs totals exactly k there = by (slice_get points k) refl (sym (exactly k) ∙ there)
  where
    by : (o : Option Point) → slice_get points k ≡ o → option_map_or (λ point. list_any (leads_from point.concept) arcs) o false ≡ true → k < length points
    by None e h = absurd (true≢false (sym h))
    by (Some point) e h = slice_get_within points k point e

pub all_inside : (limit : ℕ) (ks : List ℕ) → AreBelow limit ks → All (λ k. k < limit) ks
all_inside limit [] h = All-nil (λ k. k < limit)
all_inside limit (k ∷ ks) h = All-cons (λ k. k < limit) k ks (below_head limit k ks h) (all_inside limit ks (below_rest limit k ks h))

-- the bindings of the totals of a network are its bindings
pub bindings_of_totals : (points : List Point) (at : ℕ) (network : Network) (totals : List ℕ) → IsStrictlySortedBy nat_cmp totals → ((k : ℕ) → is_among totals k ≡ is_total points network.arcs k)
    → filter_map (binding_at points at network.arcs) totals ≡ bindings_in points (at, network)
bindings_of_totals points at network totals ascending exactly =
    made_of_some (binding_of points at network.arcs) (binding_at points at network.arcs) 0 (length points) points totals (omega arith) (ascend_from 0 totals ascending (all_above totals)) (all_within points network.arcs totals exactly)
    (λ j point there. same j point there) (λ j point there out. none j point there out)
  where
    same : (j : ℕ) (point : Point) → slice_get points j ≡ Some point → binding_at points at network.arcs (0 + j) ≡ binding_of points at network.arcs (0 + j, point)
    same j point there =
        let here : 0 + j ≡ j = omega arith in
        ap (λ o. binding_where points at network.arcs (0 + j) o) (ap (slice_get points) here ∙ there)

    none : (j : ℕ) (point : Point) → slice_get points j ≡ Some point → is_among totals (0 + j) ≡ false → binding_of points at network.arcs (0 + j, point) ≡ None
    none j point there out =
        let here : 0 + j ≡ j = omega arith in
        no_arc points at network.arcs (0 + j) point (ap (λ o. option_map_or (λ point. list_any (leads_from point.concept) network.arcs) o false) (sym (ap (slice_get points) here ∙ there)) ∙ sym (exactly (0 + j)) ∙ out)

-- ---- the loop over the totals

module _ {Y : Type 0} (f : ℕ → Option Y) (k : ℕ) (so_far all : List Y) (left rest : List ℕ) (split : left ≡ k ∷ rest) (told : so_far ++ filter_map f left ≡ all) where
  -- one more binding
  pub told_some : (y : Y) (now : List Y) → f k ≡ Some y → now ≡ so_far ++ y ∷ [] → now ++ filter_map f rest ≡ all
  told_some y now made put =
      ap (λ ys. ys ++ filter_map f rest) put
      ∙ append_assoc so_far (y ∷ []) (filter_map f rest)
      ∙ ap (λ o. so_far ++ cons_option o (filter_map f rest)) (sym made)
      ∙ ap (λ ks. so_far ++ filter_map f ks) (sym split)
      ∙ told

  -- a total without a binding
  pub told_none : f k ≡ None → so_far ++ filter_map f rest ≡ all
  told_none made =
      ap (λ o. so_far ++ cons_option o (filter_map f rest)) (sym made)
      ∙ ap (λ ks. so_far ++ filter_map f ks) (sym split)
      ∙ told

module _ (limit k : ℕ) (left rest : List ℕ) (split : left ≡ k ∷ rest) (inside : All (λ n. n < limit) left) where
  pub inside_first : k < limit
  inside_first = All-head (λ n. n < limit) k rest (subst (All (λ n. n < limit)) split inside)

  pub inside_rest : All (λ n. n < limit) rest
  inside_rest = All-tail (λ n. n < limit) k rest (subst (All (λ n. n < limit)) split inside)

-- the number of a network with a point is small
pub few_networks : (at points k : ℕ) → (at + 1) * points < 2147483648 → k < points → at < 4294967296
few_networks at points k few inside =
    let least : (at + 1) * 1 ≤ (at + 1) * points = mul-le (at + 1) 1 (at + 1) points (omega arith) (omega (arith, inside)) in
    omega (arith, few, least)
