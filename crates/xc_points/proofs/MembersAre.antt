-- The facts that belong together by their first facts are those of one concept with one key.
use Rattle.std.proofs.Common.{◌≡◌, ◌≢◌, ℕ, suc, ◌+◌, ◌<◌, ◌≤◌, ◌==◌, Bool, true, false, cond, not, List, [], ◌∷◌, length, map, take, get_or, Option, Some, None, slice_get, option_map, arith, refl, sym, ap, subst, ◌∙◌, true≢false, inl, inr}
use Rattle.std.proofs.Math.Nat.{eq-or-lt_of_le, le_of_lt}
use Rattle.std.proofs.lemmas.Bool.{eqb-true, eq-eqb}
use Rattle.std.proofs.lemmas.List.{get_or-map, get_or-take, length-map, length-take-le}
use Rattle.std.proofs.lemmas.List.Elements.{All-nil, All-cons, All-head, All-map, filter_passes}
use Rattle.std.proofs.lemmas.List.Folds.{list_any_at, Any-from_list_any}
use Rattle.std.proofs.lemmas.List.Sums.{prefix_len_passes, prefix_len_stops}
use Rattle.std.proofs.lemmas.Option.{slice_get_within, slice_get-get_or, get_or_from_slice_get}
use Rattle.std.specs.List.{filter, filter_map, position_or_len, range_with_len, list_any}
use Rattle.xc_lists.proofs.Positions.{position_or_len_congr}
use Rattle.std.specs.Option.{option_and_then, option_map_or}
use Rattle.std.specs.Prelude.{All}
use Rattle.xc_points.proofs.FilteredRanges.{IsKept, kept_some, filter_none, found_of_made}
use Rattle.xc_points.proofs.FirstFacts.{at_most, fact_at}
use Rattle.xc_points.proofs.PointGroups.{AreNumbers}
use Rattle.xc_points.proofs.Together.{SamePlace, together_same, same_together, same_refl, same_sym, same_trans, together_congr, same_concept}
use Rattle.xc_points.specs.Gathered.{is_together, is_number_with, numbers_with, first_of_point, group_with, groups}
use Rattle.xc_points.specs.Steps.Members.{firsts_of, members_from, members_by, group_at}
use Rattle.xc_report.specs.declared.reports.Fact.{Fact}

-- the number of the first fact of the point of this one
abbrev pub first_number : List Fact → Fact → ℕ
first_number facts fact = position_or_len (is_together fact) facts

-- a fact with an earlier one of its point
abbrev pub has_earlier : List Fact → ℕ → Fact → Bool
has_earlier facts f fact = list_any (is_together fact) (take f facts)

not_false : (b : Bool) → not b ≡ false → b ≡ true
not_false true e = refl
not_false false e = absurd (true≢false e)

-- where the first fact of the point of b is fact number f, b is of one point with it, and not with any before it
pub first_together : (facts : List Fact) (f : ℕ) (a b : Fact) → slice_get facts f ≡ Some a → first_number facts b ≡ f → SamePlace b a
first_together facts f a b at is =
    let within : first_number facts b < length facts = subst (λ n. n < length facts) (sym is) (slice_get_within facts f a at) in
    let value : get_or facts (first_number facts b) a ≡ a = ap (λ n. get_or facts n a) is ∙ get_or_from_slice_get facts f a a at in
    let stops : not (is_together b (get_or facts (first_number facts b) a)) ≡ false = prefix_len_stops (λ c. not (is_together b c)) facts a within in
    together_same b a (not_false (is_together b a) (ap (λ c. not (is_together b c)) (sym value) ∙ stops))

-- none before the first fact of the point of b is of that point
pub first_earliest : (facts : List Fact) (b c : Fact) (k : ℕ) → k < first_number facts b → slice_get facts k ≡ Some c → SamePlace b c → ⊥
first_earliest facts b c k below at same =
    let passes : not (is_together b (get_or facts k c)) ≡ true = prefix_len_passes (λ d. not (is_together b d)) facts k c below in
    let value : get_or facts k c ≡ c = get_or_from_slice_get facts k c c at in
    true≢false (sym passes ∙ ap (λ d. not (is_together b d)) value ∙ ap not (same_together b c same))

-- where the first fact of the point of a comes before number f, it is an earlier one
earlier_found : (facts : List Fact) (f : ℕ) (a : Fact) (k : ℕ) → f < length facts → k ≡ first_number facts a → k < f → has_earlier facts f a ≡ false → ⊥
earlier_found facts f a k within is below none =
    let inside : k < length (take f facts) = omega (arith, length-take-le f facts (omega arith)) in
    let at = fact_at facts k (omega arith) in
    let same = first_together facts k at.0 a at.1 (sym is) in
    let value : get_or (take f facts) k at.0 ≡ at.0 = get_or-take f facts k at.0 below ∙ at.2 in
    true≢false (sym (list_any_at (is_together a) (take f facts) k at.0 inside (ap (is_together a) value ∙ same_together a at.0 same)) ∙ none)

-- a fact with no earlier one of its point is the first
pub first_own : (facts : List Fact) (f : ℕ) (a : Fact) → slice_get facts f ≡ Some a → has_earlier facts f a ≡ false → first_number facts a ≡ f
first_own facts f a at none =
    let within = slice_get_within facts f a at in
    let value : get_or facts f a ≡ a = get_or_from_slice_get facts f a a at in
    let most : first_number facts a ≤ f = at_most (is_together a) facts f a (ap (is_together a) value ∙ same_together a a (same_refl a)) in
    elim (eq-or-lt_of_le most) [
      | inl same ↦ same
      | inr below ↦ absurd (earlier_found facts f a (first_number facts a) within refl below none)
    ]

own_when : (facts : List Fact) (f : ℕ) (a b : Fact) (t u : Bool) → slice_get facts f ≡ Some a → has_earlier facts f a ≡ false → is_together a b ≡ t → (first_number facts b == f) ≡ u → u ≡ t
own_when facts f a b true true at none e is = refl
own_when facts f a b true false at none e is =
    let same = together_same a b e in
    let number : first_number facts b ≡ f = position_or_len_congr (is_together b) (is_together a) facts (together_congr b a (same_sym a b same)) ∙ first_own facts f a at none in
    sym is ∙ eq-eqb (first_number facts b) f number
own_when facts f a b false true at none e is =
    let same = first_together facts f a b at (eqb-true (first_number facts b) f is) in
    sym (same_together a b (same_sym b a same)) ∙ e
own_when facts f a b false false at none e is = refl

-- where a has no earlier fact of its point, its number is the first of just the facts of its point
own_test : (facts : List Fact) (f : ℕ) (a b : Fact) → slice_get facts f ≡ Some a → has_earlier facts f a ≡ false → (first_number facts b == f) ≡ is_together a b
own_test facts f a b at none = own_when facts f a b (is_together a b) (first_number facts b == f) at none refl refl

later_when : (facts : List Fact) (f : ℕ) (a b : Fact) (u : Bool) → slice_get facts f ≡ Some a → has_earlier facts f a ≡ true → (first_number facts b == f) ≡ u → u ≡ false
later_when facts f a b true at some is =
    let number = eqb-true (first_number facts b) f is in
    let earlier = Any-from_list_any (is_together a) (take f facts) some in
    let k = earlier.0 in
    let c = earlier.1 in
    let inside = earlier.2 in
    let below : k < f = omega (arith, length-take-le f facts (le_of_lt (slice_get_within facts f a at))) in
    let value : get_or facts k c ≡ c = sym (get_or-take f facts k c below) ∙ earlier.3 in
    let at_k : slice_get facts k ≡ Some c = slice_get-get_or facts k c (omega (arith, slice_get_within facts f a at)) ∙ ap (λ d. Some d) value in
    let same = same_trans b a c (first_together facts f a b at number) (together_same a c earlier.4) in
    absurd (first_earliest facts b c k (subst (λ n. k < n) (sym number) below) at_k same)
later_when facts f a b false at some is = refl

-- where a has an earlier fact of its point, its number is the first of none
later_test : (facts : List Fact) (f : ℕ) (a b : Fact) → slice_get facts f ≡ Some a → has_earlier facts f a ≡ true → (first_number facts b == f) ≡ false
later_test facts f a b at some = later_when facts f a b (first_number facts b == f) at some refl

-- those whose first fact is f, as a filter
members_filter : (f : ℕ) (p : ℕ → Bool) (firsts : List ℕ) (from : ℕ) → ((i d : ℕ) → i < length firsts → (get_or firsts i d == f) ≡ p (from + i)) → members_from f from firsts ≡ filter p (range_with_len from (length firsts))
members_filter f p [] from h = refl
members_filter f p (x ∷ xs) from h =
    let here : (x == f) ≡ p from = h 0 x (omega arith) ∙ ap p (omega arith) in
    let rest : members_from f (from + 1) xs ≡ filter p (range_with_len (from + 1) (length xs)) = members_filter f p xs (from + 1) (λ i d within. h (suc i) d (omega arith) ∙ ap p (omega arith)) in
    ap (λ t. cond t (from ∷ members_from f (from + 1) xs) (members_from f (from + 1) xs)) here
    ∙ ap (λ l. cond (p from) (from ∷ l) l) rest

-- the same of the first facts of facts
members_of_facts : (facts : List Fact) (f : ℕ) (p : ℕ → Bool) → ((i : ℕ) (b : Fact) → slice_get facts i ≡ Some b → (first_number facts b == f) ≡ p i) → members_from f 0 (firsts_of facts) ≡ filter p (range_with_len 0 (length facts))
members_of_facts facts f p h =
    members_filter f p (firsts_of facts) 0 (λ i d within.
    let inside : i < length facts = omega (arith, length-map facts (first_number facts)) in
    let at = fact_at facts i inside in
    let value : get_or (firsts_of facts) i d ≡ first_number facts at.0 = get_or-map (first_number facts) facts i at.0 d inside ∙ ap (first_number facts) at.2 in
    ap (λ n. n == f) value ∙ h i at.0 at.1 ∙ ap p (omega arith))
    ∙ ap (λ n. filter p (range_with_len 0 n)) (length-map facts (first_number facts))

-- fact number i is of one point with a where it is a fact that is
pub number_test : (facts : List Fact) (a : Fact) (i : ℕ) (b : Fact) → slice_get facts i ≡ Some b → is_number_with facts a i ≡ is_together a b
number_test facts a i b at = ap (λ o. option_map_or (is_together a) o false) at

-- the members of a first fact are the facts of its point
own_members : (facts : List Fact) (f : ℕ) (a : Fact) → slice_get facts f ≡ Some a → has_earlier facts f a ≡ false → members_from f 0 (firsts_of facts) ≡ numbers_with facts a
own_members facts f a at none = members_of_facts facts f (is_number_with facts a) (λ i b at_i. own_test facts f a b at none ∙ sym (number_test facts a i b at_i))

-- a later fact has no members
later_members : (facts : List Fact) (f : ℕ) (a : Fact) → slice_get facts f ≡ Some a → has_earlier facts f a ≡ true → members_from f 0 (firsts_of facts) ≡ []
later_members facts f a at some = members_of_facts facts f (λ i. false) (λ i b at_i. later_test facts f a b at some) ∙ filter_none 0 (length facts)

below_when : (from n : ℕ) (l : List ℕ) (t : Bool) → from < n → All (λ g. g < n) l → All (λ g. g < n) (cond t (from ∷ l) l)
below_when from n l true h rest = All-cons (λ g. g < n) from l h rest
below_when from n l false h rest = rest

-- the members of any are below the number of facts
members_below : (f from n : ℕ) (firsts : List ℕ) → n ≡ from + length firsts → All (λ g. g < n) (members_from f from firsts)
members_below f from n [] e = All-nil (λ g. g < n)
members_below f from n (x ∷ xs) e = below_when from n (members_from f (from + 1) xs) (x == f) (omega arith) (members_below f (from + 1) n xs (omega arith))

-- the members of all are facts
pub members_are_numbers : (facts : List Fact) → All (AreNumbers facts) (members_by (firsts_of facts))
members_are_numbers facts =
    All-map (AreNumbers facts) (λ f. members_from f 0 (firsts_of facts)) (range_with_len 0 (length (firsts_of facts)))
    (λ k d h. members_below (get_or (range_with_len 0 (length (firsts_of facts))) k d) 0 (length facts) (firsts_of facts) (omega (arith, length-map facts (first_number facts))))

group_of_first : (facts : List Fact) (a : Fact) (g : ℕ) (gs : List ℕ) (o : Option Fact) → slice_get facts g ≡ o → is_number_with facts a g ≡ true → group_at facts (g ∷ gs) ≡ Some (a.concept, a.key, g ∷ gs)
group_of_first facts a g gs None at passes = absurd (true≢false (sym passes ∙ ap (λ o. option_map_or (is_together a) o false) at))
group_of_first facts a g gs (Some b) at passes =
    let same = together_same a b (sym (number_test facts a g b at) ∙ passes) in
    ap (λ o. option_map (λ (fact : Fact). (fact.concept, fact.key, g ∷ gs)) o) at
    ∙ ap (λ n. Some (n, b.key, g ∷ gs)) (sym (same_concept a b same))
    ∙ ap (λ n. Some (a.concept, n, g ∷ gs)) (sym same.key)

-- the first of the facts of a point has its concept and its key
group_when : (facts : List Fact) (a : Fact) (l : List ℕ) → l ≢ [] → All (λ g. is_number_with facts a g ≡ true) l → group_at facts l ≡ Some (a.concept, a.key, l)
group_when facts a [] some all = absurd (some refl)
group_when facts a (g ∷ gs) some all = group_of_first facts a g gs (slice_get facts g) refl (All-head (λ g. is_number_with facts a g ≡ true) g gs all)

-- fact number f passes its own test
pub own_kept : (facts : List Fact) (f : ℕ) (a : Fact) → slice_get facts f ≡ Some a → IsKept (is_number_with facts a) 0 (length facts) f
own_kept facts f a at = let within = slice_get_within facts f a at in record { low = omega arith; high = omega arith; passes = number_test facts a f a at ∙ same_together a a (same_refl a) }

own_group : (facts : List Fact) (f : ℕ) (a : Fact) → slice_get facts f ≡ Some a → group_at facts (numbers_with facts a) ≡ Some (a.concept, a.key, numbers_with facts a)
own_group facts f a at = group_when facts a (numbers_with facts a) (kept_some (is_number_with facts a) 0 (length facts) f (own_kept facts f a at)) (filter_passes (is_number_with facts a) (range_with_len 0 (length facts)))

first_when : (facts : List Fact) (f : ℕ) (a : Fact) (t : Bool) → slice_get facts f ≡ Some a → has_earlier facts f a ≡ t
    → group_at facts (members_from f 0 (firsts_of facts)) ≡ option_map (group_with facts) (cond t None (Some a))
first_when facts f a true at e = ap (λ l. group_at facts l) (later_members facts f a at e)
first_when facts f a false at e = ap (λ l. group_at facts l) (own_members facts f a at e) ∙ own_group facts f a at

-- the members of each fact make the group of the point whose first fact it is
group_here : (facts : List Fact) (f : ℕ) → f < length facts → group_at facts (members_from f 0 (firsts_of facts)) ≡ option_map (group_with facts) (first_of_point facts f)
group_here facts f within =
    let at = fact_at facts f within in
    let point : first_of_point facts f ≡ cond (has_earlier facts f at.0) None (Some at.0) = ap (λ o. option_and_then (λ fact. cond (has_earlier facts f fact) None (Some fact)) o) at.1 in
    first_when facts f at.0 (has_earlier facts f at.0) at.1 refl ∙ ap (λ o. option_map (group_with facts) o) (sym point)

-- the members of all make the groups of the points
pub groups_are : (facts : List Fact) → filter_map (group_at facts) (members_by (firsts_of facts)) ≡ groups facts
groups_are facts =
    ap (λ n. filter_map (group_at facts) (map (λ f. members_from f 0 (firsts_of facts)) (range_with_len 0 n))) (length-map facts (first_number facts))
    ∙ found_of_made (group_at facts) (λ f. members_from f 0 (firsts_of facts)) (first_of_point facts) (group_with facts) 0 (length facts) (λ i low high. group_here facts i (omega arith))
