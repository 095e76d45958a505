-- Points whose groups are those of facts keep what points have to keep.
use Rattle.std.proofs.Common.{◌≡◌, ◌≢◌, ℕ, suc, zero, ◌+◌, ◌<◌, ◌≤◌, ◌==◌, Bool, true, false, cond, List, [], ◌∷◌, length, map, take, get_or, Option, Some, None, slice_get, option_map, arith, refl, sym, ap, subst, ◌∙◌, unwrap_or}
use Rattle.std.proofs.lemmas.List.{get_or-take, length-map, length-take-le}
use Rattle.std.proofs.lemmas.List.FromFn.{length-range_with_len}
use Rattle.std.proofs.lemmas.List.Folds.{Any-from_list_any}
use Rattle.std.proofs.lemmas.List.Kept.{IsStrictlySortedBy-filter}
use Rattle.std.proofs.lemmas.Bool.Decides.{nat_tests}
use Rattle.std.proofs.lemmas.Option.{none-some, slice_get-map, slice_get_within, slice_get-get_or, get_or_from_slice_get}
use Rattle.std.proofs.Math.Nat.{le_of_lt}
use Rattle.std.specs.List.{cons_option, filter_map, range_with_len, list_any, AllByRecursion}
use Rattle.std.specs.List.Sorted.{IsStrictlySortedBy}
use Rattle.std.specs.Option.{option_and_then}
use Rattle.std.specs.Ordering.{nat_cmp}
use Rattle.std.specs.Prelude.{All}
use Rattle.std.specs.declared.cmp.Ordering.TheVariants.{Less}
use Rattle.xc_interval.specs.declared.interval.Interval.{Interval}
use Rattle.xc_interval.specs.declared.mode.Mode.{Mode}
use Rattle.xc_lists.proofs.Positions.{position_or_len_congr}
use Rattle.xc_model.specs.Ratio.{Ratio}
use Rattle.xc_points.proofs.FilteredRanges.{IsKept, kept_of_any, any_of_kept, kept_some, found_at, place_of_found, FindsAlikeOnce, found_once}
use Rattle.xc_points.proofs.FirstFacts.{at_most, fact_at}
use Rattle.xc_points.proofs.MembersAre.{first_number, has_earlier, first_together, first_earliest, first_own, number_test, own_kept}
use Rattle.xc_points.proofs.PointGroups.{HasItsRange}
use Rattle.xc_points.proofs.TableRanges.{ends_at, range_is}
use Rattle.xc_points.proofs.Together.{SamePlace, together_same, same_together, same_refl, same_sym, same_trans, together_congr}
use Rattle.xc_points.specs.Gathered.{AreEnds, ArePoints, IsRange, is_together, is_number_with, first_of_point, first_facts, group_of, group_with, groups}
use Rattle.xc_interval.specs.Ranges.{IsRangeOf}
use Rattle.xc_points.specs.Kept.{AreKept, Gathered, HasFact, ends_of}
use Rattle.xc_points.specs.declared.types.Point.{Point}
use Rattle.xc_report.specs.declared.reports.Fact.{Fact}

some_same : {X : Type 0} (x y : X) → Some x ≡ Some y → x ≡ y
some_same x y e = ap (λ o. unwrap_or o x) e

-- as many intervals as facts
pub length_ends : (mode : Mode) (facts : List Fact) (ends : List (Option (Interval Ratio))) → AreEnds mode facts ends → length ends ≡ length facts
length_ends mode [] [] are = refl
length_ends mode [] (e ∷ es) are = absurd are
length_ends mode (fact ∷ facts) [] are = absurd are
length_ends mode (fact ∷ facts) (e ∷ es) are = ap suc (length_ends mode facts es are.1)

-- numbers from a on ascend
all_above : (a b n : ℕ) → a < b → AllByRecursion (λ y. nat_cmp a y ≡ Less) (range_with_len b n)
all_above a b zero h = tt
all_above a b (suc n) h = (grind (arith, nat_tests), all_above a (b + 1) n (omega arith))

range_ascends : (a n : ℕ) → IsStrictlySortedBy nat_cmp (range_with_len a n)
unfolding IsStrictlySortedBy
range_ascends a zero = tt
range_ascends a (suc n) = (all_above a (a + 1) n (omega arith), range_ascends (a + 1) n)

-- a fact that is the first of its point
pub record IsFirstFact (facts : List Fact) (f : ℕ) (a : Fact) : Type 0 where
  pub at : slice_get facts f ≡ Some a
  pub none : has_earlier facts f a ≡ false

first_by : (facts : List Fact) (f : ℕ) (a b : Fact) (t : Bool) → slice_get facts f ≡ Some b → has_earlier facts f b ≡ t → cond t None (Some b) ≡ Some a → IsFirstFact facts f a
first_by facts f a b true at e is = absurd (none-some a is)
first_by facts f a b false at e is = record { at = at ∙ is; none = ap (λ c. has_earlier facts f c) (sym (some_same b a is)) ∙ e }

first_from : (facts : List Fact) (f : ℕ) (a : Fact) (o : Option Fact) → slice_get facts f ≡ o → option_and_then (λ fact. cond (has_earlier facts f fact) None (Some fact)) o ≡ Some a → IsFirstFact facts f a
first_from facts f a None at is = absurd (none-some a is)
first_from facts f a (Some b) at is = first_by facts f a b (has_earlier facts f b) at refl is

-- what is found is a first fact
pub is_first : (facts : List Fact) (f : ℕ) (a : Fact) → first_of_point facts f ≡ Some a → IsFirstFact facts f a
is_first facts f a is = first_from facts f a (slice_get facts f) refl is

-- a point has one first fact
pub first_once : (facts : List Fact) → FindsAlikeOnce (first_of_point facts) SamePlace
first_once facts i j x y at_i at_j same =
    let own_i = is_first facts i x at_i in
    let own_j = is_first facts j y at_j in
    sym (first_own facts i x own_i.at own_i.none)
    ∙ position_or_len_congr (is_together x) (is_together y) facts (together_congr x y same)
    ∙ first_own facts j y own_j.at own_j.none

-- the first fact of a point
pub record IsPointOf (facts : List Fact) (k : ℕ) (point : Point) : Type 0 where
  pub fact : Fact
  pub at : slice_get (first_facts facts) k ≡ Some fact
  pub group : group_of point ≡ group_with facts fact

point_by : (facts : List Fact) (k : ℕ) (point : Point) (o : Option Fact) → slice_get (first_facts facts) k ≡ o → option_map (group_with facts) o ≡ Some (group_of point) → IsPointOf facts k point
point_by facts k point None at is = absurd (none-some (group_of point) is)
point_by facts k point (Some a) at is = record { fact = a; at = at; group = sym (some_same (group_with facts a) (group_of point) is) }

made_by : (facts : List Fact) (k : ℕ) (a : Fact) (points : List Point) (o : Option Point) → slice_get points k ≡ o → option_map group_of o ≡ Some (group_with facts a) → (point : Point) × (slice_get points k ≡ Some point) × (group_of point ≡ group_with facts a)
made_by facts k a points None at is = absurd (none-some (group_with facts a) is)
made_by facts k a points (Some point) at is = (point, at, some_same (group_of point) (group_with facts a) is)

-- a point whose group is that of b has each fact that the test of b keeps
has_by : (facts : List Fact) (b : Fact) (point : Point) (f : ℕ) → group_of point ≡ group_with facts b → IsKept (is_number_with facts b) 0 (length facts) f → HasFact point f
has_by facts b point f group kept = ap (λ gs. list_any (λ g. g == f) gs) (ap (λ g. g.2) group) ∙ any_of_kept (is_number_with facts b) 0 (length facts) f kept

-- a fact that the test of another keeps is of one point with it
kept_same : (facts : List Fact) (a : Fact) (f : ℕ) → IsKept (is_number_with facts a) 0 (length facts) f → (b : Fact) × (slice_get facts f ≡ Some b) × SamePlace a b
kept_same facts a f k =
    let high = k.high in
    let at = fact_at facts f (omega arith) in
    (at.0, at.1, together_same a at.0 (sym (number_test facts a f at.0 at.1) ∙ k.passes))

module _ (facts : List Fact) (points : List Point) (ends : List (Option (Interval Ratio))) (are : map group_of points ≡ groups facts) (long : length ends ≡ length facts) where
  -- what stands at a place among the points
  pub point_at : (k : ℕ) (point : Point) → slice_get points k ≡ Some point → IsPointOf facts k point
  point_at k point at =
      point_by facts k point (slice_get (first_facts facts) k) refl
      (sym (slice_get-map (group_with facts) (first_facts facts) k) ∙ sym (ap (λ l. slice_get l k) are) ∙ slice_get-map group_of points k ∙ ap (λ o. option_map group_of o) at)

  -- what stands at the place of a first fact
  made_at : (k : ℕ) (a : Fact) → slice_get (first_facts facts) k ≡ Some a → (point : Point) × (slice_get points k ≡ Some point) × (group_of point ≡ group_with facts a)
  made_at k a at =
      made_by facts k a points (slice_get points k) refl
      (sym (slice_get-map group_of points k) ∙ ap (λ l. slice_get l k) are ∙ slice_get-map (group_with facts) (first_facts facts) k ∙ ap (λ o. option_map (group_with facts) o) at)

  -- a fact that a point has is of one point with its first fact
  pub has_same : (k : ℕ) (point : Point) (at : slice_get points k ≡ Some point) (f : ℕ) → HasFact point f → (b : Fact) × (slice_get facts f ≡ Some b) × SamePlace (point_at k point at).fact b
  has_same k point at f has =
      let own = point_at k point at in
      kept_same facts own.fact f (kept_of_any (is_number_with facts own.fact) 0 (length facts) f (ap (λ fs. list_any (λ g. g == f) fs) (sym (ap (λ g. g.2) own.group)) ∙ has))

  -- points of which the first facts are of one point are one
  one_place : (j k : ℕ) (p q : Point) (at_j : slice_get points j ≡ Some p) (at_k : slice_get points k ≡ Some q) → SamePlace (point_at j p at_j).fact (point_at k q at_k).fact → j ≡ k
  one_place j k p q at_j at_k same =
      let own_j = point_at j p at_j in
      let own_k = point_at k q at_k in
      found_once (first_of_point facts) SamePlace 0 (length facts) j k own_j.fact own_k.fact (first_once facts) own_j.at own_k.at same

  pub same_fact : (f : ℕ) (a b : Fact) → slice_get facts f ≡ Some a → slice_get facts f ≡ Some b → a ≡ b
  same_fact f a b at_a at_b = some_same a b (sym at_a ∙ at_b)

  no_two : (j k : ℕ) (p q : Point) → slice_get points j ≡ Some p → slice_get points k ≡ Some q → (f : ℕ) → HasFact p f → HasFact q f → j ≡ k
  no_two j k p q at_j at_k f has_j has_k =
      let own_j = point_at j p at_j in
      let own_k = point_at k q at_k in
      let in_j = has_same j p at_j f has_j in
      let in_k = has_same k q at_k f has_k in
      let one : in_j.0 ≡ in_k.0 = same_fact f in_j.0 in_k.0 in_j.1 in_k.1 in
      one_place j k p q at_j at_k (same_trans own_j.fact in_j.0 own_k.fact in_j.2 (same_sym own_k.fact in_j.0 (subst (λ b. SamePlace own_k.fact b) (sym one) in_k.2)))

  pub no_same : (j k : ℕ) (p q : Point) → slice_get points j ≡ Some p → slice_get points k ≡ Some q → p.concept ≡ q.concept → p.key ≡ q.key → j ≡ k
  no_same j k p q at_j at_k concept key =
      let own_j = point_at j p at_j in
      let own_k = point_at k q at_k in
      one_place j k p q at_j at_k (record {
        concept = sym (ap (λ g. g.0.0) own_j.group) ∙ ap (λ n. n.0) concept ∙ ap (λ g. g.0.0) own_k.group;
        key = sym (ap (λ g. g.1) own_j.group) ∙ key ∙ ap (λ g. g.1) own_k.group;
      })

  -- the first fact of a point is a fact
  first_at : (k : ℕ) (point : Point) (at : slice_get points k ≡ Some point) → (f : ℕ) × (slice_get facts f ≡ Some (point_at k point at).fact)
  first_at k point at =
      let own = point_at k point at in
      let found = found_at (first_of_point facts) 0 (length facts) k own.fact own.at in
      (found.number, (is_first facts found.number own.fact found.is).at)

  some_facts : (k : ℕ) (point : Point) → slice_get points k ≡ Some point → point.facts ≢ []
  some_facts k point at none =
      let own = point_at k point at in
      let first = first_at k point at in
      kept_some (is_number_with facts own.fact) 0 (length facts) first.0 (own_kept facts first.0 own.fact first.1) (sym (ap (λ g. g.2) own.group) ∙ none)

  facts_ascend : (k : ℕ) (point : Point) → slice_get points k ≡ Some point → IsStrictlySortedBy nat_cmp point.facts
  facts_ascend k point at =
      let own = point_at k point at in
      subst (λ fs. IsStrictlySortedBy nat_cmp fs) (sym (ap (λ g. g.2) own.group))
      (IsStrictlySortedBy-filter nat_cmp (is_number_with facts own.fact) (range_with_len 0 (length facts)) (range_ascends 0 (length facts)))

  facts_within : (k : ℕ) (point : Point) → slice_get points k ≡ Some point → (f : ℕ) → HasFact point f → f < length ends
  facts_within k point at f has = let b = has_same k point at f has in subst (λ n. f < n) (sym long) (slice_get_within facts f b.0 b.1)

  earlier_none : (i : ℕ) (a b : Fact) (t : Bool) → i ≡ first_number facts a → slice_get facts i ≡ Some b → SamePlace a b → has_earlier facts i b ≡ t → t ≡ false
  earlier_none i a b true is at same e =
      let earlier = Any-from_list_any (is_together b) (take i facts) e in
      let c = earlier.1 in
      let below : earlier.0 < i = let inside = earlier.2 in omega (arith, length-take-le i facts (le_of_lt (slice_get_within facts i b at))) in
      let value : get_or facts earlier.0 c ≡ c = sym (get_or-take i facts earlier.0 c below) ∙ earlier.3 in
      let at_c : slice_get facts earlier.0 ≡ Some c = slice_get-get_or facts earlier.0 c (omega (arith, slice_get_within facts i b at)) ∙ ap (λ d. Some d) value in
      absurd (first_earliest facts a c earlier.0 (subst (λ n. earlier.0 < n) is below) at_c (same_trans a b c same (together_same b c earlier.4)))
  earlier_none i a b false is at same e = refl

  pub all_covered : (f : ℕ) → f < length ends → (k : ℕ) × (point : Point) × ((slice_get points k ≡ Some point) × HasFact point f)
  all_covered f within =
      let inside : f < length facts = subst (λ n. f < n) long within in
      let own = fact_at facts f inside in
      let a = own.0 in
      let i = first_number facts a in
      let most : i ≤ f = at_most (is_together a) facts f a (ap (is_together a) own.2 ∙ same_together a a (same_refl a)) in
      let first = fact_at facts i (omega arith) in
      let b = first.0 in
      let same : SamePlace a b = first_together facts i b a first.1 refl in
      let none : has_earlier facts i b ≡ false = earlier_none i a b (has_earlier facts i b) refl first.1 same refl in
      let found : first_of_point facts i ≡ Some b = ap (λ o. option_and_then (λ fact. cond (has_earlier facts i fact) None (Some fact)) o) first.1 ∙ ap (λ t. cond t None (Some b)) none in
      let place = place_of_found (first_of_point facts) 0 (length facts) b (record { number = i; low = omega arith; high = omega arith; is = found }) in
      let made = made_at place.0 b place.1 in
      let kept : IsKept (is_number_with facts b) 0 (length facts) f = record { low = omega arith; high = omega arith; passes = number_test facts b f a own.1 ∙ same_together b a (same_sym a b same) } in
      let has : HasFact made.0 f = has_by facts b made.0 f made.2 kept in
      (place.0, made.0, (made.1, has))

  its_range : All (HasItsRange ends) points → (k : ℕ) (point : Point) → slice_get points k ≡ Some point → IsRangeOf (ends_of ends point.facts) point.range
  its_range all k point at = subst (λ p. HasItsRange ends p) (get_or_from_slice_get points k point point at) (all k point (slice_get_within points k point at))

  -- the points keep all
  pub points_kept : All (HasItsRange ends) points → AreKept points ends
  points_kept all = record {
    covers = all_covered;
    within = facts_within;
    apart = no_two;
    ascend = facts_ascend;
    some = some_facts;
    distinct = no_same;
    ranges = its_range all;
  }

  -- and their ranges are those of the table
  pub ranges_are : (mode : Mode) → AreEnds mode facts ends → All (HasItsRange ends) points → (k : ℕ) (point : Point) → slice_get points k ≡ Some point → IsRange mode facts point point.range
  ranges_are mode ends_are all k point at = range_is mode facts (ends_of ends point.facts) point point.range (ends_at mode facts ends point.facts ends_are) (its_range all k point at)

-- what is gathered are the points of the facts
pub are_points : (mode : Mode) (facts : List Fact) (points : List Point) (ends : List (Option (Interval Ratio))) (gathered : Gathered) → gathered.points ≡ points → gathered.ends ≡ ends
    → map group_of points ≡ groups facts → AreEnds mode facts ends → All (HasItsRange ends) points → ArePoints mode facts gathered
are_points mode facts points ends gathered own_points own_ends are ends_are all = record {
  groups_are = ap (λ ps. map group_of ps) own_points ∙ are;
  ends = subst (λ es. AreEnds mode facts es) (sym own_ends) ends_are;
  ranges = λ k point at. ranges_are facts points ends are (length_ends mode facts ends ends_are) mode ends_are all k point (sym (ap (λ ps. slice_get ps k) own_points) ∙ at);
}

-- there are no more points than facts
length_found : {X Y : Type 0} (h : X → Option Y) (xs : List X) → length (filter_map h xs) ≤ length xs
length_found {Y = Y} h [] = omega arith
length_found {Y = Y} h (x ∷ xs) = by (h x) (length_found h xs)
  where
    by : (o : Option Y) → length (filter_map h xs) ≤ length xs → length (cons_option o (filter_map h xs)) ≤ suc (length xs)
    by None rest = omega (arith, rest)
    by (Some y) rest = omega (arith, rest)

pub few_points : (mode : Mode) (facts : List Fact) (gathered : Gathered) → ArePoints mode facts gathered → length gathered.points ≤ length facts
few_points mode facts gathered are =
    let points : length (map group_of gathered.points) ≡ length gathered.points = length-map gathered.points group_of in
    let all : length (map group_of gathered.points) ≡ length (map (group_with facts) (first_facts facts)) = ap (λ l. length l) are.groups_are in
    let firsts : length (map (group_with facts) (first_facts facts)) ≡ length (first_facts facts) = length-map (first_facts facts) (group_with facts) in
    let most : length (first_facts facts) ≤ length (range_with_len 0 (length facts)) = length_found (first_of_point facts) (range_with_len 0 (length facts)) in
    let few : length (range_with_len 0 (length facts)) ≡ length facts = length-range_with_len 0 (length facts) in
    omega (arith, points, all, firsts, most, few)
