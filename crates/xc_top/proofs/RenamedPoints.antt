-- Facts with other numbers for their concepts have the same data points, with these numbers.
use Rattle.std.proofs.Common.{◌≡◌, ◌==◌, ◌&&◌, ℕ, suc, ℤ, List, [], ◌∷◌, map, take, filter, Bool, true, false, Option, Some, None, option_map, option_and_then, slice_get, if◌then◌else◌, inl, inr, refl, sym, ap, subst, ◌∙◌}
use Rattle.std.proofs.Math.ListN.{length-map}
use Rattle.std.proofs.lemmas.Option.{slice_get-map}
use Rattle.std.specs.List.{list_any, filter_map, range_with_len, take-map}
use Rattle.std.specs.Option.{option_map_or}
use Rattle.xc_interval.specs.declared.mode.Mode.{Mode}
use Rattle.xc_interval.specs.declared.range.Range.{Range}
use Rattle.xc_interval.specs.declared.range.Range.TheVariants as range
use Rattle.xc_names.specs.declared.expanded.NameId.{NameId}
use Rattle.xc_points.specs.Facts.{facts_at, AllAdmit, SomeIsWide, PointAdmits, IsWidePoint}
use Rattle.xc_points.specs.Gathered.{is_together, numbers, is_number_with, numbers_with, first_of_point, first_facts, group_with, groups, group_of, IsRange, ArePoints}
use Rattle.xc_points.specs.Kept.{Gathered}
use Rattle.xc_points.specs.Laws.{HasOneRange}
use Rattle.xc_points.specs.declared.types.Point.{Point}
use Rattle.xc_report.specs.declared.reports.Fact.{Fact}
use Rattle.xc_lists.proofs.ListsOfImages.{any_changed, filter_map_changed, map_both}
use Rattle.xc_report.specs.Renamed.{renamed_id, renamed_fact}
use Rattle.xc_top.proofs.Renaming.{IsInjective, same_number, renamed_point}

-- ---- what facts say of values

-- what the facts of the one point admit, those of the other do, and where one of those is wide, one of these is
pub record SaysAlike (mode : Mode) (one : List Fact) (point : Point) (other : List Fact) (other_point : Point) : Type 0 where
  pub admits : (p : ℤ) (q : ℕ) → PointAdmits mode one point p q → PointAdmits mode other other_point p q
  pub wide : IsWidePoint mode one point → IsWidePoint mode other other_point

-- then the range of the one is that of the other
pub range_alike : (mode : Mode) (one : List Fact) (point : Point) (other : List Fact) (other_point : Point) → SaysAlike mode one point other other_point → SaysAlike mode other other_point one point
    → (r : Range) → IsRange mode one point r → IsRange mode other other_point r
range_alike mode one point other other_point there back (range.Meets i) h = record {
  narrow = λ wide. h.narrow (back.wide wide);
  numbers = λ p q positive. (
    (λ admits. (h.numbers p q positive).0 (back.admits p q admits)),
    (λ lies. there.admits p q ((h.numbers p q positive).1 lies)),
  );
  some = h.some;
}
range_alike mode one point other other_point there back range.Empty h = (λ wide. h.0 (back.wide wide), λ p q positive admits. h.1 p q positive (back.admits p q admits))
range_alike mode one point other other_point there back range.Wide h = there.wide h

module _ (f : ℕ → ℕ) where
  facts_at_renamed : (facts : List Fact) (numbers : List ℕ) → facts_at (map (renamed_fact f) facts) numbers ≡ map (renamed_fact f) (facts_at facts numbers)
  facts_at_renamed facts numbers =
      filter_map_changed (renamed_fact f) (λ n. slice_get facts n) (λ n. slice_get (map (renamed_fact f) facts) n) (slice_get-map (renamed_fact f) facts) numbers

  module _ (mode : Mode) where
    all_admit : (facts : List Fact) (p : ℤ) (q : ℕ) → AllAdmit mode (map (renamed_fact f) facts) p q → AllAdmit mode facts p q
    all_admit [] p q h = h
    all_admit (fact ∷ facts) p q h = (h.0, all_admit facts p q h.1)

    all_admit_back : (facts : List Fact) (p : ℤ) (q : ℕ) → AllAdmit mode facts p q → AllAdmit mode (map (renamed_fact f) facts) p q
    all_admit_back [] p q h = h
    all_admit_back (fact ∷ facts) p q h = (h.0, all_admit_back facts p q h.1)

    some_is_wide : (facts : List Fact) → SomeIsWide mode (map (renamed_fact f) facts) → SomeIsWide mode facts
    some_is_wide [] h = h
    some_is_wide (fact ∷ facts) (inl h) = inl h
    some_is_wide (fact ∷ facts) (inr h) = inr (some_is_wide facts h)

    some_is_wide_back : (facts : List Fact) → SomeIsWide mode facts → SomeIsWide mode (map (renamed_fact f) facts)
    some_is_wide_back [] h = h
    some_is_wide_back (fact ∷ facts) (inl h) = inl h
    some_is_wide_back (fact ∷ facts) (inr h) = inr (some_is_wide_back facts h)

    module _ (facts : List Fact) (point other : Point) (same : other.facts ≡ point.facts) where
      same_facts : facts_at (map (renamed_fact f) facts) other.facts ≡ map (renamed_fact f) (facts_at facts point.facts)
      same_facts = ap (λ ns. facts_at (map (renamed_fact f) facts) ns) same ∙ facts_at_renamed facts point.facts

      -- a point of renamed facts says what one of the facts with the same numbers says
      pub says_same : SaysAlike mode (map (renamed_fact f) facts) other facts point
      says_same = record {
        admits = λ p q h. all_admit (facts_at facts point.facts) p q (subst (λ xs. AllAdmit mode xs p q) same_facts h);
        wide = λ h. some_is_wide (facts_at facts point.facts) (subst (λ xs. SomeIsWide mode xs) same_facts h);
      }

      pub says_back : SaysAlike mode facts point (map (renamed_fact f) facts) other
      says_back = record {
        admits = λ p q h. subst (λ xs. AllAdmit mode xs p q) (sym same_facts) (all_admit_back (facts_at facts point.facts) p q h);
        wide = λ h. subst (λ xs. SomeIsWide mode xs) (sym same_facts) (some_is_wide_back (facts_at facts point.facts) h);
      }

  -- ---- which facts belong together

  -- the concept, the key and the facts of a point
  abbrev renamed_group : NameId × ℕ × List ℕ → NameId × ℕ × List ℕ
  renamed_group group = (renamed_id f group.0, group.1, group.2)

  module _ (injective : IsInjective f) where
    together_renamed : (a b : Fact) → is_together (renamed_fact f a) (renamed_fact f b) ≡ is_together a b
    together_renamed a b = ap (λ same. same && (a.key == b.key)) (same_number f injective a.concept.0 b.concept.0)

    module _ (facts : List Fact) where
      numbers_renamed : numbers (map (renamed_fact f) facts) ≡ numbers facts
      numbers_renamed = ap (λ n. range_with_len 0 n) (length-map facts (renamed_fact f))

      with_renamed : (fact : Fact) (n : ℕ) → is_number_with (map (renamed_fact f) facts) (renamed_fact f fact) n ≡ is_number_with facts fact n
      with_renamed fact n = ap (λ o. option_map_or (is_together (renamed_fact f fact)) o false) (slice_get-map (renamed_fact f) facts n) ∙ by (slice_get facts n)
        where
          by : (o : Option Fact) → option_map_or (is_together (renamed_fact f fact)) (option_map (renamed_fact f) o) false ≡ option_map_or (is_together fact) o false
          by None = refl
          by (Some other) = together_renamed fact other

      numbers_with_renamed : (fact : Fact) → numbers_with (map (renamed_fact f) facts) (renamed_fact f fact) ≡ numbers_with facts fact
      numbers_with_renamed fact = λ i. filter (λ n. with_renamed fact n i) (numbers_renamed i)

      group_renamed : (fact : Fact) → group_with (map (renamed_fact f) facts) (renamed_fact f fact) ≡ renamed_group (group_with facts fact)
      group_renamed fact = λ i. (renamed_id f fact.concept, fact.key, numbers_with_renamed fact i)

      earlier_renamed : (fact : Fact) (n : ℕ) → list_any (is_together (renamed_fact f fact)) (take n (map (renamed_fact f) facts)) ≡ list_any (is_together fact) (take n facts)
      earlier_renamed fact n =
          ap (λ xs. list_any (is_together (renamed_fact f fact)) xs) (take-map (renamed_fact f) n facts)
          ∙ any_changed (renamed_fact f) (is_together (renamed_fact f fact)) (is_together fact) (together_renamed fact) (take n facts)

      first_renamed : (n : ℕ) → first_of_point (map (renamed_fact f) facts) n ≡ option_map (renamed_fact f) (first_of_point facts n)
      first_renamed n = ap (λ o. option_and_then (λ fact. if list_any (is_together fact) (take n (map (renamed_fact f) facts)) then None else Some fact) o) (slice_get-map (renamed_fact f) facts n) ∙ by (slice_get facts n)
        where
          whether : (fact : Fact) (earlier : Bool) → (if earlier then None else Some (renamed_fact f fact)) ≡ option_map (renamed_fact f) (if earlier then None else Some fact)
          whether fact true = refl
          whether fact false = refl

          by : (o : Option Fact) → option_and_then (λ fact. if list_any (is_together fact) (take n (map (renamed_fact f) facts)) then None else Some fact) (option_map (renamed_fact f) o)
              ≡ option_map (renamed_fact f) (option_and_then (λ fact. if list_any (is_together fact) (take n facts) then None else Some fact) o)
          by None = refl
          by (Some fact) = ap (λ earlier. if earlier then None else Some (renamed_fact f fact)) (earlier_renamed fact n) ∙ whether fact (list_any (is_together fact) (take n facts))

      first_facts_renamed : first_facts (map (renamed_fact f) facts) ≡ map (renamed_fact f) (first_facts facts)
      first_facts_renamed =
          ap (filter_map (first_of_point (map (renamed_fact f) facts))) numbers_renamed
          ∙ filter_map_changed (renamed_fact f) (first_of_point facts) (first_of_point (map (renamed_fact f) facts)) first_renamed (numbers facts)

      groups_renamed : groups (map (renamed_fact f) facts) ≡ map renamed_group (groups facts)
      groups_renamed =
          ap (λ xs. map (group_with (map (renamed_fact f) facts)) xs) first_facts_renamed
          ∙ map_both (renamed_fact f) (group_with (map (renamed_fact f) facts)) (group_with facts) renamed_group group_renamed (first_facts facts)

    -- ---- points

    -- points of the same groups and ranges are the same
    same_points : (points others : List Point) → map group_of others ≡ map renamed_group (map group_of points)
        → ((k : ℕ) (point other : Point) → slice_get points k ≡ Some point → slice_get others k ≡ Some other → other.facts ≡ point.facts → other.range ≡ point.range)
        → others ≡ map (renamed_point f) points
    same_points [] [] e ranges = refl
    same_points [] (other ∷ others) e ranges = absurd (cc)
    same_points (point ∷ points) [] e ranges = absurd (cc)
    same_points (point ∷ points) (other ∷ others) e ranges =
        let head : group_of other ≡ renamed_group (group_of point) = cc in
        let tail : map group_of others ≡ map renamed_group (map group_of points) = cc in
        let facts : other.facts ≡ point.facts = ap (λ (g : NameId × ℕ × List ℕ). g.2) head in
        let first : other.range ≡ point.range = ranges 0 point other refl refl facts in
        let rest = same_points points others tail (λ k. ranges (suc k)) in
        λ i. record { concept = (head i).0; key = (head i).1; facts = facts i; range = first i } ∷ rest i

    module _ (one_range : HasOneRange) (mode : Mode) (facts : List Fact) (gathered other : Gathered) (are : ArePoints mode facts gathered) (other_are : ArePoints mode (map (renamed_fact f) facts) other) where
      -- the groups are those of the facts
      same_groups : map group_of other.points ≡ map renamed_group (map group_of gathered.points)
      same_groups = other_are.groups_are ∙ groups_renamed facts ∙ ap (λ gs. map renamed_group gs) (sym are.groups_are)

      same_range : (k : ℕ) (point renamed : Point) → slice_get gathered.points k ≡ Some point → slice_get other.points k ≡ Some renamed → renamed.facts ≡ point.facts → renamed.range ≡ point.range
      same_range k point renamed here there same =
          one_range mode facts point renamed.range point.range
          (range_alike mode (map (renamed_fact f) facts) renamed facts point (says_same mode facts point renamed same) (says_back mode facts point renamed same) renamed.range (other_are.ranges k renamed there))
          (are.ranges k point here)

-- renamed facts have the points of the facts, renamed
pub points_renamed : HasOneRange → (f : ℕ → ℕ) → IsInjective f → (mode : Mode) (facts : List Fact) (gathered other : Gathered) → ArePoints mode facts gathered → ArePoints mode (map (renamed_fact f) facts) other
    → other.points ≡ map (renamed_point f) gathered.points
points_renamed one_range f injective mode facts gathered other are other_are =
    same_points f injective gathered.points other.points
    (same_groups f injective one_range mode facts gathered other are other_are)
    (same_range f injective one_range mode facts gathered other are other_are)
