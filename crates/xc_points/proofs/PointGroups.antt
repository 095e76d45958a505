-- Points that are made of facts that belong together.
use Rattle.std.proofs.Common.{◌≡◌, ℕ, ◌<◌, List, [], ◌∷◌, ◌++◌, length, map, get_or, Option, Some, None, option_map, refl, sym, ap, subst, ◌∙◌, append_assoc, append-nil}
use Rattle.std.proofs.lemmas.List.{map-append}
use Rattle.std.proofs.lemmas.List.Elements.{All-head, All-tail, All-push}
use Rattle.std.proofs.lemmas.Option.{slice_get_read}
use Rattle.std.specs.List.{filter_map, cons_option}
use Rattle.std.specs.Prelude.{All, IfSome, option_to_list}
use Rattle.xc_interval.specs.declared.interval.Interval.{Interval}
use Rattle.xc_model.specs.Ratio.{Ratio}
use Rattle.xc_names.specs.declared.expanded.NameId.{NameId}
use Rattle.xc_points.specs.Gathered.{group_of, groups}
use Rattle.xc_interval.specs.Ranges.{IsRangeOf}
use Rattle.xc_points.specs.Kept.{ends_of}
use Rattle.xc_points.specs.Steps.Members.{group_at}
use Rattle.xc_points.specs.declared.types.Point.{Point}
use Rattle.xc_report.specs.declared.reports.Fact.{Fact}

-- the group of members of which the first is this fact
pub made_group : (facts : List Fact) (own members others : List ℕ) (first : ℕ) (fact : Fact) → own ≡ members → members ≡ first ∷ others → first < length facts → fact ≡ get_or facts first fact
    → Some (fact.concept, fact.key, own) ≡ group_at facts members
made_group facts own members others first fact same split within is =
    ap (λ m. Some (fact.concept, fact.key, m)) (same ∙ split)
    ∙ sym (rw (slice_get_read facts (length facts) first fact refl within is) refl)
    ∙ ap (λ m. group_at facts m) (sym split)

-- the range of the point is the one that its facts' intervals give
abbrev pub HasItsRange : List (Option (Interval Ratio)) → Point → Type 0
HasItsRange ends point = IsRangeOf (ends_of ends point.facts) point.range

-- these are the numbers of facts
abbrev pub AreNumbers : List Fact → List ℕ → Type 0
AreNumbers facts members = All (λ f. f < length facts) members

-- the points so far, and then those of the members that are left, are all
pub record ArePointsSoFar (facts : List Fact) (ends : List (Option (Interval Ratio))) (points : List Point) (left : List (List ℕ)) : Type 0 where
  pub are : map group_of points ++ filter_map (group_at facts) left ≡ groups facts
  pub ranges : All (HasItsRange ends) points
  pub numbers : All (AreNumbers facts) left

kept_group : (points : List Point) (o : Option Point) (rest : List (NameId × ℕ × List ℕ)) → map group_of (points ++ option_to_list o) ++ rest ≡ map group_of points ++ cons_option (option_map group_of o) rest
kept_group points None rest = ap (λ l. map group_of l ++ rest) (append-nil points)
kept_group points (Some p) rest = ap (λ l. l ++ rest) (map-append group_of points (p ∷ [])) ∙ append_assoc (map group_of points) (group_of p ∷ []) rest

kept_ranges : (ends : List (Option (Interval Ratio))) (points : List Point) (o : Option Point) → All (HasItsRange ends) points → IfSome o (HasItsRange ends) → All (HasItsRange ends) (points ++ option_to_list o)
kept_ranges ends points None all own = subst (λ l. All (HasItsRange ends) l) (sym (append-nil points)) all
kept_ranges ends points (Some p) all own = All-push (HasItsRange ends) points p all own

-- the members that are left begin with these
pub next_numbers : (facts : List Fact) (ends : List (Option (Interval Ratio))) (points : List Point) (members : List ℕ) (left all : List (List ℕ)) → all ≡ members ∷ left → ArePointsSoFar facts ends points all → AreNumbers facts members
next_numbers facts ends points members left all split s = All-head (AreNumbers facts) members left (subst (λ l. All (AreNumbers facts) l) split s.numbers)

-- the point of the next members is put last, if there is one
pub one_more_point : (facts : List Fact) (ends : List (Option (Interval Ratio))) (points : List Point) (members : List ℕ) (left all : List (List ℕ)) (o : Option Point) → all ≡ members ∷ left
    → option_map group_of o ≡ group_at facts members → IfSome o (HasItsRange ends) → ArePointsSoFar facts ends points all → ArePointsSoFar facts ends (points ++ option_to_list o) left
one_more_point facts ends points members left all o split group range s = record {
  are = kept_group points o (filter_map (group_at facts) left)
      ∙ ap (λ g. map group_of points ++ cons_option g (filter_map (group_at facts) left)) group
      ∙ ap (λ l. map group_of points ++ filter_map (group_at facts) l) (sym split)
      ∙ s.are;
  ranges = kept_ranges ends points o s.ranges range;
  numbers = All-tail (AreNumbers facts) members left (subst (λ l. All (AreNumbers facts) l) split s.numbers);
}
