-- What holds of every report that is answered.
use Rattle.std.specs.Prelude.{◌≡◌, ◌<◌, ℕ, List, All, AllPairs, length, map}
use Rattle.std.specs.Cmp.Lexicographic.{slice_cmp}
use Rattle.std.specs.List.Sorted.{IsStrictlySortedBy}
use Rattle.std.specs.Ordering.{nat_cmp}
use Rattle.xc_report.specs.Dimensions.{IsAscending}
use Rattle.xc_report.specs.declared.dimensions.Key.{Key}
use Rattle.xc_report.specs.declared.reports.Fact.{Fact}
use Rattle.xc_report.specs.declared.stated.StatedFact.{StatedFact}

-- each text is below all that follow it, as bytes
abbrev pub TextsAscend : List (List ℕ) → Type 0
TextsAscend texts = IsStrictlySortedBy (slice_cmp nat_cmp) texts

-- the ids of what facts state ascend, so that none stands twice
abbrev pub StatedIdsAscend : List StatedFact → Type 0
StatedIdsAscend facts = TextsAscend (map (λ fact. fact.id) facts)

-- the ids of facts ascend, so that none stands twice
abbrev pub IdsAscend : List Fact → Type 0
IdsAscend facts = TextsAscend (map (λ fact. fact.id) facts)

-- no two keys are equal
abbrev pub StandOnce : List Key → Type 0
StandOnce keys = AllPairs (λ a b. ¬ (a ≡ b)) keys

-- the dimensions of each key ascend, so that none stands twice
abbrev pub KeysAscend : List Key → Type 0
KeysAscend keys = All IsAscending keys

-- each fact has the number of one of these keys
abbrev pub HaveKeys : List Key → List Fact → Type 0
HaveKeys keys facts = All (λ fact. fact.key < length keys) facts
