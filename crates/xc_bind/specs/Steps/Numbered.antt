-- A step of the code: the numbers of points, kept in a list for each concept.
use Rattle.std.specs.Prelude.{◌≡◌, ◌==◌, ℕ, List, [], Option, Some, None, filter_map, if◌then◌else◌, Vec}
use Rattle.std.specs.BTreeMap.{BTreeMap, get}
use Rattle.std.specs.List.{enumerate_from}
use Rattle.std.specs.Option.{option_map_or}
use Rattle.std.specs.Ordering.{nat_cmp}
use Rattle.xc_names.specs.declared.expanded.NameId.{NameId}
use Rattle.xc_points.specs.declared.types.Point.{Point}

-- the number of a point, where it is one of this concept
abbrev pub number_where : ℕ → ℕ × Point → Option ℕ
number_where concept point = if concept == point.1.concept.0 then Some point.0 else None

-- the numbers of the points of this concept, where the first has this number
abbrev pub numbers_from : ℕ → ℕ → List Point → List ℕ
numbers_from concept first points = filter_map (number_where concept) (enumerate_from first points)

-- the numbers of the points of a concept
abbrev pub numbers_of : List Point → NameId → List ℕ
numbers_of points concept = numbers_from concept.0 0 points

-- the numbers that are kept for a concept; a concept without a list has none
abbrev pub kept_of : {Y : Type 0} → BTreeMap ℕ (Vec ℕ Y) → ℕ → List ℕ
kept_of numbers concept = option_map_or (λ list. list.items) (get nat_cmp numbers concept) []

-- for each concept the numbers of its points are kept
abbrev pub AreNumbered : {Y : Type 0} → BTreeMap ℕ (Vec ℕ Y) → List Point → Type 0
AreNumbered numbers points = (concept : ℕ) → kept_of numbers concept ≡ numbers_from concept 0 points
