-- A step of the code: arcs that are kept in a list for each concept from which they lead.
use Rattle.std.specs.Prelude.{◌≡◌, ◌==◌, ℕ, List, [], filter, Vec}
use Rattle.std.specs.BTreeMap.{BTreeMap, get}
use Rattle.std.specs.Option.{option_map_or}
use Rattle.std.specs.Ordering.{nat_cmp}
use Rattle.xc_calc.specs.declared.arc.Arc.{Arc}

-- the list of a concept has the arcs that lead from it, in their order; a concept without a list has none
abbrev pub AreGrouped : {Y : Type 0} → BTreeMap ℕ (Vec Arc Y) → List Arc → Type 0
AreGrouped lists arcs = (concept : ℕ) → option_map_or (λ list. list.items) (get nat_cmp lists concept) [] ≡ filter (λ arc. concept == arc.from.0) arcs
