-- The concepts at the ends of arcs.
use Rattle.std.specs.Prelude.{◌≡◌, ◌==◌, ◌||◌, ℕ, Bool, List}
use Rattle.std.specs.List.{list_any}
use Rattle.std.specs.List.Sorted.{IsStrictlySortedBy}
use Rattle.std.specs.Ordering.{nat_cmp}
use Rattle.xc_calc.specs.declared.arc.Arc.{Arc}
use Rattle.xc_calc.specs.declared.arc.ListedArc.{ListedArc}
use Rattle.xc_names.specs.NameSets.{is_among}

-- the number is that of a concept at an end of the arc
abbrev pub is_end : ℕ → Arc → Bool
is_end number a = (a.from.0 == number) || (a.to.0 == number)

-- a node is a concept at either end of an arc, whether or not the arc is effective
abbrev pub is_node : List ListedArc → ℕ → Bool
is_node arcs number = list_any (λ a. is_end number a.arc) arcs

-- the numbers of the nodes, each once and ascending
pub record AreNodes (arcs : List ListedArc) (numbers : List ℕ) : Type 0 where
  pub ascending : IsStrictlySortedBy nat_cmp numbers
  pub nodes : (number : ℕ) → is_among numbers number ≡ is_node arcs number
