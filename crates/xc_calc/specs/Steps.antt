-- What private steps of the code say. No public clause cites them.
pub mod Common
pub mod Groups
pub mod Labels
pub mod Sets
use Rattle.std.specs.Prelude.{◌≡◌, ℕ, List, [], Vec}
use Rattle.std.specs.BTreeMap.{BTreeMap, get}
use Rattle.std.specs.Borrow.{Bor}
use Rattle.std.specs.Cmp.Lexicographic.{slice_cmp}
use Rattle.std.specs.Option.{option_map_or}
use Rattle.std.specs.Ordering.{nat_cmp}
use Rattle.std.specs.declared.cmp.Ordering.{Ordering}
use Rattle.xc_calc.specs.Linked.{Drawn}
use Rattle.xc_calc.specs.Networks.{arcs_of}
use Rattle.xc_calc.specs.declared.arc.Arc.{Arc}
use Rattle.xc_calc.specs.declared.arc.ListedArc.{ListedArc}
use Rattle.xc_calc.specs.declared.drawn.Drawn as kept

-- what an arc element says, as the code keeps it
abbrev pub drawn_view : kept.Drawn → Drawn
drawn_view d = record { role = d.role; weight = d.weight; order = d.order; others = d.others; priority = d.priority; usage = d.usage }

-- lent texts in the order of their bytes
abbrev pub by_bytes : Bor (List ℕ) → Bor (List ℕ) → Ordering
by_bytes a b = slice_cmp nat_cmp a.now b.now

-- the list of a key; a key that has none has the empty one
abbrev pub list_of : {K X Y : Type 0} → (K → K → Ordering) → BTreeMap K (Vec X Y) → K → List X
list_of cmp lists key = option_map_or (λ list. list.items) (get cmp lists key) []

-- each list has the arcs of its role, in their order
abbrev pub AreByRole : {Y : Type 0} → BTreeMap (Bor (List ℕ)) (Vec Arc Y) → List ListedArc → Type 0
AreByRole lists arcs = (role : Bor (List ℕ)) → list_of by_bytes lists role ≡ arcs_of arcs role.now
