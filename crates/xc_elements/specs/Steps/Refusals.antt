-- The faults of items that are refused, and of places at which no item stands.
use Rattle.std.specs.Prelude.{ℕ, List, if◌then◌else◌}
use Rattle.xc_elements.specs.Items.{begins_doctype}
use Rattle.xc_elements.specs.declared.fault.TreeFault.{TreeFault}
use Rattle.xc_elements.specs.declared.fault.TreeFault.TheVariants as trees
use Rattle.xc_elements.specs.declared.refusal.Refusal.{Refusal}
use Rattle.xc_elements.specs.declared.refusal.Refusal.TheVariants as refusals

-- the fault of an item at this place that is refused
abbrev pub fault_at : Refusal → ℕ → TreeFault
fault_at refusals.Memory place = trees.Memory
fault_at refusals.Unbalanced place = trees.Unbalanced place
fault_at refusals.TooDeep place = trees.TooDeep place
fault_at refusals.NoSpace place = trees.NoSpace place
fault_at refusals.SameAttribute place = trees.SameAttribute place

-- the fault of a place at which a text stands that begins with no item
abbrev pub no_item_fault : ℕ → List ℕ → TreeFault
no_item_fault place text = if begins_doctype text then trees.Doctype place else trees.NotItem place
