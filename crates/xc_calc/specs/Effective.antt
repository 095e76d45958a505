-- Arcs that are equivalent, and arcs that are effective: XBRL 2.1, sections 3.5.3.9.7.4 and 3.5.3.9.7.5.
use Rattle.std.specs.Prelude.{◌==◌, ◌&&◌, ℕ, Bool, true, false, not, int_lt, List, take, filter_map, Option, Some, None, option_and_then, slice_get, if◌then◌else◌}
use Rattle.std.specs.List.{list_any, list_all}
use Rattle.std.specs.Ordering.{int_eq}
use Rattle.std.specs.Str.{bytes_eq}
use Rattle.xc_calc.specs.declared.arc.ListedArc.{ListedArc}
use Rattle.xc_calc.specs.declared.arc.Use.{Use}
use Rattle.xc_calc.specs.declared.arc.Use.TheVariants.{Optional, Prohibited}
use Rattle.xc_lists.specs.Places.{places}
use Rattle.xc_decimal.specs.Shortest.{Shortest}
use Rattle.xc_elements.specs.declared.nodes.Attribute.{Attribute}

-- decimal numbers are the same where digits and places are, since both are in shortest form
abbrev pub is_same_number : Shortest → Shortest → Bool
is_same_number a b = int_eq a.digits b.digits && (a.places == b.places)

-- attributes are the same where their expanded names and their values are
abbrev pub is_same_attribute : Attribute → Attribute → Bool
is_same_attribute a b = bytes_eq a.space b.space && bytes_eq a.local b.local && bytes_eq a.value b.value

-- each of these attributes is one of the others
abbrev pub are_among : List Attribute → List Attribute → Bool
are_among these those = list_all (λ a. list_any (is_same_attribute a) those) these

-- the two sets of attributes are the same
abbrev pub are_same : List Attribute → List Attribute → Bool
are_same these those = are_among these those && are_among those these

-- two arcs are equivalent: both concepts, role, weight and order as numbers, and all other attributes that are not exempt agree
abbrev pub is_equivalent : ListedArc → ListedArc → Bool
is_equivalent a b =
    (a.arc.from.0 == b.arc.from.0) && (a.arc.to.0 == b.arc.to.0) && bytes_eq a.role b.role
    && is_same_number a.arc.weight b.arc.weight && is_same_number a.order b.order && are_same a.others b.others

-- the arc is prohibited
abbrev pub is_prohibited : Use → Bool
is_prohibited Optional = false
is_prohibited Prohibited = true

-- an equivalent arc of a higher priority
abbrev pub is_higher : ListedArc → ListedArc → Bool
is_higher a b = is_equivalent a b && int_lt a.priority b.priority

-- an equivalent arc of the same priority
abbrev pub is_rival : ListedArc → ListedArc → Bool
is_rival a b = is_equivalent a b && int_eq a.priority b.priority

-- an equivalent arc of the same priority that is prohibited
abbrev pub is_barred_by : ListedArc → ListedArc → Bool
is_barred_by a b = is_rival a b && is_prohibited b.usage

-- the arc at this place of a list is effective: it is not prohibited; no equivalent arc has a higher priority; no equivalent arc of its priority is prohibited; and no earlier equivalent arc has its priority. That the earlier of two such arcs counts is this project's own choice
abbrev pub is_effective : List ListedArc → ℕ → ListedArc → Bool
is_effective arcs at a =
    not (is_prohibited a.usage)
    && not (list_any (is_higher a) arcs)
    && not (list_any (is_barred_by a) arcs)
    && not (list_any (is_rival a) (take at arcs))

-- the arc at this place, where it is effective
abbrev pub effective_at : List ListedArc → ℕ → Option ListedArc
effective_at arcs at = option_and_then (λ a. if is_effective arcs at a then Some a else None) (slice_get arcs at)

-- the effective arcs, in reading order
abbrev pub effective_arcs : List ListedArc → List ListedArc
effective_arcs arcs = filter_map (effective_at arcs) (places arcs)
