-- A step of the code: equivalent arcs, told by those of their highest priority. No public clause cites it.
use Rattle.std.specs.Prelude.{◌≡◌, ◌&&◌, ℤ, Bool, true, false, int_lt, List, take, Option, Some, None, slice_get}
use Rattle.std.specs.BTreeMap.{BTreeMap, get}
use Rattle.std.specs.List.{list_any}
use Rattle.std.specs.Option.{option_map_or}
use Rattle.std.specs.Ordering.{int_eq}
use Rattle.xc_calc.specs.Effective.{is_prohibited}
use Rattle.xc_calc.specs.Steps.Common.{by_common, has_common}
use Rattle.xc_calc.specs.declared.arc.ListedArc.{ListedArc}
use Rattle.xc_calc.specs.declared.common.Common.{Common}
use Rattle.xc_calc.specs.declared.groups.Group.{Group}

-- the test holds of the arc, which has a higher priority than this one
abbrev pub is_above : (ListedArc → Bool) → ℤ → ListedArc → Bool
is_above test priority b = test b && int_lt priority b.priority

-- the test holds of the arc, which has this priority
abbrev pub is_level : (ListedArc → Bool) → ℤ → ListedArc → Bool
is_level test priority b = test b && int_eq priority b.priority

-- the test holds of the arc, which has this priority and is prohibited
abbrev pub is_bar : (ListedArc → Bool) → ℤ → ListedArc → Bool
is_bar test priority b = is_level test priority b && is_prohibited b.usage

-- of the arcs for which the test holds, none has a priority above that of the group; the group is barred exactly where one of its priority is prohibited; and the first one of its priority stands at its place
pub record IsGroup (test : ListedArc → Bool) (arcs : List ListedArc) (g : Group) : Type 0 where
  pub highest : list_any (is_above test g.priority) arcs ≡ false
  pub barred : list_any (is_bar test g.priority) arcs ≡ g.barred
  pub there : option_map_or (is_level test g.priority) (slice_get arcs g.first) false ≡ true
  pub none_before : list_any (is_level test g.priority) (take g.first arcs) ≡ false

-- the group of the arcs for which the test holds; there is none where it holds for no arc
abbrev pub IsGroupOf : (ListedArc → Bool) → List ListedArc → Option Group → Type 0
IsGroupOf test arcs None = list_any test arcs ≡ false
IsGroupOf test arcs (Some g) = IsGroup test arcs g

-- each key has the group of the arcs that have in common what it says
abbrev pub AreGroups : BTreeMap Common Group → List ListedArc → Type 0
AreGroups groups arcs = (key : Common) → IsGroupOf (has_common key) arcs (get by_common groups key)
