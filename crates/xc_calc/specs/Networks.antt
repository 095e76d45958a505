-- The networks of effective arcs, by role: XBRL 2.1, section 3.5.3.9.7.3.
use Rattle.std.specs.Prelude.{◌≡◌, ℕ, Bool, List, [], map, filter, slice_get}
use Rattle.std.specs.Cmp.Lexicographic.{slice_cmp}
use Rattle.std.specs.List.{list_any}
use Rattle.std.specs.List.Sorted.{IsStrictlySortedBy}
use Rattle.std.specs.Option.{option_map_or}
use Rattle.std.specs.Ordering.{nat_cmp}
use Rattle.std.specs.Str.{bytes_eq}
use Rattle.xc_calc.specs.Effective.{effective_arcs}
use Rattle.xc_calc.specs.declared.arc.Arc.{Arc}
use Rattle.xc_calc.specs.declared.arc.ListedArc.{ListedArc}
use Rattle.xc_calc.specs.declared.arc.Network.{Network}

-- the arc has this role
abbrev pub has_role : List ℕ → ListedArc → Bool
has_role role a = bytes_eq role a.role

-- one of these arcs has this role
abbrev pub some_role : List ListedArc → List ℕ → Bool
some_role arcs role = list_any (has_role role) arcs

-- the arcs of a role, in reading order
abbrev pub arcs_of : List ListedArc → List ℕ → List Arc
arcs_of arcs role = map (λ a. a.arc) (filter (has_role role) arcs)

-- the networks of arcs: their roles ascend as bytes, each once; each has the effective arcs of its role in reading order; and the roles are those of effective arcs
pub record AreNetworks (arcs : List ListedArc) (networks : List Network) : Type 0 where
  pub ascending : IsStrictlySortedBy (slice_cmp nat_cmp) (map (λ n. n.role) networks)
  pub arcs_are : map (λ n. n.arcs) networks ≡ map (λ n. arcs_of (effective_arcs arcs) n.role) networks
  pub roles : (role : List ℕ) → list_any (bytes_eq role) (map (λ n. n.role) networks) ≡ some_role (effective_arcs arcs) role

-- the role of the network at this place, empty where there is none
abbrev pub role_of : List Network → ℕ → List ℕ
role_of networks at = option_map_or (λ network. network.role) (slice_get networks at) []
