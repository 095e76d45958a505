-- What is known when facts are read: what prefixes stand for, the names that have numbers, and which of these are wanted.
use Rattle.std.specs.Prelude.{ℕ, ◌==◌, List, Bool, Option, Some, None, is_some, if◌then◌else◌}
use Rattle.std.specs.List.{list_any}
use Rattle.xc_names.specs.Names.{number_of}
use Rattle.xc_names.specs.Prefixes.{Bindings}
use Rattle.xc_names.specs.declared.expanded.Expanded.{Expanded}
use Rattle.xc_names.specs.declared.expanded.NameId.{NameId}
use Rattle.xc_names.specs.declared.wanted.Wanted.{Wanted}

-- what is known when facts are read
pub record Known : Type 0 where
  pub prefixes : Bindings
  pub names : List Expanded
  pub nodes : List NameId
  pub typed : List NameId

-- the number is listed
abbrev pub is_listed : List NameId → ℕ → Bool
is_listed ids number = list_any (λ id. number == id.0) ids

-- a number, where it is listed
abbrev pub number_if_listed : List NameId → Option ℕ → Option NameId
number_if_listed ids None = None
number_if_listed ids (Some number) = if is_listed ids number then Some (record { 0 = number }) else None

-- the number of a concept that is a node
abbrev pub node_of : Known → Expanded → Option NameId
node_of known name = number_if_listed known.nodes (number_of name.space name.local known.names)

-- the name is that of a typed dimension
abbrev pub is_typed : Known → Expanded → Bool
is_typed known name = is_some (number_if_listed known.typed (number_of name.space name.local known.names))

-- what is known of these prefixes, names and lists
abbrev pub known_of : Bindings → List Expanded → Wanted → Known
known_of prefixes names wanted = record { prefixes = prefixes; names = names; nodes = wanted.nodes; typed = wanted.typed }
