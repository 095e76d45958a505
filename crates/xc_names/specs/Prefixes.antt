-- What prefixes stand for.
use Rattle.std.specs.Prelude.{ℕ, List, map, string_bytes, String}
use Rattle.std.specs.Ordering.{nat_cmp}
use Rattle.std.specs.Cmp.Lexicographic.{slice_cmp}
use Rattle.std.specs.FinMap.{FinMap, from_entries}

-- a map from prefixes to the URIs of namespaces
abbrev pub Bindings : Type 0
Bindings = FinMap (slice_cmp nat_cmp) (List ℕ)

-- the bindings of a list of prefixes, each with its URI
abbrev pub bindings_of : {Y Z : Type 0} → List (String Y × String Z) → Bindings
bindings_of entries = from_entries (map (λ entry. (string_bytes entry.0, string_bytes entry.1)) entries)
