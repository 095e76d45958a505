-- Dimensions with their values as parts of a key, and the numbers of keys.
use Rattle.std.specs.Prelude.{◌≡◌, ℕ, ◌==◌, ◌&&◌, ◌++◌, List, [], ◌∷◌, Bool, true, false, fold, Option, if◌then◌else◌}
use Rattle.std.specs.List.{list_any, position_or_len}
use Rattle.std.specs.List.Sorted.{IsStrictlySortedBy}
use Rattle.std.specs.BTreeMap.{insert_entry}
use Rattle.std.specs.Map.{keys_of, lookup}
use Rattle.std.specs.Ordering.{nat_cmp, ordering_then}
use Rattle.std.specs.Cmp.Lexicographic.{pointwise}
use Rattle.std.specs.Str.{bytes_eq}
use Rattle.std.specs.declared.cmp.Ordering.{Ordering}
use Rattle.xc_names.specs.declared.expanded.NameId.{NameId}
use Rattle.xc_report.specs.declared.dimensions.Dimension.{Dimension}
use Rattle.xc_report.specs.declared.dimensions.Dimension.TheVariants as dimension
use Rattle.xc_report.specs.declared.dimensions.DimValue.{DimValue}
use Rattle.xc_report.specs.declared.dimensions.DimValue.TheVariants as value
use Rattle.xc_report.specs.declared.dimensions.Key.{Key}

-- the place of a kind of dimension among those that are listed
abbrev pub kind : Dimension → ℕ
kind dimension.Entity = 0
kind dimension.Period = 1
kind dimension.Unit = 2
kind dimension.Language = 3
kind dimension.NoteId = 4
kind (dimension.Taxonomy id) = 5

-- the number of a dimension of a taxonomy
abbrev pub taxonomy_number : Dimension → ℕ
taxonomy_number dimension.Entity = 0
taxonomy_number dimension.Period = 0
taxonomy_number dimension.Unit = 0
taxonomy_number dimension.Language = 0
taxonomy_number dimension.NoteId = 0
taxonomy_number (dimension.Taxonomy id) = id.0

-- dimensions are ordered by kind, and those of taxonomies by number
abbrev pub dimension_cmp : Dimension → Dimension → Ordering
dimension_cmp a b = ordering_then (nat_cmp (kind a) (kind b)) (nat_cmp (taxonomy_number a) (taxonomy_number b))

-- each dimension is below all that follow it, so that none stands twice
abbrev pub IsAscending : List (Dimension × DimValue) → Type 0
IsAscending parts = IsStrictlySortedBy dimension_cmp (keys_of parts)

-- dimensions with their values, ascending by dimension
abbrev pub in_order : List (Dimension × DimValue) → List (Dimension × DimValue)
in_order parts = fold (λ ordered part. insert_entry dimension_cmp ordered part.0 part.1) [] parts

-- numbers are equal one by one
abbrev pub are_same_ids : List NameId → List NameId → Bool
are_same_ids a b = pointwise (λ (x y : NameId). x.0 == y.0) a b

-- dimensions are equal where their kinds and numbers are
abbrev pub is_same_dimension : Dimension → Dimension → Bool
is_same_dimension a b = (kind a == kind b) && (taxonomy_number a == taxonomy_number b)

-- values are equal where they are of one kind, with equal parts
abbrev pub is_same_value : DimValue → DimValue → Bool
is_same_value (value.Pair s i) (value.Pair t j) = bytes_eq s t && bytes_eq i j
is_same_value (value.Text s) (value.Text t) = bytes_eq s t
is_same_value (value.Name a) (value.Name b) = a.0 == b.0
is_same_value value.Null value.Null = true
is_same_value (value.Measures a b) (value.Measures c d) = are_same_ids a c && are_same_ids b d
is_same_value _ _ = false

-- keys are equal where they have the same dimensions with equal values
abbrev pub is_same_key : Key → Key → Bool
is_same_key a b = pointwise (λ (x y : Dimension × DimValue). is_same_dimension x.0 y.0 && is_same_value x.1 y.1) a b

-- the value of a dimension in a key, where the key has the dimension
abbrev pub value_at : Key → Dimension → Option DimValue
value_at key dimension = lookup (is_same_dimension dimension) key

-- the same dimensions, with the same values
abbrev pub HaveSameValues : Key → Key → Type 0
HaveSameValues a b = (dimension : Dimension) → value_at a dimension ≡ value_at b dimension

-- the list with this key in it: a new key goes last
abbrev pub with_key : List Key → Key → List Key
with_key keys key = if list_any (is_same_key key) keys then keys else keys ++ key ∷ []

-- the number of a key: the place of the first that is equal to it
abbrev pub key_number : List Key → Key → ℕ
key_number keys key = position_or_len (is_same_key key) keys

-- keys without those that are equal to an earlier one
abbrev pub distinct : List Key → List Key
distinct keys = fold with_key [] keys
