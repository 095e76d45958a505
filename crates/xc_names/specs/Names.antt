-- Expanded names in a list, each numbered by its place: Namespaces in XML 1.0, section 2.1.
use Rattle.std.specs.Prelude.{◌≡◌, ℕ, Bool, ◌&&◌, ◌++◌, List, [], ◌∷◌, Option, Some, is_some, slice_get, if◌then◌else◌}
use Rattle.std.specs.Borrow.{Bor}
use Rattle.std.specs.List.{position_from}
use Rattle.std.specs.Str.{bytes_eq}
use Rattle.xc_names.specs.declared.expanded.Expanded.{Expanded}

-- the expanded name of a namespace and a local part
abbrev pub name_of : List ℕ → List ℕ → Expanded
name_of space local = record { space = space; local = local }

-- the expanded name of two lent texts
abbrev pub lent_name : Bor (List ℕ) × Bor (List ℕ) → Expanded
lent_name parts = name_of parts.0.now parts.1.now

-- the name has this namespace and this local part: names are equal where both parts are
abbrev pub is_named : List ℕ → List ℕ → Expanded → Bool
is_named space local name = bytes_eq space name.space && bytes_eq local name.local

-- the number of a name in a list: the place of the first that is equal to it
abbrev pub number_of : List ℕ → List ℕ → List Expanded → Option ℕ
number_of space local names = position_from (is_named space local) 0 names

-- the list with this name in it: a new name goes last
abbrev pub with_name : List ℕ → List ℕ → List Expanded → List Expanded
with_name space local names = if is_some (number_of space local names) then names else names ++ name_of space local ∷ []

-- each name of the list has the number of its own place, so that no name stands twice and different numbers are different names
abbrev pub AreNumbered : List Expanded → Type 0
AreNumbered names = (i : ℕ) (name : Expanded) → slice_get names i ≡ Some name → number_of name.space name.local names ≡ Some i

-- a name that is in the first list has the same number in the second
abbrev pub KeepsNumbers : List Expanded → List Expanded → Type 0
KeepsNumbers old new = (space local : List ℕ) (number : ℕ) → number_of space local old ≡ Some number → number_of space local new ≡ Some number
