-- What follows from the definitions, in the words of names.
use Rattle.std.specs.Prelude.{◌≡◌, ◌↔◌, ◌<◌, ℕ, List, Some, IsSome, length, slice_get}
use Rattle.xc_names.specs.Names.{name_of, number_of, AreNumbered}
use Rattle.xc_names.specs.declared.expanded.Expanded.{Expanded}

-- two names, one of which is in a list, have one number exactly where they are equal
abbrev pub NumbersTellNames : Type 0
NumbersTellNames = (names : List Expanded) (space local other_space other_local : List ℕ) → IsSome (number_of space local names)
    → (number_of space local names ≡ number_of other_space other_local names) ↔ (name_of space local ≡ name_of other_space other_local)

-- a number in a list is that of one name, which stands at its place
abbrev pub NumbersArePlaces : Type 0
NumbersArePlaces = (names : List Expanded) (space local : List ℕ) (number : ℕ) → AreNumbered names
    → (number_of space local names ≡ Some number) ↔ (slice_get names number ≡ Some (name_of space local))

-- a name that has a number in a list stands there at the place with this number
abbrev pub NamesStandAtNumbers : Type 0
NamesStandAtNumbers = (names : List Expanded) (space local : List ℕ) (number : ℕ) → number_of space local names ≡ Some number
    → (number < length names) × (slice_get names number ≡ Some (name_of space local))
