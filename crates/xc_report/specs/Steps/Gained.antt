-- Names that a report gains, behind those that are there.
use Rattle.std.specs.Prelude.{◌≡◌, ◌++◌, List}
use Rattle.xc_names.specs.Names.{KeepsNumbers}
use Rattle.xc_names.specs.declared.expanded.Expanded.{Expanded}

-- names that are there, and names that are gained
pub record GainedNames : Type 0 where
  pub there : List Expanded
  pub gained : List Expanded

-- these are there, and those are gained
abbrev pub names_with : List Expanded → List Expanded → GainedNames
names_with there gained = record { there = there; gained = gained }

-- all of them, those that are gained behind the others
abbrev pub all_names : GainedNames → List Expanded
all_names names = names.there ++ names.gained

-- some may have been gained: those that are there stay, and all keep their numbers
pub record MayGain (old new : GainedNames) : Type 0 where
  pub there : new.there ≡ old.there
  pub kept : KeepsNumbers (all_names old) (all_names new)

-- it holds of all names that keep the numbers of these, as names do that are gained later
abbrev pub Lasts : List Expanded → (List Expanded → Type 0) → Type 0
Lasts names holds = (later : List Expanded) → KeepsNumbers names later → holds later
