-- An index over a list's items.
use Rattle.std.specs.Prelude.{◌≡◌, ℕ, List, Option}
use Rattle.std.specs.declared.cmp.Ordering.{Ordering}
use Rattle.xc_lists.specs.Firsts.{first_equal}

-- the look-up gives for each item the place of the first that is equal to it
abbrev pub IsIndex : {K : Type 0} → (K → K → Ordering) → (K → Option ℕ) → List K → Type 0
IsIndex {K} cmp look_up items = (item : K) → look_up item ≡ first_equal cmp item items
