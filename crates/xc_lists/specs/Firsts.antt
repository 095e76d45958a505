-- The first of a list's items that is equal to a given one.
use Rattle.std.specs.Prelude.{ℕ, List, Option, map}
use Rattle.std.specs.List.{position_from, position_or_len}
use Rattle.std.specs.Ordering.{is_eq}
use Rattle.std.specs.declared.cmp.Ordering.{Ordering}

-- the place of the first item that is equal to this one
abbrev pub first_equal : {K : Type 0} → (K → K → Ordering) → K → List K → Option ℕ
first_equal cmp item items = position_from (λ other. is_eq (cmp item other)) 0 items

-- the same, or how many items there are
abbrev pub first_or_len : {K : Type 0} → (K → K → Ordering) → K → List K → ℕ
first_or_len cmp item items = position_or_len (λ other. is_eq (cmp item other)) items

-- for each item, the place of the first that is equal to it
abbrev pub first_places : {K : Type 0} → (K → K → Ordering) → List K → List ℕ
first_places cmp items = map (λ item. first_or_len cmp item items) items
