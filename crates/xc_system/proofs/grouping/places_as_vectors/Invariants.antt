use Rattle.std.proofs.Common.{◌≡◌, ◌==◌, ℕ, ◌<◌, length, slice_index, slice_index_or, map, []}
use Rattle.std.specs.Prelude.{filter}
use Rattle.xc_lists.specs.Places.{before}
use Rattle.xc_system.proofs.grouping.places_as_vectors.Given as goal

abbrev pub invariant-loop-number : goal.invariant-loop-number
invariant-loop-number l = record {
  length : length l.groups.items ≡ l._number;
  empty : (k : ℕ) → k < l._number → slice_index_or (map (λ v. v.items) l.groups.items) k [] ≡ [];
}

-- each group has the places before this one
abbrev pub invariant-loop-i : goal.invariant-loop-i
invariant-loop-i l = record {
  length : length l.groups.items ≡ l.count;
  places : (k : ℕ) → k < l.count → slice_index_or (map (λ v. v.items) l.groups.items) k [] ≡ filter (λ j. slice_index l.numbers j == k) (before l.i);
}
