-- A tally with one more edge.
use Rattle.std.specs.Prelude.{ℕ, ◌+◌, ◌<◌, ◌^◌, Bool, true, false, List, slice_index_or}
use Rattle.xc_forest.specs.declared.tallies.Tally.{Tally}

-- 1 for a minus sign
abbrev pub bit : Bool → ℕ
bit true = 1
bit false = 0

-- with one more edge, to this vertex
abbrev pub tally_with_edge : Tally → ℕ → Bool → Tally
tally_with_edge t other minus = record { degree = t.degree + 1; others = t.others + other; minuses = t.minuses + bit minus }

-- the tally of a vertex; that without edges where there is none
abbrev pub tally_at : List Tally → ℕ → Tally
tally_at ts v = slice_index_or ts v (record { degree = 0; others = 0; minuses = 0 })

-- such a tally fits
pub record HasRoomAt (ts : List Tally) (v other : ℕ) (minus : Bool) : Type 0 where
  pub degree : (tally_at ts v).degree + 1 < 2 ^ 64
  pub others : (tally_at ts v).others + other < 2 ^ 128
  pub minuses : (tally_at ts v).minuses + bit minus < 2 ^ 64
