-- How the multiplier of an end is shared between a point and the row that narrowed it.
use Rattle.std.specs.Prelude.{◌≡◌, ℕ, Bool, true, false, List, ℤ, pos, negsuc}
use Rattle.xc_forest.specs.Forests.{number_with_sign, multiplier_at}

-- all of them are 0
abbrev pub AreZero : List ℤ → Type 0
AreZero us = (v : ℕ) → multiplier_at us v ≡ pos 0

-- the end is the row's, or the point's own
abbrev pub IsShareOf : Bool → Bool → ℤ → ℤ → ℤ → Type 0
IsShareOf true b u of_point of_row = (of_point ≡ pos 0) × (of_row ≡ number_with_sign b u)
IsShareOf false b u of_point of_row = (of_point ≡ u) × (of_row ≡ pos 0)

-- 1 is the multiplier of the low end, and -1 of the high one
pub record IsShare (b lo hi : Bool) (u of_point of_row : ℤ) : Type 0 where
  pub is_of_row : Bool
  pub share : IsShareOf is_of_row b u of_point of_row
  pub low : u ≡ pos 1 → is_of_row ≡ lo
  pub high : u ≡ negsuc 0 → is_of_row ≡ hi
