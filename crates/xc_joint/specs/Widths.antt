-- Values of which the parts are whole numbers over few denominators: they leave room for the small number.
use Rattle.std.specs.Prelude.{ℕ, ℤ, pos, ◌+◌, ◌*◌, ◌≤◌, ◌^◌, List, [], ◌∷◌, Result, Ok, Err, unsigned_abs}
use Rattle.std.specs.List.{AllByRecursion}
use Rattle.xc_frac.specs.declared.delta.Delta.{Delta}
use Rattle.xc_interval.specs.Ends.{value_of}
use Rattle.xc_interval.specs.declared.interval.Interval.{Interval}
use Rattle.xc_joint.specs.declared.small.Halt.{Halt}
use Rattle.xc_joint.specs.declared.small.Halt.TheVariants.{Memory, Wide}
use Rattle.xc_model.specs.Ratio.{Ratio, IsOver}

-- ends and real parts are whole numbers over d, at most r in magnitude; tiny parts are whole numbers, at most n in magnitude
pub record Width : Type 0 where
  pub d : ℕ
  pub r : ℕ
  pub n : ℕ

-- that is as much as a narrow forest of n points allows
abbrev pub HasRoom : Width → Type 0
HasRoom w = (2 * w.n + 4) * (w.d + w.r) ≤ 2 ^ 126

-- f is a whole number over d, at most r in magnitude
pub record IsWithin (d r : ℕ) (f : Ratio) : Type 0 where
  pub whole : ℤ
  pub over : IsOver f whole d
  pub small : unsigned_abs whole ≤ r

-- a value and the ends between which it lies
pub record IsWithinAt (w : Width) (range : Interval Ratio) (value : Delta Ratio) : Type 0 where
  pub low : IsWithin w.d w.r (value_of range.low)
  pub high : IsWithin w.d w.r (value_of range.high)
  pub real : IsWithin w.d w.r value.real
  pub tiny : IsWithin 1 w.n value.tiny

-- all values, each with the range of its point
abbrev pub AreWithin : Width → List (Interval Ratio) → List (Delta Ratio) → Type 0
AreWithin w [] values = Unit {0}
AreWithin w (range ∷ ranges) [] = Unit {0}
AreWithin w (range ∷ ranges) (value ∷ values) = IsWithinAt w range value × AreWithin w ranges values

-- f is a whole number over d times a factor of at most n + 1, twice as great as values are at most
pub record IsOverFactor (w : Width) (d : ℕ) (f : Ratio) : Type 0 where
  pub top : ℕ
  pub factor : ℕ
  pub over : IsOver f (pos top) (d * factor)
  pub small : top ≤ 2 * (w.r + w.d)
  pub few : factor ≤ w.n + 1

-- the parts of a value alone
pub record HasParts (w : Width) (value : Delta Ratio) : Type 0 where
  pub real : IsWithin w.d w.r value.real
  pub tiny : IsWithin 1 w.n value.tiny

-- so of each of these values
abbrev pub HaveParts : Width → List (Delta Ratio) → Type 0
HaveParts w values = AllByRecursion (HasParts w) values

-- f is a whole number over d
abbrev pub IsWholeOver : ℕ → Ratio → Type 0
IsWholeOver d f = (z : ℤ) × IsOver f z d

-- what is answered where values have room: no operation passes, and all numbers are whole numbers over one denominator, twice d times
-- a factor of at most n + 1
abbrev pub HaveRoom : {X : Type 0} → (X → List Ratio) → Width → Result X Halt → Type 0
HaveRoom numbers w (Ok xs) = (factor : ℕ) × (factor ≤ w.n + 1) × AllByRecursion (IsWholeOver (w.d * 2 * factor)) (numbers xs)
HaveRoom numbers w (Err Memory) = Unit {0}
HaveRoom numbers w (Err (Wide operation)) = ⊥
