-- What an `Ordering` says of two numbers.
use Rattle.std.specs.Prelude.{◌≡◌, ℤ, pos, ◌<ℤ◌, ◌↔◌}
use Rattle.std.specs.Ordering.{MatchOrdering}
use Rattle.std.specs.declared.cmp.Ordering.{Ordering}
use Rattle.xc_model.specs.Fraction.{Fraction, SameNumber, IsBelow}

-- o is how the whole numbers m and n compare
abbrev pub OrdersInt : Ordering → ℤ → ℤ → Type 0
OrdersInt o m n = MatchOrdering o (m <ℤ n) (m ≡ n) (n <ℤ m)

-- o is how the numbers x and y compare
abbrev pub Orders : Ordering → Fraction → Fraction → Type 0
Orders o x y = MatchOrdering o (IsBelow x y) (SameNumber x y) (IsBelow y x)

-- y and z are both negative, both 0 or both positive
pub record SameSign (y z : ℤ) : Type 0 where
  pub below : (y <ℤ pos 0) ↔ (z <ℤ pos 0)
  pub zero : (y ≡ pos 0) ↔ (z ≡ pos 0)
  pub above : (pos 0 <ℤ y) ↔ (pos 0 <ℤ z)
