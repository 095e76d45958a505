-- When orders say equal.
use Rattle.std.proofs.Common.{◌≡◌, ◌==◌, ◌&&◌, ℕ, sym, arith}
use Rattle.std.proofs.lemmas.Bool.Decides.{nat_tests}
use Rattle.std.specs.Cmp.{tied_then}
use Rattle.std.specs.Ordering.{nat_cmp, is_eq, ordering_then}
use Rattle.std.specs.declared.cmp.Ordering.{Ordering}

-- numbers do where they are one
pub is_eq-nat_cmp : (m n : ℕ) → is_eq (nat_cmp m n) ≡ (m == n)
is_eq-nat_cmp m n = grind (arith, nat_tests)

-- two in turn do where both do
pub is_eq-then : (a b : Ordering) → is_eq (ordering_then a b) ≡ (is_eq a && is_eq b)
is_eq-then a b = sym (tied_then a b)
