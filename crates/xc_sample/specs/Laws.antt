-- What the values of a sample are.
use Rattle.std.specs.Prelude.{◌≡◌, ◌+◌, ◌<◌, ℕ, true, false}
use Rattle.std.specs.List.{sum_by}
use Rattle.xc_sample.specs.Samples.{children, has_children, lift, value}

-- a node without children has its number as value
abbrev pub LeavesAreNumbers : Type 0
LeavesAreNumbers = (n i : ℕ) → i < n → has_children n i ≡ false → value n i ≡ i

-- a node with children has the sum of their values as value, and 1 more where none of them has children
abbrev pub TotalsAreSums : Type 0
TotalsAreSums = (n i : ℕ) → has_children n i ≡ true → value n i ≡ sum_by (λ c. value n c) (children n i) + lift n i
