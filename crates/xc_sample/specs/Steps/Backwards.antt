-- The values of a sample, as they are worked out: from the last node to the first.
use Rattle.std.specs.Prelude.{◌≡◌, ◌-◌, ℕ, List, length, map}
use Rattle.std.specs.List.{range_with_len}
use Rattle.xc_sample.specs.Samples.{value}

-- the values of as many last nodes of n, from the last one on
abbrev pub AreLastValues : ℕ → List ℕ → Type 0
AreLastValues n values = values ≡ map (λ k. value n (n - 1 - k)) (range_with_len 0 (length values))
