-- Common divisors and common multiples.
use Rattle.std.specs.Prelude.{◌≡◌, ℕ}
use Prim.Native.Nat.{◌∣◌}

-- no number but 1 divides both
abbrev pub IsCoprime : ℕ → ℕ → Type 0
IsCoprime m n = (k : ℕ) → k ∣ m → k ∣ n → k ≡ 1

-- l is the least common multiple of m and n
pub record IsLeastCommon (m n l : ℕ) : Type 0 where
  pub left : m ∣ l
  pub right : n ∣ l
  pub least : (k : ℕ) → m ∣ k → n ∣ k → l ∣ k
