-- Where entries stand that are kept row by row.
use Rattle.std.proofs.Common.{◌≡◌, ◌≢◌, ℕ, ◌+◌, ◌*◌, ◌<◌, ◌≤◌, ◌⊎◌, List, length, get_or, Some, None, inl, inr, arith, slice_get}
use Rattle.std.proofs.lemmas.Bool.{cases_order}
use Rattle.std.proofs.lemmas.Nat.{mul-add-lt}
use Rattle.std.proofs.lemmas.Option.{slice_get_cases}
use Rattle.std.proofs.Math.Nat.{mul-le-mul_right}

-- it is among them
pub place_below : (k j m n : ℕ) → k < m → j < n → k * n + j < m * n
place_below k j m n h l = omega (arith, mul-add-lt k n j m h l)

-- places of different rows are different
lower_place : (k i j h n : ℕ) → j < n → k < i → k * n + j < i * n + h
lower_place k i j h n l m = let next : (k + 1) * n ≤ i * n = mul-le-mul_right n (let e : k + 1 ≤ i = omega arith in e) in omega (arith, next)

pub places_apart : (k i j h n : ℕ) → j < n → h < n → k ≢ i → k * n + j ≢ i * n + h
places_apart k i j h n l m some e = go (cases_order k i)
  where
    go : ((k ≡ i) ⊎ ((k < i) ⊎ (i < k))) → ⊥
    go (inl q) = some q
    go (inr (inl q)) = omega (arith, lower_place k i j h n l q)
    go (inr (inr q)) = omega (arith, lower_place i k h j n m q)

-- there is an entry at each place below their number
pub entry_there : {X : Type 0} (entries : List X) (n : ℕ) → n < length entries → (f : X) × (slice_get entries n ≡ Some f)
entry_there {X} entries n h = go (slice_get_cases entries n).1
  where
    go : (((x : X) × (n < length entries) × (slice_get entries n ≡ Some x) × (get_or entries n x ≡ x)) ⊎ ((length entries ≤ n) × (slice_get entries n ≡ None))) → (f : X) × (slice_get entries n ≡ Some f)
    go (inl s) = (s.0, s.2)
    go (inr s) = absurd (omega (arith, s.0))
