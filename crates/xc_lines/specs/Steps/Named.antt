-- A list of ends, as facts are gone through in order.
use Rattle.std.specs.Prelude.{◌≡◌, ◌≤◌, ◌==◌, ℕ, Bool, true, false, List, [], ◌∷◌, if◌then◌else◌}
use Rattle.std.specs.List.{AllByRecursion}
use Rattle.xc_lines.specs.Settled.{is_listed}
use Rattle.xc_model.specs.Ratio.{Ratio}
use Rattle.xc_system.specs.Kept.{IsAscending}

-- whether the first is of this number, and what is left then
abbrev pub take_number : List (ℕ × Ratio) → ℕ → Bool × List (ℕ × Ratio)
take_number [] n = (false, [])
take_number (m ∷ ms) n = if m.0 == n then (true, ms) else (false, m ∷ ms)

-- what is left of the list says of the facts from number n on what the list says
pub record IsLeft (listed left : List (ℕ × Ratio)) (n : ℕ) : Type 0 where
  pub ascends : IsAscending left
  pub from : AllByRecursion (λ m. n ≤ m.0) left
  pub same : (k : ℕ) → n ≤ k → is_listed left k ≡ is_listed listed k
