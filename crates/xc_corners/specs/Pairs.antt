-- Pairs of a real and a tiny part in whole numbers, and sums over variables.
use Rattle.std.specs.Prelude.{◌≡◌, ℕ, zero, suc, ◌⊎◌, ℤ, pos, ◌+ℤ◌, ◌*ℤ◌, ◌≤ℤ◌, ◌<ℤ◌}
use Rattle.xc_model.specs.Parts.{WholeParts, IsLessWhole}

infix 50 ◌≺◌ ◌≼◌
-- a is less than b: in the real part, or where these are equal, in the tiny part
abbrev pub ◌≺◌ : WholeParts → WholeParts → Type 0
a ≺ b = IsLessWhole a b

-- a is at most b
abbrev pub ◌≼◌ : WholeParts → WholeParts → Type 0
a ≼ b = (a.real <ℤ b.real) ⊎ ((a.real ≡ b.real) × (a.tiny ≤ℤ b.tiny))

-- t times both parts
abbrev pub times : ℤ → WholeParts → WholeParts
times t a = record { real = t *ℤ a.real; tiny = t *ℤ a.tiny }

-- f 0 + .. + f (n - 1)
abbrev pub sum_below : ℕ → (ℕ → ℤ) → ℤ
sum_below zero f = pos 0
sum_below (suc n) f = sum_below n f +ℤ f n

-- 0 in both parts
abbrev pub zero_pair : WholeParts
zero_pair = record { real = pos 0; tiny = pos 0 }
