-- Sums of factor times number as whole numbers over one denominator.
use Rattle.std.proofs.Common.{◌≡◌, ℕ, ◌*◌, ◌<◌, ℤ, pos, ◌+ℤ◌, ◌*ℤ◌, List, [], ◌∷◌, map, refl, ap}
use Rattle.std.proofs.Math.Nat.{mul-pos}
use Rattle.std.specs.List.{AllByRecursion}
use Rattle.xc_model.specs.Fraction.{Fraction, whole, IsNumberOver}
use Rattle.xc_model.specs.Ratio.{Ratio, fraction_of, IsOver}
use Rattle.xc_model.proofs.Numbers.{same-refl}
use Rattle.xc_model.proofs.NumbersOver.{over_number, zero_over, sum_number, product_number}
use Rattle.xc_corners.specs.Answers.{sum_over_lines}
use Rattle.xc_corners.specs.Problems.{total}
use Rattle.xc_corners.specs.WholeNumbers.{times_common}
use Rattle.xc_corners.proofs.CommonDenominators.{AllDivide, is_times_common}

-- the same sum in whole numbers, by what each line is
abbrev pub line_total : ((ℕ × Ratio) → ℤ) → (ℕ → ℤ) → List (ℕ × Ratio) → ℤ
line_total g h [] = pos 0
line_total g h (line ∷ lines) = g line *ℤ h line.0 +ℤ line_total g h lines

-- the factor of a line is g over d, and the number of it is h over e
pub record IsLineOver (g : (ℕ × Ratio) → ℤ) (d : ℕ) (z : ℕ → Fraction) (h : ℕ → ℤ) (e : ℕ) (line : ℕ × Ratio) : Type 0 where
  pub factor : IsOver line.1 (g line) d
  pub number : IsNumberOver (z line.0) (h line.0) e

pub weighed_over : (g : (ℕ × Ratio) → ℤ) (d : ℕ) (z : ℕ → Fraction) (h : ℕ → ℤ) (e : ℕ) (lines : List (ℕ × Ratio)) → 0 < d → 0 < e → AllByRecursion (IsLineOver g d z h e) lines
    → IsNumberOver (sum_over_lines lines z) (line_total g h lines) (d * e)
weighed_over g d z h e [] p q a = zero_over (whole (pos 0)) (d * e) (mul-pos p q) (same-refl (whole (pos 0)))
weighed_over g d z h e (line ∷ lines) p q a =
    sum_number _ _ _ _ (d * e) (product_number (fraction_of line.1) (z line.0) (g line) (h line.0) (g line *ℤ h line.0) d e (d * e) (over_number line.1 (g line) d a.0.factor) a.0.number (record { positive = mul-pos p q; cross = refl }))
    (weighed_over g d z h e lines p q a.1)

-- the entries of a row
row_lines : (d : ℕ) (z : ℕ → Fraction) (h : ℕ → ℤ) (e : ℕ) (entries : List (ℕ × Ratio)) → 0 < d → AllDivide d entries → AllByRecursion (λ entry. IsNumberOver (z entry.0) (h entry.0) e) entries
    → AllByRecursion (IsLineOver (λ entry. times_common d entry.1) d z h e) entries
row_lines d z h e [] p a b = tt
row_lines d z h e (entry ∷ entries) p a b = (record { factor = is_times_common d entry.1 p a.0; number = b.0 }, row_lines d z h e entries p a.1 b.1)

row_total : (d : ℕ) (h : ℕ → ℤ) (entries : List (ℕ × Ratio)) → line_total (λ entry. times_common d entry.1) h entries ≡ total (map (λ entry. (entry.0, times_common d entry.1)) entries) h
row_total d h [] = refl
row_total d h (entry ∷ entries) = ap (λ (v : ℤ). times_common d entry.1 *ℤ h entry.0 +ℤ v) (row_total d h entries)

pub row_over : (d : ℕ) (z : ℕ → Fraction) (h : ℕ → ℤ) (e : ℕ) (entries : List (ℕ × Ratio)) → 0 < d → 0 < e → AllDivide d entries → AllByRecursion (λ entry. IsNumberOver (z entry.0) (h entry.0) e) entries
    → IsNumberOver (sum_over_lines entries z) (total (map (λ entry. (entry.0, times_common d entry.1)) entries) h) (d * e)
row_over d z h e entries p q a b = rw (← row_total d h entries) (weighed_over (λ entry. times_common d entry.1) d z h e entries p q (row_lines d z h e entries p a b))
