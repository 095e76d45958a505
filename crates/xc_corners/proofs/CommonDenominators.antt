-- Fractions over the product of their denominators.
use Rattle.std.proofs.Common.{◌≡◌, ℕ, zero, suc, ◌*◌, ◌/◌, ◌<◌, ℤ, pos, ◌*ℤ◌, List, [], ◌∷◌, ◌++◌, length, map, get_or, sym, ap, ◌∙◌, arith}
use Rattle.std.specs.Prelude.{unsigned_abs}
use Rattle.std.proofs.lemmas.Nat.Gcd.{dvd_trans}
use Rattle.std.proofs.Math.Nat.{mul-pos}
use Prim.Native.Nat.{◌∣◌}
use native.Mathlib.Nat.{dvd-mul_right, dvd-mul_left, mul-div_cancel'}
use Rattle.xc_interval.specs.Ends.{value_of}
use Rattle.xc_interval.specs.declared.interval.Interval.{Interval}
use Rattle.xc_model.specs.Fraction.{unsigned_abs_pos}
use Rattle.xc_model.specs.Ratio.{Ratio, IsOver}
use Rattle.xc_model.proofs.Integers.{ring, pos-unsigned_abs}
use Rattle.xc_corners.specs.WholeNumbers.{product_of_denominators, times_common, ends_of, weights_of}

-- f is a whole number over d
pub record Divides (d : ℕ) (f : Ratio) : Type 0 where
  pub divides : unsigned_abs f.den ∣ d

pub common_positive : (fs : List Ratio) → 0 < product_of_denominators fs
common_positive [] = omega arith
common_positive (f ∷ fs) = mul-pos (unsigned_abs_pos f.den f.lowest.positive) (common_positive fs)

whole_cross : (n a q d : ℤ) → a *ℤ q ≡ d → n *ℤ d ≡ (n *ℤ q) *ℤ a
whole_cross n a q d e = rw (← e) (simp ring)

-- it is that number
pub is_times_common : (d : ℕ) (f : Ratio) → 0 < d → Divides d f → IsOver f (times_common d f) d
is_times_common d f h o = record {
  positive = h;
  same =
      let whole : unsigned_abs f.den * (d / unsigned_abs f.den) ≡ d = mul-div_cancel' (unsigned_abs f.den) o.divides in
      whole_cross f.num f.den (pos (d / unsigned_abs f.den)) (pos d)
      (ap (λ (z : ℤ). z *ℤ pos (d / unsigned_abs f.den)) (sym (pos-unsigned_abs f.den f.lowest.positive)) ∙ ap (λ (z : ℕ). pos z) whole);
}

more_divides : (d k : ℕ) (f : Ratio) → Divides d f → Divides (k * d) f
more_divides d k f o = record { divides = dvd_trans (unsigned_abs f.den) o.divides (dvd-mul_left d k) }

first_divides : (f : Ratio) (fs : List Ratio) → Divides (product_of_denominators (f ∷ fs)) f
first_divides f fs = record { divides = dvd-mul_right (unsigned_abs f.den) (product_of_denominators fs) }

-- both ends of a range
pub ends_divide : (ranges : List (Interval Ratio)) (j : ℕ) (none : Interval Ratio) → j < length ranges
    → Divides (product_of_denominators (ends_of ranges)) (value_of (get_or ranges j none).low) × Divides (product_of_denominators (ends_of ranges)) (value_of (get_or ranges j none).high)
ends_divide [] j none h = absurd (omega arith)
ends_divide (range ∷ ranges) zero none h = (
  first_divides (value_of range.low) (value_of range.high ∷ ends_of ranges),
  more_divides _ (unsigned_abs (value_of range.low).den) _ (first_divides (value_of range.high) (ends_of ranges)),
)
ends_divide (range ∷ ranges) (suc j) none h =
    let rest = ends_divide ranges j none (omega arith) in
    let more = λ (f : Ratio) (o : Divides (product_of_denominators (ends_of ranges)) f).
    more_divides _ (unsigned_abs (value_of range.low).den) f (more_divides _ (unsigned_abs (value_of range.high).den) f o) in
    (more _ rest.0, more _ rest.1)

-- the weights of these entries
abbrev pub AllDivide : ℕ → List (ℕ × Ratio) → Type 0
AllDivide d [] = Unit {0}
AllDivide d (entry ∷ entries) = Divides d entry.1 × AllDivide d entries

more_all : (d k : ℕ) (entries : List (ℕ × Ratio)) → AllDivide d entries → AllDivide (k * d) entries
more_all d k [] a = tt
more_all d k (entry ∷ entries) a = (more_divides d k entry.1 a.0, more_all d k entries a.1)

row_divides : (entries : List (ℕ × Ratio)) (fs : List Ratio) → AllDivide (product_of_denominators (map (λ entry. entry.1) entries ++ fs)) entries
row_divides [] fs = tt
row_divides (entry ∷ entries) fs =
    (first_divides entry.1 (map (λ entry. entry.1) entries ++ fs), more_all _ (unsigned_abs entry.1.den) entries (row_divides entries fs))

after_row : (entries others : List (ℕ × Ratio)) (fs : List Ratio) → AllDivide (product_of_denominators fs) others → AllDivide (product_of_denominators (map (λ entry. entry.1) entries ++ fs)) others
after_row [] others fs a = a
after_row (entry ∷ entries) others fs a = more_all _ (unsigned_abs entry.1.den) others (after_row entries others fs a)

pub weights_divide : (rows : List (List (ℕ × Ratio))) (i : ℕ) → AllDivide (product_of_denominators (weights_of rows)) (get_or rows i [])
weights_divide [] i = tt
weights_divide (row ∷ rows) zero = row_divides row (weights_of rows)
weights_divide (row ∷ rows) (suc i) = after_row row (get_or rows i []) (weights_of rows) (weights_divide rows i)
