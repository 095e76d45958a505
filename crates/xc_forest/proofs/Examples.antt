-- The definitions on a small forest: two points, and a row that says that they have one value.
use Rattle.std.proofs.Common.{◌≡◌, ℕ, zero, suc, ◌+◌, ◌<◌, Bool, true, false, List, [], ◌∷◌, inl, inr, refl, ℤ, pos, negsuc, ◌+ℤ◌, ◌*ℤ◌, arith}
use Rattle.std.proofs.lemmas.Int.{ints}
use Rattle.xc_forest.specs.Forests.{Contradicts, HasNoCycle, IsNext, IsUnit, multiplier_at, row_at, row_sum, row_total, sum_below, unit_at}
use Rattle.xc_lists.specs.Members.{IsIn}
use Rattle.xc_interval.specs.declared.ends.End.TheVariants.{Closed}
use Rattle.xc_interval.specs.declared.interval.Interval.{Interval}
use Rattle.xc_model.specs.Fraction.{whole}
use Rattle.xc_model.specs.Parts.{Parts, SameParts, real_alone, zero_parts}

abbrev number : ℤ → Parts
number n = real_alone (whole n)

abbrev same_rows : List (List (ℕ × Bool))
same_rows = ((0, false) ∷ (1, true) ∷ []) ∷ []

-- 0 to 10, and 11 to 12
abbrev apart_ranges : List (Interval Parts)
apart_ranges = record { low = Closed (number (pos 0)); high = Closed (number (pos 10)) } ∷ record { low = Closed (number (pos 11)); high = Closed (number (pos 12)) } ∷ []

-- the weight of each point, and a row's sum
first_weight : row_sum ((0, false) ∷ (1, true) ∷ []) (unit_at 0) ≡ pos 1
first_weight = refl

second_weight : row_sum ((0, false) ∷ (1, true) ∷ []) (unit_at 1) ≡ negsuc 0
second_weight = refl

-- equal values meet the row
equal_meet : SameParts (row_total ((0, false) ∷ (1, true) ∷ []) (λ p. number (pos 7))) zero_parts
equal_meet = record { real = record { cross = refl }; tiny = record { cross = refl } }

-- a point's neighbour is the row
next_to_point : (v u : ℕ) → v < 2 → IsNext 2 same_rows v u → u ≡ 2
next_to_point v u l (inl k) = let e : u ≡ 2 + k.0 = k.1 in let b : k.0 < 1 = k.2 in omega arith
next_to_point v u l (inr k) = let e : v ≡ 2 + k.0 = k.1 in absurd (omega arith)

no_cycle : HasNoCycle 2 same_rows
no_cycle = record {
  listing = 0 ∷ 1 ∷ 2 ∷ [];
  listed = listed;
  thin = ((λ u w i j a b. one (next_to_point 0 u (omega arith) a) (next_to_point 0 w (omega arith) b)), ((λ u w i j a b. one (next_to_point 1 u (omega arith) a) (next_to_point 1 w (omega arith) b)), ((λ u w i j a b. absurd i), tt)));
}
  where
    one : {u w : ℕ} → u ≡ 2 → w ≡ 2 → u ≡ w
    one e f = omega arith

    listed : (v : ℕ) → v < 3 → IsIn v (0 ∷ 1 ∷ 2 ∷ [])
    listed zero l = inl refl
    listed (suc zero) l = inr (inl refl)
    listed (suc (suc zero)) l = inr (inr (inl refl))
    listed (suc (suc (suc v))) l = absurd (omega arith)

-- the high end of the one and the low end of the other, with the row, contradict
contradiction : Contradicts same_rows apart_ranges (pos 1 ∷ []) (negsuc 0 ∷ pos 1 ∷ [])
contradiction = record {
  each_row = refl;
  each_end = refl;
  row_units = λ i. row_unit i;
  end_units = λ p. end_unit p;
  cancels = cancels;
  positive = inl (record { cross = omega (arith, ints) });
}
  where
    row_unit : (i : ℕ) → IsUnit (multiplier_at (pos 1 ∷ []) i)
    row_unit zero = inr (inl refl)
    row_unit (suc i) = inl refl

    end_unit : (p : ℕ) → IsUnit (multiplier_at (negsuc 0 ∷ pos 1 ∷ []) p)
    end_unit zero = inr (inr refl)
    end_unit (suc zero) = inr (inl refl)
    end_unit (suc (suc p)) = inl refl

    cancels : (p : ℕ) → p < 2 → multiplier_at (negsuc 0 ∷ pos 1 ∷ []) p +ℤ sum_below 1 (λ i. row_sum (row_at same_rows i) (unit_at p) *ℤ multiplier_at (pos 1 ∷ []) i) ≡ pos 0
    cancels zero l = refl
    cancels (suc zero) l = refl
    cancels (suc (suc p)) l = absurd (omega arith)
