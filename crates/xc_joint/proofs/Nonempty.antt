-- Where some number lies in an interval, some pair lies between its ends as closed ones.
use Rattle.std.proofs.Common.{◌≡◌, zero, suc, true, false, List, [], ◌∷◌, map, inl, inr, refl, arith}
use Rattle.std.proofs.lemmas.Int.{ints}
use Rattle.xc_forest.specs.Forests.{AreRanges}
use Rattle.xc_interval.specs.Intervals.{numbers_of, HasNoNumber, HasNoPair}
use Rattle.xc_interval.specs.declared.ends.End.{End}
use Rattle.xc_interval.specs.declared.ends.End.TheVariants.{Closed, Open}
use Rattle.xc_interval.specs.declared.interval.Interval.{Interval}
use Rattle.xc_joint.specs.Small.{closed_pairs}
use Rattle.xc_joint.specs.Solved.{HaveNumbers}
use Rattle.xc_model.specs.Ratio.{Ratio, fraction_of}
use Rattle.xc_model.proofs.Numbers.{same-sym}

-- pairs that cross do so at their numbers
crossed : (low high : End Ratio) → HasNoPair (closed_pairs (record { low = low; high = high })) → HasNoNumber (numbers_of (record { low = low; high = high }))
crossed (Closed l) (Closed h) (inl (inl less)) = inl less
crossed (Closed l) (Open h) (inl (inl less)) = inl less
crossed (Open l) (Closed h) (inl (inl less)) = inl less
crossed (Open l) (Open h) (inl (inl less)) = inl less
crossed (Closed l) (Closed h) (inl (inr same)) = absurd (let k = same.1.cross in omega (arith, ints, k))
crossed (Closed l) (Open h) (inl (inr same)) = inr (same-sym (fraction_of h) (fraction_of l) same.0, refl)
crossed (Open l) (Closed h) (inl (inr same)) = inr (same-sym (fraction_of h) (fraction_of l) same.0, refl)
crossed (Open l) (Open h) (inl (inr same)) = inr (same-sym (fraction_of h) (fraction_of l) same.0, refl)
crossed low high (inr none) = absurd (let e : false ≡ true = none.1 in cc)

pub are_ranges : (ranges : List (Interval Ratio)) → HaveNumbers ranges → AreRanges (map closed_pairs ranges)
are_ranges [] some p l = absurd (omega arith)
are_ranges (range ∷ ranges) some zero l = (refl, refl, λ none. some 0 (omega arith) (crossed range.low range.high none))
are_ranges (range ∷ ranges) some (suc p) l = are_ranges ranges (λ q m. some (suc q) (omega arith)) p (omega arith)
