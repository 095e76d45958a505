-- The operations for the ends of a reported fact, and when they pass.
use Rattle.std.proofs.Common.{◌≡◌, zero, suc, ℤ, pos, negsuc, ◌<ℤ◌, arith, refl, sym, subst}
use Rattle.std.proofs.lemmas.Int.{ints}
use Rattle.xc_model.specs.Fraction.{Fraction, SameNumber, neg_of, sum_of, difference_of}
use Rattle.xc_model.specs.Ratio.{Ratio, fraction_of}
use Rattle.xc_model.proofs.Numbers.{same-refl, same-sym, same-trans, same-sum, same-neg}
use Rattle.std.specs.Prelude.{Result, Ok, Err, IfErr, OnOk}
use Rattle.xc_frac.specs.Passes.{Passes, PassesAs}
use Rattle.xc_frac.specs.declared.wide.Op.{Op}
use Rattle.xc_frac.specs.declared.wide.Op.TheVariants.{Add, Sub}
use Rattle.xc_frac.specs.declared.wide.Wide.{Wide}
use Rattle.xc_model.proofs.LowestTerms.{one_lowest}
use Rattle.xc_interval.specs.Reported.{PassesWith, TruncationPasses, truncated, unit_of, IsSameInterval}
use Rattle.xc_interval.specs.Ends.{value_of}
use Rattle.xc_interval.specs.declared.ends.End.TheVariants.{Closed, Open}
use Rattle.xc_interval.specs.declared.interval.Interval.{Interval}

module _ (v h : Ratio) (x : Fraction) (same : SameNumber (fraction_of h) x) where
  pub passes_with : (op : Op) (w : Wide) → w ≡ record { op = op; left = v; right = h } → Passes op v h → PassesWith op v x w
  passes_with op w is passes = subst (PassesWith op v x) (sym is) (record { op_is = refl; left = refl; right = same; passes = passes })

  -- the number has one fraction, so the operation passes with no other
  pub not_with : (op : Op) → ¬ Passes op v h → (w : Wide) → ¬ PassesWith op v x w
  not_with op fits w p =
      let one : w.right ≡ h = one_lowest w.right h (same-trans (fraction_of w.right) x (fraction_of h) p.right (same-sym (fraction_of h) x same)) in
      fits (subst (Passes op v) one p.passes)

  -- sums and differences with the fraction are those with the number
  pub sum_same : (r : Fraction) → SameNumber r (sum_of (fraction_of v) (fraction_of h)) → SameNumber r (sum_of (fraction_of v) x)
  sum_same r at = same-trans r _ _ at (same-sum (fraction_of v) (fraction_of h) (fraction_of v) x (same-refl (fraction_of v)) same)

  pub difference_same : (r : Fraction) → SameNumber r (difference_of (fraction_of v) (fraction_of h)) → SameNumber r (difference_of (fraction_of v) x)
  difference_same r at = same-trans r _ _ at (same-sum (fraction_of v) (neg_of (fraction_of h)) (fraction_of v) (neg_of x) (same-refl (fraction_of v)) (same-neg (fraction_of h) x same))

-- Under truncation, by the sign n
module _ (d : ℤ) (v : Ratio) where
  pub pass_above : (n : ℤ) (w : Wide) → pos 0 <ℤ n → PassesWith Add v (unit_of d) w → TruncationPasses n d v w
  pass_above (pos zero) w h p = absurd (omega (arith, ints))
  pass_above (pos (suc n)) w h p = p
  pass_above (negsuc n) w h p = absurd (omega (arith, ints))

  pub pass_below : (n : ℤ) (w : Wide) → n <ℤ pos 0 → PassesWith Sub v (unit_of d) w → TruncationPasses n d v w
  pass_below (pos n) w h p = absurd (omega (arith, ints))
  pass_below (negsuc n) w h p = p

  pub fit_above : (n : ℤ) (w : Wide) → pos 0 <ℤ n → ¬ PassesWith Add v (unit_of d) w → ¬ TruncationPasses n d v w
  fit_above (pos zero) w h p = absurd (omega (arith, ints))
  fit_above (pos (suc n)) w h p = p
  fit_above (negsuc n) w h p = absurd (omega (arith, ints))

  pub fit_below : (n : ℤ) (w : Wide) → n <ℤ pos 0 → ¬ PassesWith Sub v (unit_of d) w → ¬ TruncationPasses n d v w
  fit_below (pos n) w h p = absurd (omega (arith, ints))
  fit_below (negsuc n) w h p = p

  pub fit_zero : (n : ℤ) (w : Wide) → n ≡ pos 0 → ¬ TruncationPasses n d v w
  fit_zero (pos zero) w h p = p
  fit_zero (pos (suc n)) w h p = absurd (omega (arith, ints, h))
  fit_zero (negsuc n) w h p = absurd (omega (arith, ints, h))

module _ (d : ℤ) (v : Fraction) (i : Interval Fraction) where
  pub ends_above : (n : ℤ) → pos 0 <ℤ n → IsSameInterval i (record { low = Closed v; high = Open (sum_of v (unit_of d)) }) → IsSameInterval i (truncated n d v)
  ends_above (pos zero) h same = absurd (omega (arith, ints))
  ends_above (pos (suc n)) h same = same
  ends_above (negsuc n) h same = absurd (omega (arith, ints))

  pub ends_below : (n : ℤ) → n <ℤ pos 0 → IsSameInterval i (record { low = Open (difference_of v (unit_of d)); high = Closed v }) → IsSameInterval i (truncated n d v)
  ends_below (pos n) h same = absurd (omega (arith, ints))
  ends_below (negsuc n) h same = same

  pub ends_zero : (n : ℤ) → n ≡ pos 0 → IsSameInterval i (record { low = Open (neg_of (unit_of d)); high = Open (unit_of d) }) → IsSameInterval i (truncated n d v)
  ends_zero (pos zero) h same = same
  ends_zero (pos (suc n)) h same = absurd (omega (arith, ints, h))
  ends_zero (negsuc n) h same = absurd (omega (arith, ints, h))

-- From a unit as a fraction to the unit as a number
module _ (d : ℤ) (v unit : Ratio) (same : SameNumber (fraction_of unit) (unit_of d)) where
  abbrev value : Fraction
  value = fraction_of v

  pub above_ends : pos 0 <ℤ v.num → (i : Interval Fraction) → IsSameInterval i (record { low = Closed value; high = Open (sum_of value (fraction_of unit)) }) → IsSameInterval i (truncated v.num d value)
  above_ends h i ends = ends_above d value i v.num h (record {
    low = ends.low;
    high = record { at = sum_same v unit (unit_of d) same (value_of i.high) ends.high.at; opens = ends.high.opens };
  })

  pub below_ends : v.num <ℤ pos 0 → (i : Interval Fraction) → IsSameInterval i (record { low = Open (difference_of value (fraction_of unit)); high = Closed value }) → IsSameInterval i (truncated v.num d value)
  below_ends h i ends = ends_below d value i v.num h (record {
    low = record { at = difference_same v unit (unit_of d) same (value_of i.low) ends.low.at; opens = ends.low.opens };
    high = ends.high;
  })

  pub around_ends : v.num ≡ pos 0 → (i : Interval Fraction) → IsSameInterval i (record { low = Open (neg_of (fraction_of unit)); high = Open (fraction_of unit) }) → IsSameInterval i (truncated v.num d value)
  around_ends h i ends = ends_zero d value i v.num h (record {
    low = record { at = same-trans _ _ _ ends.low.at (same-neg (fraction_of unit) (unit_of d) same); opens = ends.low.opens };
    high = record { at = same-trans _ _ _ ends.high.at same; opens = ends.high.opens };
  })

  module _ {T : Type 0} where
    pub above_passes : (r : Result T Wide) → pos 0 <ℤ v.num → IfErr r (PassesAs Add v unit) → IfErr r (TruncationPasses v.num d v)
    above_passes (Ok x) h passes = tt
    above_passes (Err w) h passes = pass_above d v v.num w h (passes_with v unit (unit_of d) same Add w passes.0 passes.1)

    pub below_passes : (r : Result T Wide) → v.num <ℤ pos 0 → IfErr r (PassesAs Sub v unit) → IfErr r (TruncationPasses v.num d v)
    below_passes (Ok x) h passes = tt
    below_passes (Err w) h passes = pass_below d v v.num w h (passes_with v unit (unit_of d) same Sub w passes.0 passes.1)

    pub above_fits : (r : Result T Wide) → pos 0 <ℤ v.num → OnOk r (¬ Passes Add v unit) → OnOk r ((w : Wide) → ¬ TruncationPasses v.num d v w)
    above_fits (Ok x) h fits = λ w. fit_above d v v.num w h (not_with v unit (unit_of d) same Add fits w)
    above_fits (Err w) h fits = tt

    pub below_fits : (r : Result T Wide) → v.num <ℤ pos 0 → OnOk r (¬ Passes Sub v unit) → OnOk r ((w : Wide) → ¬ TruncationPasses v.num d v w)
    below_fits (Ok x) h fits = λ w. fit_below d v v.num w h (not_with v unit (unit_of d) same Sub fits w)
    below_fits (Err w) h fits = tt
