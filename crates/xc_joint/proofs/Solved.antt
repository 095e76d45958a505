-- The numbers of values solve what the values solve.
use Rattle.std.proofs.Common.{◌≡◌, ℕ, zero, suc, ◌*◌, ◌<◌, Bool, true, false, List, [], ◌∷◌, length, map, ℤ, pos, neg_ℤ, ◌+ℤ◌, ◌*ℤ◌, inl, inr, refl, ◌∙◌, arith, Result, Err, subst}
use Rattle.std.proofs.lemmas.Int.{ints}
use Rattle.std.proofs.lemmas.List.{length-map}
use Rattle.xc_forest.specs.Forests.{row_at, row_total, parts_with_sign, range_at as span_at, value_at as parts_at}
use Rattle.xc_frac.specs.declared.delta.Delta.{Delta}
use Rattle.xc_interval.specs.Intervals.{numbers_of, HasNumber, HasPair, IsBefore, IsPast}
use Rattle.xc_interval.specs.declared.ends.End.{End}
use Rattle.xc_interval.specs.declared.ends.End.TheVariants.{Closed, Open}
use Rattle.xc_interval.specs.declared.interval.Interval.{Interval}
use Rattle.xc_joint.specs.Laws.{NumbersOfSolutionsSolve}
use Rattle.xc_joint.specs.Small.{at, closed_pairs, pair, AreAt, AreSmall, IsPositive}
use Rattle.xc_joint.specs.Solved.{interval_at, number_at, number_total, signed_number, SolvesRanges}
use Rattle.xc_joint.specs.Widths.{Width, HaveRoom}
use Rattle.xc_joint.specs.declared.small.Halt.{Halt}
use Rattle.xc_joint.specs.declared.small.Halt.TheVariants.{Memory, Wide}
use Rattle.xc_joint.proofs.Between.{at_zero, same_over, small_solves}
use Rattle.xc_joint.proofs.Evaluated.{at_over, keeps_same, over_itself, shared_parts}
use Rattle.xc_model.specs.Fraction.{Fraction, SameNumber, IsBelow, whole, neg_of, sum_of}
use Rattle.xc_model.specs.Parts.{Parts, neg_parts, sum_parts, zero_parts}
use Rattle.xc_model.specs.Ratio.{Ratio, fraction_of}
use Rattle.xc_model.proofs.Integers.{ring}
use Rattle.xc_model.proofs.Numbers.{below-same, same-neg, same-refl, same-sum, same-sym, same-trans}
use Rattle.xc_model.proofs.NumbersOver.{neg_number, sum_number}

-- ---- sums and negatives of pairs
sum_at : (a b c d k m : ℤ) → (a +ℤ b) *ℤ k +ℤ (c +ℤ d) *ℤ m ≡ (a *ℤ k +ℤ c *ℤ m) +ℤ (b *ℤ k +ℤ d *ℤ m)
sum_at a b c d k m = simp ring (omega (arith, ints))

neg_at : (a c k m : ℤ) → neg_ℤ a *ℤ k +ℤ neg_ℤ c *ℤ m ≡ neg_ℤ (a *ℤ k +ℤ c *ℤ m)
neg_at a c k m = simp ring (omega (arith, ints))

at_sum : (x y : Parts) (s : Fraction) → SameNumber (at (sum_parts x y) s) (sum_of (at x s) (at y s))
at_sum x y s =
    let c = shared_parts x y in
    let one = at_over x s c.x_real c.x_tiny s.num c.den s.den c.x_real_over c.x_tiny_over (over_itself s) in
    let other = at_over y s c.y_real c.y_tiny s.num c.den s.den c.y_real_over c.y_tiny_over (over_itself s) in
    let real = sum_number x.real y.real c.x_real c.y_real c.den c.x_real_over c.y_real_over in
    let tiny = sum_number x.tiny y.tiny c.x_tiny c.y_tiny c.den c.x_tiny_over c.y_tiny_over in
    same_over _ _ _ _ (c.den * s.den)
    (at_over (sum_parts x y) s (c.x_real +ℤ c.y_real) (c.x_tiny +ℤ c.y_tiny) s.num c.den s.den real tiny (over_itself s))
    (sum_number (at x s) (at y s) _ _ (c.den * s.den) one other)
    (sum_at c.x_real c.y_real c.x_tiny c.y_tiny (pos s.den) s.num)

at_neg : (x : Parts) (s : Fraction) → SameNumber (at (neg_parts x) s) (neg_of (at x s))
at_neg x s =
    let c = shared_parts x x in
    let one = at_over x s c.x_real c.x_tiny s.num c.den s.den c.x_real_over c.x_tiny_over (over_itself s) in
    same_over _ _ _ _ (c.den * s.den)
    (at_over (neg_parts x) s (neg_ℤ c.x_real) (neg_ℤ c.x_tiny) s.num c.den s.den (neg_number x.real c.x_real c.den c.x_real_over) (neg_number x.tiny c.x_tiny c.den c.x_tiny_over) (over_itself s))
    (neg_number (at x s) _ (c.den * s.den) one)
    (neg_at c.x_real c.x_tiny (pos s.den) s.num)

-- ---- rows
none_at : (s : Fraction) → SameNumber (at zero_parts s) (whole (pos 0))
none_at s = at_zero (whole (pos 0)) s

at_signed : (b : Bool) (x : Parts) (y s : Fraction) → SameNumber (at x s) y → SameNumber (at (parts_with_sign b x) s) (signed_number b y)
at_signed false x y s h = h
at_signed true x y s h = same-trans (at (neg_parts x) s) (neg_of (at x s)) (neg_of y) (at_neg x s) (same-neg (at x s) y h)

at_row : (row : List (ℕ × Bool)) (z : ℕ → Parts) (f : ℕ → Fraction) (s : Fraction) → ((p : ℕ) → SameNumber (at (z p) s) (f p)) → SameNumber (at (row_total row z) s) (number_total row f)
at_row [] z f s h = none_at s
at_row (entry ∷ row) z f s h =
    let one = at_signed entry.1 (z entry.0) (f entry.0) s (h entry.0) in
    let others = at_row row z f s h in
    let x = parts_with_sign entry.1 (z entry.0) in
    let rest = row_total row z in
    same-trans (at (sum_parts x rest) s) (sum_of (at x s) (at rest s)) (number_total (entry ∷ row) f) (at_sum x rest s) (same-sum (at x s) (at rest s) _ _ one others)

-- ---- numbers of values
at_each : (s : Fraction) (values : List (Delta Ratio)) (xs : List Ratio) → AreAt s values xs → (p : ℕ) → SameNumber (at (parts_at (map pair values) p) s) (number_at xs p)
at_each s [] [] h p = none_at s
at_each s [] (x ∷ xs) h p = absurd h
at_each s (value ∷ values) [] h p = absurd h
at_each s (value ∷ values) (x ∷ xs) h zero = same-sym (fraction_of x) (at (pair value) s) h.0
at_each s (value ∷ values) (x ∷ xs) h (suc p) = at_each s values xs h.1 p

as_many : (s : Fraction) (values : List (Delta Ratio)) (xs : List Ratio) → AreAt s values xs → length xs ≡ length values
as_many s [] [] h = refl
as_many s [] (x ∷ xs) h = absurd h
as_many s (value ∷ values) [] h = absurd h
as_many s (value ∷ values) (x ∷ xs) h = let i = as_many s values xs h.1 in omega (arith, i)

-- ---- intervals
same_past : (end : End Fraction) (x y : Fraction) → SameNumber x y → IsPast IsBelow SameNumber end x → IsPast IsBelow SameNumber end y
same_past (Closed e) x y h (inl less) = inl (below-same e x e y (same-refl e) h less)
same_past (Closed e) x y h (inr same) = inr (same-trans e x y same h)
same_past (Open e) x y h less = below-same e x e y (same-refl e) h less

same_before : (end : End Fraction) (x y : Fraction) → SameNumber x y → IsBefore IsBelow SameNumber end x → IsBefore IsBelow SameNumber end y
same_before (Closed e) x y h (inl less) = inl (below-same x e y e h (same-refl e) less)
same_before (Closed e) x y h (inr same) = inr (same-trans y x e (same-sym x y h) same)
same_before (Open e) x y h less = below-same x e y e h (same-refl e) less

same_lies : (i : Interval Fraction) (x y : Fraction) → SameNumber x y → HasNumber i x → HasNumber i y
same_lies i x y h lies = record { low = same_past i.low x y h lies.low; high = same_before i.high x y h lies.high }

module _ (s : Fraction) (positive : IsPositive s) where
  all_lie : (ranges : List (Interval Ratio)) (values : List (Delta Ratio)) (xs : List Ratio) → length values ≡ length ranges → ((p : ℕ) → p < length ranges → HasPair (span_at (map closed_pairs ranges) p) (parts_at (map pair values) p)) → AreSmall ranges values s → AreAt s values xs → (p : ℕ) → p < length ranges → HasNumber (interval_at ranges p) (number_at xs p)
  all_lie [] values xs long has small h p l = absurd (omega arith)
  all_lie (range ∷ ranges) [] xs long has small h p l = absurd (omega (arith, long))
  all_lie (range ∷ ranges) (value ∷ values) [] long has small h p l = absurd h
  all_lie (range ∷ ranges) (value ∷ values) (x ∷ xs) long has small h zero l = same_lies (numbers_of range) (at (pair value) s) (fraction_of x) (same-sym (fraction_of x) (at (pair value) s) h.0) (small_solves range (pair value) s (has 0 l) positive small.0)
  all_lie (range ∷ ranges) (value ∷ values) (x ∷ xs) long has small h (suc p) l = all_lie ranges values xs (omega (arith, long)) (λ q m. has (suc q) (omega arith)) small.1 h.1 p (omega arith)

pub solutions_solve : NumbersOfSolutionsSolve
solutions_solve rows ranges values xs solved numbers =
    let many = length-map ranges closed_pairs in
    let each = length-map values pair in
    let same : length values ≡ length ranges = omega (arith, many, each, solved.each) in
    let s = numbers.small in
    let from = at_each s values xs numbers.at_small in
    record {
      each = as_many s values xs numbers.at_small ∙ same;
      within = all_lie s numbers.positive ranges values xs same (λ p l. solved.within p (omega (arith, many, l))) numbers.enough numbers.at_small;
      met = λ i l.
          let total = row_total (row_at rows i) (parts_at (map pair values)) in
          same-trans (number_total (row_at rows i) (number_at xs)) (at total s) (whole (pos 0))
          (same-sym (at total s) _ (at_row (row_at rows i) (parts_at (map pair values)) (number_at xs) s from))
          (same-trans (at total s) (at zero_parts s) (whole (pos 0)) (keeps_same total zero_parts s (solved.met i l)) (none_at s));
    }

-- where values have room, no numbers but for want of memory
pub none_made : {X : Type 0} (numbers : X → List Ratio) (rows : List (List (ℕ × Bool))) (ranges : List (Interval Ratio)) (w : Width) (r : Result X Halt) (e : Halt) → r ≡ Err e → HaveRoom numbers w r → SolvesRanges rows ranges (Err e)
none_made numbers rows ranges w r e is h = by e (subst (HaveRoom numbers w) is h)
  where
    by : (e : Halt) → HaveRoom numbers w (Err e) → SolvesRanges rows ranges (Err e)
    by Memory h = tt
    by (Wide operation) h = absurd h
