-- The operations of the first corner give its factors and values.
use Rattle.std.proofs.Common.{◌≡◌, ℕ, zero, suc, ◌+◌, ◌-◌, ◌*◌, ◌<◌, ◌≤◌, Bool, true, false, cond, ℤ, pos, ◌+ℤ◌, ◌*ℤ◌, List, [], ◌∷◌, length, map, eqb, refl, sym, ap, subst, ◌∙◌, arith}
use Rattle.std.specs.Prelude.{filter}
use Rattle.std.proofs.lemmas.Int.{ints}
use Rattle.std.proofs.Math.ListN.{get_or-map}
use Rattle.std.proofs.lemmas.List.{length-map}
use Rattle.std.proofs.Math.Nat.{mul-pos}
use Rattle.xc_interval.specs.Intervals.{between}
use Rattle.xc_model.specs.Ratio.{Ratio, IsOver}
use Rattle.xc_model.proofs.Rescaled.{over_same_number, over_scaled, over_same_den}
use Rattle.xc_corners.specs.Choices.{first_corner}
use Rattle.xc_corners.specs.Corners.{variables, low_bound, bound, value, spread}
use Rattle.xc_corners.specs.Operations.{AddsUp, IsSumOf, weights_of_range, entries_of, IsFactor, IsValuePart, IsLowPart, IsLowSum, part}
use Rattle.xc_corners.specs.Pairs.{sum_below}
use Rattle.xc_corners.specs.Problems.{total, unit_at, row_at}
use Rattle.xc_corners.specs.Tables.{first_factors}
use Rattle.xc_corners.specs.WholeNumbers.{whole_problem, product_of_denominators, times_common, ends_of, weights_of}
use Rattle.xc_corners.specs.declared.problem.Problem.{Problem}
use Rattle.xc_corners.proofs.CommonDenominators.{Divides, AllDivide, common_positive, is_times_common, weights_divide}
use Rattle.xc_corners.proofs.ExchangeNumbers.{sum_gives, product_gives}
use Rattle.xc_corners.proofs.FirstCorner.{first_basic, first_other, first_sum_below}
use Rattle.xc_corners.proofs.StepNumbers.{value_part}
use Rattle.xc_corners.proofs.Values.{spread_at_basic, spread_at_other}

-- what the entries count for range j, times d
abbrev counted : ℕ → List (ℕ × Ratio) → ℕ → ℤ
counted d entries j = total (map (λ (entry : ℕ × Ratio). (entry.0, times_common d entry.1)) entries) (unit_at j)

module _ (d : ℕ) (h : 0 < d) (j : ℕ) (s : Ratio) where
  -- one entry more
  one_weight : (entry : ℕ × Ratio) (entries : List (ℕ × Ratio)) (f : Ratio) (n : ℤ) (b : Bool) → eqb entry.0 j ≡ b → Divides d entry.1
      → ((f : Ratio) (n : ℤ) → AddsUp (weights_of_range entries j) f s → IsOver f n d → IsOver s (n +ℤ counted d entries j) d)
      → AddsUp (map (λ (entry : ℕ × Ratio). entry.1) (cond (eqb entry.0 j) (entry ∷ filter (λ e. eqb e.0 j) entries) (filter (λ e. eqb e.0 j) entries))) f s → IsOver f n d
      → IsOver s (n +ℤ (times_common d entry.1 *ℤ cond (eqb entry.0 j) (pos 1) (pos 0) +ℤ counted d entries j)) d
  one_weight entry entries f n true k a step = rw k (λ (e : AddsUp (entry.1 ∷ weights_of_range entries j) f s) (o : IsOver f n d).
      over_same_number s _ _ d (step e.0 (n +ℤ times_common d entry.1) e.2 (sum_gives f entry.1 e.0 n (times_common d entry.1) d o (is_times_common d entry.1 h a) e.1)) (omega (arith, ints)))
  one_weight entry entries f n false k a step = rw k (λ (e : AddsUp (weights_of_range entries j) f s) (o : IsOver f n d). over_same_number s _ _ d (step f n e o) (omega (arith, ints)))

  -- the weights of a range, added to n / d
  weights_add : (entries : List (ℕ × Ratio)) (f : Ratio) (n : ℤ) → AllDivide d entries → AddsUp (weights_of_range entries j) f s → IsOver f n d → IsOver s (n +ℤ counted d entries j) d
  weights_add [] f n a e o = over_same_number s n _ d (subst (λ r. IsOver r n d) e o) (omega (arith, ints))
  weights_add (entry ∷ entries) f n a e o = one_weight entry entries f n (eqb entry.0 j) refl a.0 (λ f n e o. weights_add entries f n a.1 e o) e o

pub row_whole : (problem : Problem) (i : ℕ) → row_at (whole_problem problem) i ≡ map (λ entry. (entry.0, times_common (product_of_denominators (weights_of problem.rows)) entry.1)) (entries_of problem i)
unfolding whole_problem
row_whole problem i = get_or-map (map (λ (entry : ℕ × Ratio). (entry.0, times_common (product_of_denominators (weights_of problem.rows)) entry.1))) problem.rows i []

zero_cross : (n : ℤ) → pos 0 +ℤ n ≡ n
zero_cross n = omega (arith, ints)

-- the sum of the weights of a range is its factor
pub row_factor : (problem : Problem) (i j : ℕ) (f : Ratio) → IsSumOf (weights_of_range (entries_of problem i) j) f → IsOver f (total (row_at (whole_problem problem) i) (unit_at j)) (whole_problem problem).scale
unfolding whole_problem
row_factor problem i j f o =
    let d = product_of_denominators (weights_of problem.rows) in
    let p = common_positive (weights_of problem.rows) in
    let zero_over : IsOver o.zero (pos 0) d = over_same_den o.zero (pos 0) (d * 1) d (over_same_number o.zero _ (pos 0) (d * 1) (over_scaled o.zero (pos 0) 1 d p o.is_zero) (omega (arith, ints))) (omega arith) in
    over_same_number f _ _ d (weights_add d p j f (entries_of problem i) o.zero (pos 0) (weights_divide problem.rows i) o.adds_up zero_over)
    (zero_cross _ ∙ ap (λ (row : List (ℕ × ℤ)). total row (unit_at j)) (sym (row_whole problem i)))

pub ranges_whole : (problem : Problem) → length (whole_problem problem).ranges ≡ length problem.ranges
unfolding whole_problem
ranges_whole problem = length-map problem.ranges (between (times_common (product_of_denominators (ends_of problem.ranges))))

pub rows_whole : (problem : Problem) → length (whole_problem problem).rows ≡ length problem.rows
unfolding whole_problem
rows_whole problem = length-map problem.rows (map (λ (entry : ℕ × Ratio). (entry.0, times_common (product_of_denominators (weights_of problem.rows)) entry.1)))

pub first_factor : (problem : Problem) (i j : ℕ) (f : Ratio) → IsSumOf (weights_of_range (entries_of problem i) j) f → IsFactor (first_factors (whole_problem problem)) (length problem.ranges + i) j f
unfolding first_factors
first_factor problem i j f o = over_same_number f _ _ _ (row_factor problem i j f o)
    (ap (λ (k : ℕ). total (row_at (whole_problem problem) k) (unit_at j)) (let back : i ≡ length problem.ranges + i - length (whole_problem problem).ranges = omega (arith, ranges_whole problem) in back))

pub scale_positive : (problem : Problem) → 0 < (whole_problem problem).scale
unfolding whole_problem
scale_positive problem = common_positive (weights_of problem.rows)

pub unit_positive : (problem : Problem) → 0 < (whole_problem problem).unit
unfolding whole_problem
unit_positive problem = common_positive (ends_of problem.ranges)

-- the partial sums of a first value
low_sum : (problem : Problem) (i : ℕ) (c : Bool) (n : ℕ) (s : Ratio) → IsLowSum problem i c n s
    → IsOver s (sum_below n (λ j. total (row_at (whole_problem problem) i) (unit_at j) *ℤ part c (low_bound (whole_problem problem) j))) ((whole_problem problem).scale * (whole_problem problem).unit)
low_sum problem i c zero s h =
    let k = (whole_problem problem).scale * (whole_problem problem).unit in
    over_same_den s (pos 0) (k * 1) k (over_same_number s _ (pos 0) (k * 1) (over_scaled s (pos 0) 1 k (mul-pos (scale_positive problem) (unit_positive problem)) h) (omega (arith, ints))) (omega arith)
low_sum problem i c (suc n) s (r, m, hr, hm, g) =
    sum_gives r m s _ _ _ (low_sum problem i c n r hr)
    (product_gives hm.factor hm.low m _ _ _ (whole_problem problem).scale (whole_problem problem).unit _ (row_factor problem i n hm.factor hm.is_factor) hm.is_low
    (record { positive = mul-pos (scale_positive problem) (unit_positive problem); cross = refl }) hm.gives) g

variables_whole : (problem : Problem) (i : ℕ) → i < length problem.rows → length problem.ranges + i < variables (whole_problem problem)
unfolding variables
variables_whole problem i h = omega (arith, ranges_whole problem, rows_whole problem)

value_at_first : (problem : Problem) (c : Bool) (j : ℕ) → part c (value (whole_problem problem) (first_corner (whole_problem problem)) (first_factors (whole_problem problem)) j)
    ≡ spread (whole_problem problem) (first_corner (whole_problem problem)) (first_factors (whole_problem problem)) (λ k. part c (low_bound (whole_problem problem) k)) j
unfolding bound first_corner
value_at_first problem c j = value_part (whole_problem problem) (first_corner (whole_problem problem)) (first_factors (whole_problem problem)) c j

-- the sum of the products of all ranges is the value of the row
pub first_row_value : (problem : Problem) (i : ℕ) (c : Bool) (s : Ratio) → i < length problem.rows → IsLowSum problem i c (length problem.ranges) s
    → IsValuePart (whole_problem problem) (first_corner (whole_problem problem)) (first_factors (whole_problem problem)) c (length problem.ranges + i) s
unfolding first_factors
first_row_value problem i c s h o =
    let p = whole_problem problem in
    let t = first_factors p in
    let b = length problem.ranges + i in
    let index : b - length p.ranges ≡ i = omega (arith, ranges_whole problem) in
    let low : length p.ranges ≤ b = omega (arith, ranges_whole problem) in
    let high : b < variables p = variables_whole problem i h in
    over_same_number s _ _ _ (low_sum problem i c (length problem.ranges) s o)
    (ap (λ (n : ℕ). sum_below n (λ j. total (row_at p i) (unit_at j) *ℤ part c (low_bound p j))) (sym (ranges_whole problem))
    ∙ ap (λ (k : ℕ). sum_below (length p.ranges) (λ j. total (row_at p k) (unit_at j) *ℤ part c (low_bound p j))) (sym index)
    ∙ sym (first_sum_below p t b (λ j. part c (low_bound p j)) low high)
    ∙ sym (spread_at_basic p (first_corner p) t (λ j. part c (low_bound p j)) b (first_basic p b low high))
    ∙ sym (value_at_first problem c b))

-- and a range has its low bound
pub first_range_value : (problem : Problem) (c : Bool) (j : ℕ) (f : Ratio) → j < length problem.ranges → IsLowPart problem c j f
    → IsValuePart (whole_problem problem) (first_corner (whole_problem problem)) (first_factors (whole_problem problem)) c j f
unfolding first_factors bound first_corner
first_range_value problem c j f h o =
    over_same_number f _ _ _ (over_scaled f _ (whole_problem problem).unit (whole_problem problem).scale (scale_positive problem) o)
    (sym (value_part (whole_problem problem) (first_corner (whole_problem problem)) (first_factors (whole_problem problem)) c j
    ∙ spread_at_other (whole_problem problem) (first_corner (whole_problem problem)) (first_factors (whole_problem problem)) (λ k. part c (bound (whole_problem problem) (first_corner (whole_problem problem)) k)) j (first_other (whole_problem problem) j (let k : j < length (whole_problem problem).ranges = omega (arith, ranges_whole problem) in k))))

pub counts_variables : (problem : Problem) → (length (whole_problem problem).ranges ≡ length problem.ranges) × (variables (whole_problem problem) ≡ length problem.ranges + length problem.rows) × (length (whole_problem problem).rows ≡ length problem.rows)
unfolding variables
counts_variables problem = (ranges_whole problem, omega (arith, ranges_whole problem, rows_whole problem), rows_whole problem)
