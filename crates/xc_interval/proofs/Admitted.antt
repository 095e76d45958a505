-- The ends of a reported fact's interval let in exactly what the table admits.
use Rattle.std.proofs.Common.{◌≡◌, ℕ, zero, suc, ◌*◌, ◌<◌, ◌≤◌, ◌^◌, ℤ, pos, negsuc, ◌+ℤ◌, ◌-ℤ◌, ◌*ℤ◌, neg_ℤ, ◌≤ℤ◌, ◌<ℤ◌, arith, refl, sym, ap, ◌∙◌, inl, inr, Option, Some, None}
use Rattle.std.specs.Prelude.{unsigned_abs, ◌↔◌}
use Rattle.std.proofs.lemmas.Int.{ints, by_lt_z}
use Rattle.std.proofs.Math.Nat.{mul-pos}
use Rattle.xc_model.specs.Fraction.{Fraction, SameNumber, IsBelow, whole, neg_of, sum_of, difference_of}
use Rattle.xc_model.specs.Order.{SameSign}
use Rattle.xc_model.specs.Ratio.{Ratio, fraction_of, IsOver}
use Rattle.xc_model.proofs.Arithmetic.{sum-comm, sum-zero, below-sum}
use Rattle.xc_model.proofs.Integers.{ring, neg-mul, cancel_lt, scale_lt, scale_le}
use Rattle.xc_model.proofs.Numbers.{same-refl, same-sym, same-trans, same-sum}
use Rattle.xc_model.proofs.Over.{over_same, sign_over}
use Rattle.xc_model.proofs.Orders.{number_order}
use Rattle.xc_interval.specs.Admits.{ten_to, excess, IsRounded, IsTruncated, Admits}
use Rattle.xc_interval.specs.Ends.{value_of, is_open}
use Rattle.xc_interval.specs.Intervals.{IsAtMost, IsPast, IsBefore, HasNumber}
use Rattle.xc_interval.specs.Powers.{ten_to_positive}
use Rattle.xc_interval.specs.Reported.{unit_of, half_of, rounded, truncated, reported, IsSameEnd, IsSameInterval}
use Rattle.xc_interval.specs.declared.ends.End.{End}
use Rattle.xc_interval.specs.declared.ends.End.TheVariants.{Closed, Open}
use Rattle.xc_interval.specs.declared.interval.Interval.{Interval}
use Rattle.xc_interval.specs.declared.mode.Mode.{Mode}
use Rattle.xc_interval.specs.declared.mode.Mode.TheVariants.{Rounding, Truncation}
use Rattle.xc_interval.proofs.Groups as groups
use Rattle.xc_interval.proofs.Numbers.{number_group}
use Rattle.xc_interval.proofs.Passing.{ends_above, ends_below, ends_zero}
use Rattle.xc_interval.proofs.Sides.{Past, Before, past_of, past_from, before_of, before_from}

-- A magnitude against a bound

abs_at_most : (e : ℕ) (u : ℤ) (k : ℕ) → (e * unsigned_abs u ≤ k) ↔ ((neg_ℤ (pos k) ≤ℤ (pos e *ℤ u)) × ((pos e *ℤ u) ≤ℤ pos k))
abs_at_most e (pos n) k = (λ h. (omega (arith, ints), omega (arith, ints)), λ h. omega (arith, ints, h.0, h.1))
abs_at_most e (negsuc n) k = (λ h. (omega (arith, ints), omega (arith, ints)), λ h. omega (arith, ints, h.0, h.1))

abs_below : (e : ℕ) (u : ℤ) (k : ℕ) → (e * unsigned_abs u < k) ↔ ((neg_ℤ (pos k) <ℤ (pos e *ℤ u)) × ((pos e *ℤ u) <ℤ pos k))
abs_below e (pos n) k = (λ h. (omega (arith, ints), omega (arith, ints)), λ h. omega (arith, ints, h.0, h.1))
abs_below e (negsuc n) k = (λ h. (omega (arith, ints), omega (arith, ints)), λ h. omega (arith, ints, h.0, h.1))

-- A number p/q against g/t moved by f/e, over the excess p t - g q

moved_up : (e p t g q f : ℤ) → (g *ℤ e +ℤ f *ℤ t) *ℤ q +ℤ e *ℤ (p *ℤ t -ℤ g *ℤ q) ≡ p *ℤ (t *ℤ e) +ℤ f *ℤ (t *ℤ q)
moved_up e p t g q f = simp ring (omega (arith, ints))

moved_down : (e p t g q f : ℤ) → p *ℤ (t *ℤ e) ≡ (g *ℤ e +ℤ neg_ℤ f *ℤ t) *ℤ q +ℤ (e *ℤ (p *ℤ t -ℤ g *ℤ q) +ℤ f *ℤ (t *ℤ q))
moved_down e p t g q f = simp ring (omega (arith, ints))

scale_is : (f t q : ℕ) → pos (f * t * q) ≡ pos f *ℤ (pos t *ℤ pos q)
scale_is f t q = omega (arith, ints)

module _ (e f t q : ℕ) (g p : ℤ) where
  -- g/t + f/e
  abbrev up : ℤ
  up = g *ℤ pos e +ℤ pos f *ℤ pos t

  -- g/t - f/e
  abbrev down : ℤ
  down = g *ℤ pos e +ℤ neg_ℤ (pos f) *ℤ pos t

  abbrev by : ℤ
  by = p *ℤ pos t -ℤ g *ℤ pos q

  up_at_most : ((p *ℤ pos (t * e)) ≤ℤ (up *ℤ pos q)) ↔ ((pos e *ℤ by) ≤ℤ pos (f * t * q))
  up_at_most = (
    λ h. omega (arith, ints, h, moved_up (pos e) p (pos t) g (pos q) (pos f), scale_is f t q),
    λ h. omega (arith, ints, h, moved_up (pos e) p (pos t) g (pos q) (pos f), scale_is f t q),
  )

  up_below : ((p *ℤ pos (t * e)) <ℤ (up *ℤ pos q)) ↔ ((pos e *ℤ by) <ℤ pos (f * t * q))
  up_below = (
    λ h. omega (arith, ints, h, moved_up (pos e) p (pos t) g (pos q) (pos f), scale_is f t q),
    λ h. omega (arith, ints, h, moved_up (pos e) p (pos t) g (pos q) (pos f), scale_is f t q),
  )

  down_at_most : ((down *ℤ pos q) ≤ℤ (p *ℤ pos (t * e))) ↔ (neg_ℤ (pos (f * t * q)) ≤ℤ (pos e *ℤ by))
  down_at_most = (
    λ h. omega (arith, ints, h, moved_down (pos e) p (pos t) g (pos q) (pos f), scale_is f t q),
    λ h. omega (arith, ints, h, moved_down (pos e) p (pos t) g (pos q) (pos f), scale_is f t q),
  )

  down_below : ((down *ℤ pos q) <ℤ (p *ℤ pos (t * e))) ↔ (neg_ℤ (pos (f * t * q)) <ℤ (pos e *ℤ by))
  down_below = (
    λ h. omega (arith, ints, h, moved_down (pos e) p (pos t) g (pos q) (pos f), scale_is f t q),
    λ h. omega (arith, ints, h, moved_down (pos e) p (pos t) g (pos q) (pos f), scale_is f t q),
  )

-- Being at most, by cross products

at_most_of : (x y : Fraction) → IsAtMost IsBelow SameNumber x y → (x.num *ℤ pos y.den) ≤ℤ (y.num *ℤ pos x.den)
at_most_of x y (inl below) = omega (arith, ints, below.cross)
at_most_of x y (inr same) = omega (arith, ints, same.cross)

at_most_from : (x y : Fraction) → (x.num *ℤ pos y.den) ≤ℤ (y.num *ℤ pos x.den) → IsAtMost IsBelow SameNumber x y
at_most_from x y h = go (x.num *ℤ pos y.den) (y.num *ℤ pos x.den) h (λ below. inl (record { cross = below })) (λ same. inr (record { cross = same }))
  where
    go : {G : Type 0} (a b : ℤ) → a ≤ℤ b → (a <ℤ b → G) → (a ≡ b → G) → G
    go a b h less same = by_lt_z a b less (λ above. same (omega (arith, ints)))

-- the sign of a product with a number that is not negative
not_negative : (e : ℕ) (u : ℤ) → pos 0 ≤ℤ u → pos 0 ≤ℤ (pos e *ℤ u)
not_negative e u h = omega (arith, ints, scale_le (pos e) (pos 0) u (omega (arith, ints)) h)

not_positive : (e : ℕ) (u : ℤ) → u ≤ℤ pos 0 → (pos e *ℤ u) ≤ℤ pos 0
not_positive e u h = omega (arith, ints, scale_le (pos e) u (pos 0) (omega (arith, ints)) h)

-- The table, for the value g/t with t = 10 ^ s

module _ (d g : ℤ) (s : ℕ) (p : ℤ) (q : ℕ) (some : 0 < q) where
  abbrev t : ℕ
  t = 10 ^ s

  abbrev value : Fraction
  value = record { num = g; den = 10 ^ s; positive = ten_to_positive (pos s) }

  abbrev x : Fraction
  x = record { num = p; den = q; positive = some }

  -- the half unit and the unit as f/e
  abbrev f : ℕ
  f = ten_to (neg_ℤ d)

  rounded_of : HasNumber (rounded d value) x → IsRounded d g s p q
  rounded_of h =
      (abs_at_most (2 * ten_to d) (excess g s p q) (f * t * q)).1 (
        (down_at_most (2 * ten_to d) f t q g p).0 (at_most_of (difference_of value (half_of d)) x h.low),
        (up_at_most (2 * ten_to d) f t q g p).0 (at_most_of x (sum_of value (half_of d)) h.high),
      )

  rounded_from : IsRounded d g s p q → HasNumber (rounded d value) x
  rounded_from h =
      let both = (abs_at_most (2 * ten_to d) (excess g s p q) (f * t * q)).0 h in
      record {
        low = at_most_from (difference_of value (half_of d)) x ((down_at_most (2 * ten_to d) f t q g p).1 both.0);
        high = at_most_from x (sum_of value (half_of d)) ((up_at_most (2 * ten_to d) f t q g p).1 both.1);
      }

  -- p/q is at least the value where the excess is not negative
  past_value : IsAtMost IsBelow SameNumber value x → pos 0 ≤ℤ excess g s p q
  past_value h = omega (arith, ints, at_most_of value x h)

  value_past : pos 0 ≤ℤ excess g s p q → IsAtMost IsBelow SameNumber value x
  value_past h = at_most_from value x (omega (arith, ints, h))

  before_value : IsAtMost IsBelow SameNumber x value → excess g s p q ≤ℤ pos 0
  before_value h = omega (arith, ints, at_most_of x value h)

  value_before : excess g s p q ≤ℤ pos 0 → IsAtMost IsBelow SameNumber x value
  value_before h = at_most_from x value (omega (arith, ints, h))

  -- less than a unit above or below the value
  above_unit : IsBelow x (sum_of value (unit_of d)) ↔ ((pos (ten_to d) *ℤ excess g s p q) <ℤ pos (f * t * q))
  above_unit = (λ h. (up_below (ten_to d) f t q g p).0 h.cross, λ h. record { cross = (up_below (ten_to d) f t q g p).1 h })

  below_unit : IsBelow (difference_of value (unit_of d)) x ↔ (neg_ℤ (pos (f * t * q)) <ℤ (pos (ten_to d) *ℤ excess g s p q))
  below_unit = (λ h. (down_below (ten_to d) f t q g p).0 h.cross, λ h. record { cross = (down_below (ten_to d) f t q g p).1 h })

  -- an excess of one sign is within a unit where its product is
  within_above : pos 0 ≤ℤ excess g s p q → ((pos (ten_to d) *ℤ excess g s p q) <ℤ pos (f * t * q)) → ten_to d * unsigned_abs (excess g s p q) < f * t * q
  within_above h i = (abs_below (ten_to d) (excess g s p q) (f * t * q)).1 (omega (arith, ints, i, not_negative (ten_to d) (excess g s p q) h), i)

  within_below : excess g s p q ≤ℤ pos 0 → (neg_ℤ (pos (f * t * q)) <ℤ (pos (ten_to d) *ℤ excess g s p q)) → ten_to d * unsigned_abs (excess g s p q) < f * t * q
  within_below h i = (abs_below (ten_to d) (excess g s p q) (f * t * q)).1 (i, omega (arith, ints, i, not_positive (ten_to d) (excess g s p q) h))

  plus_of : HasNumber (record { low = Closed value; high = Open (sum_of value (unit_of d)) }) x ↔ ((pos 0 ≤ℤ excess g s p q) × (ten_to d * unsigned_abs (excess g s p q) < f * t * q))
  plus_of = (
    λ h. let above = past_value h.low in (above, within_above above (above_unit.0 h.high)),
    λ h. record { low = value_past h.0; high = above_unit.1 ((abs_below (ten_to d) (excess g s p q) (f * t * q)).0 h.1).1 },
  )

  minus_of : HasNumber (record { low = Open (difference_of value (unit_of d)); high = Closed value }) x ↔ ((excess g s p q ≤ℤ pos 0) × (ten_to d * unsigned_abs (excess g s p q) < f * t * q))
  minus_of = (
    λ h. let below = before_value h.high in (below, within_below below (below_unit.0 h.low)),
    λ h. record { low = below_unit.1 ((abs_below (ten_to d) (excess g s p q) (f * t * q)).0 h.1).0; high = value_before h.0 },
  )

  exact_of : HasNumber (record { low = Closed value; high = Closed value }) x ↔ (excess g s p q ≡ pos 0)
  exact_of = (
    λ h. omega (arith, ints, past_value h.low, before_value h.high),
    λ e. record { low = value_past (omega (arith, ints, e)); high = value_before (omega (arith, ints, e)) },
  )

-- Around 0

zero_excess : (e p t q : ℤ) → e *ℤ (p *ℤ t -ℤ pos 0 *ℤ q) ≡ t *ℤ (p *ℤ e)
zero_excess e p t q =
    let none : p *ℤ t -ℤ pos 0 *ℤ q ≡ p *ℤ t = omega (arith, ints) in
    let turned : e *ℤ (p *ℤ t) ≡ t *ℤ (p *ℤ e) = simp ring in
    ap (λ z. e *ℤ z) none ∙ turned

scale_out : (f t q : ℤ) → f *ℤ (t *ℤ q) ≡ t *ℤ (f *ℤ q)
scale_out f t q = simp ring

minus_out : (f t q : ℤ) → t *ℤ (neg_ℤ f *ℤ q) ≡ neg_ℤ (t *ℤ (f *ℤ q))
minus_out f t q = simp ring

module _ (d : ℤ) (s : ℕ) (p : ℤ) (q : ℕ) (some : 0 < q) where
  abbrev number : Fraction
  number = record { num = p; den = q; positive = some }

  tens : pos 0 <ℤ pos (10 ^ s)
  tens = omega (arith, ints, ten_to_positive (pos s))

  abbrev bound : ℕ
  bound = ten_to (neg_ℤ d) * 10 ^ s * q

  around_zero : HasNumber (record { low = Open (neg_of (unit_of d)); high = Open (unit_of d) }) number ↔ (ten_to d * unsigned_abs (excess (pos 0) s p q) < bound)
  around_zero =
      let e : ℤ = pos (ten_to d) in
      let f : ℤ = pos (ten_to (neg_ℤ d)) in
      let t : ℤ = pos (10 ^ s) in
      let u : ℤ = excess (pos 0) s p q in
      let scaled = zero_excess e p t (pos q) in
      let whole = scale_is (ten_to (neg_ℤ d)) (10 ^ s) q ∙ scale_out f t (pos q) in
      let minus = minus_out f t (pos q) in (
        λ h.
            let up = scale_lt t (p *ℤ e) (f *ℤ pos q) tens h.high.cross in
            let down = scale_lt t (neg_ℤ f *ℤ pos q) (p *ℤ e) tens h.low.cross in
            (abs_below (ten_to d) u bound).1 (omega (arith, ints, scaled, whole, minus, down), omega (arith, ints, scaled, whole, up)),
        λ h.
            let both = (abs_below (ten_to d) u bound).0 h in
            record {
              low = record { cross = cancel_lt t (neg_ℤ f *ℤ pos q) (p *ℤ e) tens (omega (arith, ints, scaled, whole, minus, both.0)) };
              high = record { cross = cancel_lt t (p *ℤ e) (f *ℤ pos q) tens (omega (arith, ints, scaled, whole, both.1)) };
            },
      )

-- The same intervals

same_past : (e f : End Fraction) (x : Fraction) → IsSameEnd e f → IsPast IsBelow SameNumber f x → IsPast IsBelow SameNumber e x
same_past e f x same h = past_from IsBelow SameNumber e x (moved (past_of IsBelow SameNumber f x h))
  where
    moved : Past IsBelow SameNumber (value_of f) (is_open f) x → Past IsBelow SameNumber (value_of e) (is_open e) x
    moved (inl below) = inl (number_order.alike (value_of f) x (value_of e) x (same-sym (value_of e) (value_of f) same.at) (same-refl x) below)
    moved (inr at) = inr (same-trans (value_of e) (value_of f) x same.at at.0, same.opens ∙ at.1)

same_before : (e f : End Fraction) (x : Fraction) → IsSameEnd e f → IsBefore IsBelow SameNumber f x → IsBefore IsBelow SameNumber e x
same_before e f x same h = before_from IsBelow SameNumber e x (moved (before_of IsBelow SameNumber f x h))
  where
    moved : Before IsBelow SameNumber (value_of f) (is_open f) x → Before IsBelow SameNumber (value_of e) (is_open e) x
    moved (inl below) = inl (number_order.alike x (value_of f) x (value_of e) (same-refl x) (same-sym (value_of e) (value_of f) same.at) below)
    moved (inr at) = inr (same-trans x (value_of f) (value_of e) at.0 (same-sym (value_of e) (value_of f) same.at), same.opens ∙ at.1)

turned_end : (e f : End Fraction) → IsSameEnd e f → IsSameEnd f e
turned_end e f same = record { at = same-sym (value_of e) (value_of f) same.at; opens = sym same.opens }

pub same_lies : (i j : Interval Fraction) (x : Fraction) → IsSameInterval i j → HasNumber j x → HasNumber i x
same_lies i j x same h = record { low = same_past i.low j.low x same.low h.low; high = same_before i.high j.high x same.high h.high }

lies_same : (i j : Interval Fraction) (x : Fraction) → IsSameInterval i j → HasNumber i x → HasNumber j x
lies_same i j x same h = record {
  low = same_past j.low i.low x (turned_end i.low j.low same.low) h.low;
  high = same_before j.high i.high x (turned_end i.high j.high same.high) h.high;
}

through : (e f k : End Fraction) → IsSameEnd e f → SameNumber (value_of f) (value_of k) → is_open f ≡ is_open k → IsSameEnd e k
through e f k same at opens = record { at = same-trans (value_of e) (value_of f) (value_of k) same.at at; opens = same.opens ∙ opens }

-- The value of a fraction over a power of ten

module _ (d : ℤ) (w v : Fraction) (same : SameNumber w v) (i : Interval Fraction) where
  summed : (h : Fraction) → SameNumber (sum_of w h) (sum_of v h)
  summed h = same-sum w h v h same (same-refl h)

  less : (h : Fraction) → SameNumber (difference_of w h) (difference_of v h)
  less h = same-sum w (neg_of h) v (neg_of h) same (same-refl (neg_of h))

  exact_moved : IsSameInterval i (record { low = Closed w; high = Closed w }) → IsSameInterval i (record { low = Closed v; high = Closed v })
  exact_moved h = record { low = through i.low (Closed w) (Closed v) h.low same refl; high = through i.high (Closed w) (Closed v) h.high same refl }

  rounded_moved : IsSameInterval i (rounded d w) → IsSameInterval i (rounded d v)
  rounded_moved h = record {
    low = through i.low (Closed (difference_of w (half_of d))) (Closed (difference_of v (half_of d))) h.low (less (half_of d)) refl;
    high = through i.high (Closed (sum_of w (half_of d))) (Closed (sum_of v (half_of d))) h.high (summed (half_of d)) refl;
  }

  truncated_moved : (n g : ℤ) → SameSign n g → IsSameInterval i (truncated n d w) → IsSameInterval i (truncated g d v)
  truncated_moved (pos zero) g sign h = ends_zero d v i g (sign.zero.0 refl) h
  truncated_moved (pos (suc n)) g sign h = ends_above d v i g (sign.above.0 (omega (arith, ints))) (record {
    low = through i.low (Closed w) (Closed v) h.low same refl;
    high = through i.high (Open (sum_of w (unit_of d))) (Open (sum_of v (unit_of d))) h.high (summed (unit_of d)) refl;
  })
  truncated_moved (negsuc n) g sign h = ends_below d v i g (sign.below.0 (omega (arith, ints))) (record {
    low = through i.low (Open (difference_of w (unit_of d))) (Open (difference_of v (unit_of d))) h.low (less (unit_of d)) refl;
    high = through i.high (Closed w) (Closed v) h.high same refl;
  })

truncated_table : (d g : ℤ) (s : ℕ) (p : ℤ) (q : ℕ) (some : 0 < q) → HasNumber (truncated g d (value d g s p q some)) (x d g s p q some) ↔ IsTruncated d g s p q
truncated_table d (pos zero) s p q some = around_zero d s p q some
truncated_table d (pos (suc n)) s p q some = plus_of d (pos (suc n)) s p q some
truncated_table d (negsuc n) s p q some = minus_of d (negsuc n) s p q some

module _ (v : Ratio) (g : ℤ) (s : ℕ) (is_over : IsOver v g (10 ^ s)) (i : Interval Fraction) (p : ℤ) (q : ℕ) (some : 0 < q) where
  at : SameNumber (fraction_of v) (record { num = g; den = 10 ^ s; positive = ten_to_positive (pos s) })
  at = over_same v g (10 ^ s) (ten_to_positive (pos s)) is_over

  -- an interval with the ends of the fact's has exactly the numbers that the table admits
  pub admits : (mode : Mode) (decimals : Option ℤ) → IsSameInterval i (reported mode decimals (fraction_of v)) → Admits mode decimals g s p q ↔ HasNumber i (record { num = p; den = q; positive = some })
  admits mode None h =
      let moved = exact_moved (pos 0) (fraction_of v) _ at i h in
      let table = exact_of (pos 0) g s p q some in
      (λ a. same_lies i _ _ moved (table.1 a), λ l. table.0 (lies_same i _ _ moved l))
  admits Rounding (Some d) h =
      let moved = rounded_moved d (fraction_of v) _ at i h in
      (λ a. same_lies i _ _ moved (rounded_from d g s p q some a), λ l. rounded_of d g s p q some (lies_same i _ _ moved l))
  admits Truncation (Some d) h =
      let moved = truncated_moved d (fraction_of v) _ at i v.num g (sign_over v g (10 ^ s) is_over) h in
      let table = truncated_table d g s p q some in
      (λ a. same_lies i _ _ moved (table.1 a), λ l. table.0 (lies_same i _ _ moved l))

-- The value itself lies there

unit_positive : (d : ℤ) → IsBelow (whole (pos 0)) (unit_of d)
unit_positive d = record { cross = omega (arith, ints, ten_to_positive (neg_ℤ d)) }

half_positive : (d : ℤ) → IsBelow (whole (pos 0)) (half_of d)
half_positive d = record { cross = omega (arith, ints, ten_to_positive (neg_ℤ d)) }

more : (w h : Fraction) → IsBelow (whole (pos 0)) h → IsBelow w (sum_of w h)
more w h some =
    let start : SameNumber (sum_of (whole (pos 0)) w) w = same-trans _ _ _ (sum-comm (whole (pos 0)) w) (sum-zero w) in
    number_order.alike _ _ w (sum_of w h) start (sum-comm h w) (below-sum w (whole (pos 0)) h some)

fewer : (w h : Fraction) → IsBelow (whole (pos 0)) h → IsBelow (difference_of w h) w
fewer w h some =
    groups.left_over IsBelow SameNumber sum_of neg_of (whole (pos 0)) number_group IsBelow number_order.alike below-sum w h w (more w h some)

zero_above : (f e b : ℕ) (n : ℤ) → 0 < f * b → n ≡ pos 0 → (neg_ℤ (pos f) *ℤ pos b) <ℤ (n *ℤ pos e)
zero_above f e b n some is =
    let none : n *ℤ pos e ≡ pos 0 = ap (λ z. z *ℤ pos e) is ∙ omega (arith, ints) in
    let whole : pos f *ℤ pos b ≡ pos (f * b) = refl in
    omega (arith, ints, none, some, whole, neg-mul (pos f) (pos b))

zero_below : (f e b : ℕ) (n : ℤ) → 0 < f * b → n ≡ pos 0 → (n *ℤ pos e) <ℤ (pos f *ℤ pos b)
zero_below f e b n some is =
    let none : n *ℤ pos e ≡ pos 0 = ap (λ z. z *ℤ pos e) is ∙ omega (arith, ints) in
    let whole : pos f *ℤ pos b ≡ pos (f * b) = refl in
    omega (arith, ints, none, some, whole)

zero_near : (d : ℤ) (w : Fraction) → w.num ≡ pos 0 → HasNumber (record { low = Open (neg_of (unit_of d)); high = Open (unit_of d) }) w
zero_near d w e =
    let some : 0 < ten_to (neg_ℤ d) * w.den = mul-pos (ten_to_positive (neg_ℤ d)) w.positive in
    record {
      low = record { cross = zero_above (ten_to (neg_ℤ d)) (ten_to d) w.den w.num some e };
      high = record { cross = zero_below (ten_to (neg_ℤ d)) (ten_to d) w.den w.num some e };
    }

value_in_truncated : (n d : ℤ) (w : Fraction) → n ≡ w.num → HasNumber (truncated n d w) w
value_in_truncated (pos zero) d w e = zero_near d w (sym e)
value_in_truncated (pos (suc n)) d w e = record { low = inr (same-refl w); high = more w (unit_of d) (unit_positive d) }
value_in_truncated (negsuc n) d w e = record { low = fewer w (unit_of d) (unit_positive d); high = inr (same-refl w) }

pub value_in : (mode : Mode) (decimals : Option ℤ) (w : Fraction) → HasNumber (reported mode decimals w) w
value_in mode None w = record { low = inr (same-refl w); high = inr (same-refl w) }
value_in Rounding (Some d) w = record { low = inl (fewer w (half_of d) (half_positive d)); high = inl (more w (half_of d) (half_positive d)) }
value_in Truncation (Some d) w = value_in_truncated w.num d w refl
