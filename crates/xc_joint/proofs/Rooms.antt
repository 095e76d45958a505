-- Values with room: nothing passes on the way to the small number.
use Rattle.std.proofs.Common.{◌≡◌, ℕ, zero, suc, ◌+◌, ◌*◌, ◌<◌, ◌≤◌, ◌^◌, ℤ, pos, ◌+ℤ◌, ◌-ℤ◌, ◌*ℤ◌, ◌<ℤ◌, List, [], ◌∷◌, length, Result, Ok, Err, sym, ap, subst, ◌∙◌, arith, refl, lit<}
use Rattle.std.specs.Prelude.{unsigned_abs, IsOk, IfOk, IsOkAnd}
use Rattle.std.proofs.Math.Nat.{mul-pos, mul-le-mul_left}
use Rattle.std.proofs.lemmas.Int.{ints, unsigned_abs-mul}
use Rattle.xc_frac.specs.declared.delta.Delta.{Delta}
use Rattle.xc_interval.specs.declared.interval.Interval.{Interval}
use Rattle.xc_joint.specs.Widths.{Width, AreWithin, HasRoom, HaveParts, IsWithin, IsOverFactor}
use Rattle.xc_joint.specs.Steps.Gaps.{AreTiny}
use Rattle.xc_joint.proofs.Evaluated.{over_multiple}
use Rattle.xc_model.specs.Fraction.{IsBelow, IsNumberOver, IsProductOver, IsQuotientOver, SameNumber, whole}
use Rattle.xc_model.specs.Ratio.{Ratio, IsOver, fraction_of}
use Rattle.xc_model.specs.Width.{IsNarrow}
use Rattle.xc_model.proofs.Integers.{ring}
use Rattle.xc_model.proofs.NumbersOver.{below_number, number_over, over_number}

pub not_err : {X E : Type 0} (r : Result X E) {e : E} → IsOk r → r ≡ Err e → ⊥
not_err (Ok x) ok is = cc
not_err (Err d) ok is = absurd (let k = ok in cc)

-- ---- sizes

pub powers : (2 ^ 126) + (2 ^ 126) ≡ 2 ^ 127
powers = refl

module _ (w : Width) (room : HasRoom w) where
  pub all_small : 4 * (w.d + w.r) ≤ 2 ^ 126
  all_small = omega (arith, room)

  -- d times a factor
  pub factor_small : (t : ℕ) → t ≤ w.n + 1 → 2 * (w.d * t) ≤ 2 ^ 126
  factor_small t few = let le = mul-le-mul_left w.d few in omega (arith, room, le)

  pub points_small : 0 < w.d → 2 * w.n + 4 ≤ 2 ^ 126
  points_small p = let some : 1 ≤ w.d + w.r = omega (arith, p) in let le = mul-le-mul_left (2 * w.n + 4) some in omega (arith, room, le)

-- ---- gaps

difference_size : (g m : ℤ) → unsigned_abs (g -ℤ m) ≤ unsigned_abs g + unsigned_abs m
difference_size g m = omega (arith, ints)

times_one : (a : ℤ) → a *ℤ pos 1 ≡ a
times_one a = omega (arith, ints)

-- the gap of two real parts
pub record IsGap (w : Width) (g m : ℤ) : Type 0 where
  pub g_narrow : IsNarrow g
  pub m_narrow : IsNarrow m
  pub narrow : IsNarrow (g -ℤ m)
  pub small : unsigned_abs (g -ℤ m) ≤ 2 * (w.r + w.d)

pub real_gap : (w : Width) → HasRoom w → (g m : ℤ) → unsigned_abs g ≤ w.r → unsigned_abs m ≤ w.r → IsGap w g m
real_gap w room g m small_g small_m =
    let all = all_small w room in
    let sum : unsigned_abs (g -ℤ m) ≤ unsigned_abs g + unsigned_abs m = difference_size g m in
    record {
      g_narrow = omega (arith, all, small_g, powers);
      m_narrow = omega (arith, all, small_m, powers);
      narrow = omega (arith, all, small_g, small_m, sum, powers);
      small = omega (arith, small_g, small_m, sum);
    }

-- the gap of two tiny parts
pub record IsTinyGap (h l : ℤ) : Type 0 where
  pub one : 1 < 2 ^ 127
  pub h_narrow : IsNarrow h
  pub l_narrow : IsNarrow l
  pub narrow : IsNarrow (h -ℤ l)

pub tiny_gap : (w : Width) → HasRoom w → 0 < w.d → (higher lower : Ratio) (t : AreTiny w higher lower) → IsTinyGap t.high t.low
tiny_gap w room positive higher lower t =
    let few = points_small w room positive in
    record {
      one = lit< tt;
      h_narrow = omega (arith, few, t.high_small, powers);
      l_narrow = omega (arith, few, t.low_small, powers);
      narrow = omega (arith, few, t.gap, powers);
    }

-- a positive difference
difference_is : (a b : ℤ) → b <ℤ a → a -ℤ b ≡ pos (unsigned_abs (a -ℤ b))
difference_is a b less = omega (arith, ints, less)

difference_some : (a b : ℤ) → b <ℤ a → 0 < unsigned_abs (a -ℤ b)
difference_some a b less = omega (arith, ints, less)

-- one gap over the other
pub record IsDivided (w : Width) (g m h l : ℤ) : Type 0 where
  pub factor : ℕ
  pub quotient : IsQuotientOver (g -ℤ m) w.d (h -ℤ l) 1 (g -ℤ m) (w.d * factor)
  pub den : w.d * factor < 2 ^ 127
  pub is_factor : factor ≡ unsigned_abs (h -ℤ l)
  pub top : g -ℤ m ≡ pos (unsigned_abs (g -ℤ m))

crossed : (a t d : ℤ) → (a *ℤ t) *ℤ d ≡ a *ℤ ((d *ℤ t) *ℤ pos 1)
crossed a t d =
    let one : (d *ℤ t) *ℤ pos 1 ≡ d *ℤ t = times_one (d *ℤ t) in
    let e : (a *ℤ t) *ℤ d ≡ a *ℤ (d *ℤ t) = simp ring in
    e ∙ ap (λ z. a *ℤ z) (sym one)

pub divided : (w : Width) → HasRoom w → 0 < w.d → (g m h l : ℤ) → m <ℤ g → l <ℤ h → unsigned_abs (h -ℤ l) ≤ w.n + 1 → IsDivided w g m h l
divided w room positive g m h l real tiny few =
    let t : ℕ = unsigned_abs (h -ℤ l) in
    let small = factor_small w room t few in
    record {
      factor = t;
      quotient = record {
        positive = mul-pos positive (difference_some h l tiny);
        cross = ap (λ z. ((g -ℤ m) *ℤ z) *ℤ pos w.d) (difference_is h l tiny) ∙ crossed (g -ℤ m) (pos t) (pos w.d);
      };
      den = omega (arith, small, powers);
      is_factor = refl;
      top = difference_is g m real;
    }

-- the numbers are in order as the fractions are
pub in_order : (x y : Ratio) (n m : ℤ) (d : ℕ) → IsOver x n d → IsOver y m d → IsBelow (fraction_of x) (fraction_of y) → n <ℤ m
in_order x y n m d a b less = below_number (fraction_of x) (fraction_of y) n m d (over_number x n d a) (over_number y m d b) less

pub bound_over : (w : Width) (g m h l : ℤ) (bound : Ratio) (e : IsDivided w g m h l) → IsOver bound (g -ℤ m) (w.d * e.factor) → unsigned_abs (g -ℤ m) ≤ 2 * (w.r + w.d) → unsigned_abs (h -ℤ l) ≤ w.n + 1 → IsOverFactor w w.d bound
bound_over w g m h l bound e over small few = record {
  top = unsigned_abs (g -ℤ m);
  factor = e.factor;
  over = subst (λ z. IsOver bound z (w.d * e.factor)) e.top over;
  small = small;
  few = omega (arith, few, e.is_factor);
}

-- ---- tiny parts of ends

pub is_within : (f : Ratio) (z : ℤ) → SameNumber (fraction_of f) (whole z) → unsigned_abs z ≤ 1 → IsWithin 1 1 f
is_within f z same small = record { whole = z; over = number_over f z 1 (record { positive = omega arith; cross = same.cross }); small = small }

pub end_first : (w : Width) (e v : Ratio) → IsWithin 1 1 e → IsWithin 1 w.n v → AreTiny w e v
end_first w e v a b = record {
  high = a.whole;
  low = b.whole;
  high_over = a.over;
  low_over = b.over;
  high_small = omega (arith, a.small);
  low_small = omega (arith, b.small);
  gap = let size = difference_size a.whole b.whole in omega (arith, a.small, b.small, size);
}

pub end_last : (w : Width) (v e : Ratio) → IsWithin 1 w.n v → IsWithin 1 1 e → AreTiny w v e
end_last w v e a b = record {
  high = a.whole;
  low = b.whole;
  high_over = a.over;
  low_over = b.over;
  high_small = omega (arith, a.small);
  low_small = omega (arith, b.small);
  gap = let size = difference_size a.whole b.whole in omega (arith, a.small, b.small, size);
}

pub not_err_and : {X E : Type 0} (P : X → Type 0) (r : Result X E) {e : E} → IsOkAnd r P → r ≡ Err e → ⊥
not_err_and P (Ok x) ok is = cc
not_err_and P (Err d) ok is = ok

pub ok_and : {X E : Type 0} (P : X → Type 0) (r : Result X E) → IsOk r → IfOk r P → IsOkAnd r P
ok_and P (Ok x) ok if_ok = if_ok
ok_and P (Err d) ok if_ok = absurd (let k = ok in cc)

-- ---- half of a bound, and 1

pub record IsHalved (w : Width) (top factor : ℕ) : Type 0 where
  pub quotient : IsQuotientOver (pos top) (w.d * factor) (pos 2) 1 (pos top) (w.d * 2 * factor)
  pub den : w.d * 2 * factor < 2 ^ 127
  pub narrow : IsNarrow (pos top)

pub halved : (w : Width) → HasRoom w → (f : Ratio) (o : IsOverFactor w w.d f) → IsHalved w o.top o.factor
halved w room f o =
    let all = all_small w room in
    let small = factor_small w room o.factor o.few in
    let twice : w.d * 2 * o.factor ≡ 2 * (w.d * o.factor) = omega arith in
    record {
      quotient = record { positive = omega (arith, o.over.positive, twice); cross = go (pos o.top) (pos w.d) (pos o.factor) };
      den = omega (arith, small, twice, powers);
      narrow = omega (arith, o.small, all, powers);
    }
  where
    go : (a d t : ℤ) → (a *ℤ pos 2) *ℤ (d *ℤ t) ≡ a *ℤ (((d *ℤ pos 2) *ℤ t) *ℤ pos 1)
    go a d t =
        let one : ((d *ℤ pos 2) *ℤ t) *ℤ pos 1 ≡ (d *ℤ pos 2) *ℤ t = times_one ((d *ℤ pos 2) *ℤ t) in
        let e : (a *ℤ pos 2) *ℤ (d *ℤ t) ≡ a *ℤ ((d *ℤ pos 2) *ℤ t) = simp ring in
        e ∙ ap (λ z. a *ℤ z) (sym one)

pub half_over : (w : Width) (f h : Ratio) (o : IsOverFactor w w.d f) → IsOver h (pos o.top) (w.d * 2 * o.factor) → IsOverFactor w (w.d * 2) h
half_over w f h o over = record { top = o.top; factor = o.factor; over = over; small = o.small; few = o.few }

pub one_over : (w : Width) → 0 < w.d → (one : Ratio) → SameNumber (fraction_of one) (whole (pos 1)) → IsOverFactor w (w.d * 2) one
one_over w positive one same =
    let k : ℕ = 2 * w.d in
    let number = over_multiple (fraction_of one) (pos 1) 1 k (omega (arith, positive)) (record { positive = omega arith; cross = same.cross }) in
    let den : 1 * k ≡ w.d * 2 * 1 = omega arith in
    record {
      top = k;
      factor = 1;
      over = number_over one (pos k) (w.d * 2 * 1) (subst (λ n. IsNumberOver (fraction_of one) (pos k) n) den (subst (λ z. IsNumberOver (fraction_of one) z (1 * k)) (one_times (pos k)) number));
      small = omega arith;
      few = omega arith;
    }
  where
    one_times : (a : ℤ) → pos 1 *ℤ a ≡ a
    one_times a = omega (arith, ints)

-- ---- a value as a number

pub record IsMade (w : Width) (x t : ℤ) (top factor : ℕ) : Type 0 where
  pub product : IsProductOver t 1 (pos top) (w.d * 2 * factor) (t *ℤ pos top) (w.d * 2 * factor)
  pub den : w.d * 2 * factor < 2 ^ 127
  pub t_narrow : IsNarrow (t *ℤ pos top)
  pub x_narrow : IsNarrow (x *ℤ pos (2 * factor))
  pub sum : IsNarrow (x *ℤ pos (2 * factor) +ℤ t *ℤ pos top)

pub made : (w : Width) → HasRoom w → (x t : ℤ) (f : Ratio) (o : IsOverFactor w (w.d * 2) f) → unsigned_abs x ≤ w.r → unsigned_abs t ≤ w.n → IsMade w x t o.top o.factor
made w room x t f o small_x small_t =
    let small = factor_small w room o.factor o.few in
    let twice : w.d * 2 * o.factor ≡ 2 * (w.d * o.factor) = omega arith in
    let some : 0 < w.d = factor_some w.d o.factor o.over.positive in
    let x_size : unsigned_abs (x *ℤ pos (2 * o.factor)) ≤ w.r * (2 * (w.n + 1)) = below_product x (2 * o.factor) w.r (2 * (w.n + 1)) small_x (omega (arith, o.few)) in
    let t_size : unsigned_abs (t *ℤ pos o.top) ≤ w.n * (2 * (w.r + w.d)) = below_product t o.top w.n (2 * (w.r + w.d)) small_t o.small in
    let both = sum_size (x *ℤ pos (2 * o.factor)) (t *ℤ pos o.top) in
    record {
      product = record { positive = o.over.positive; cross = ap (λ (n : ℕ). (t *ℤ pos o.top) *ℤ pos n) (one_times (w.d * 2 * o.factor)) };
      den = omega (arith, small, twice, powers);
      t_narrow = omega (arith, room, t_size, powers);
      x_narrow = omega (arith, room, x_size, powers);
      sum = omega (arith, room, x_size, t_size, both, powers, some);
    }
  where
    one_times : (n : ℕ) → 1 * n ≡ n
    one_times n = omega arith

    sum_size : (a b : ℤ) → unsigned_abs (a +ℤ b) ≤ unsigned_abs a + unsigned_abs b
    sum_size a b = omega (arith, ints)

    factor_some : (d f : ℕ) → 0 < d * 2 * f → 0 < d
    factor_some zero f h = omega (arith, h)
    factor_some (suc d) f h = omega arith

    below_product : (x : ℤ) (k a b : ℕ) → unsigned_abs x ≤ a → k ≤ b → unsigned_abs (x *ℤ pos k) ≤ a * b
    below_product x k a b h i =
        let size : unsigned_abs (x *ℤ pos k) ≡ unsigned_abs x * k = unsigned_abs-mul x (pos k) in
        let first = mul-le-mul_left (unsigned_abs x) i in
        let second = mul-le-mul_left b h in
        omega (arith, size, first, second)

-- a real part over the denominator of the numbers
pub real_over : (w : Width) (f : Ratio) (x : ℤ) (factor : ℕ) → 0 < w.d * 2 * factor → IsOver f x w.d → IsOver f (x *ℤ pos (2 * factor)) (w.d * 2 * factor)
real_over w f x factor positive over =
    let den : w.d * (2 * factor) ≡ w.d * 2 * factor = omega arith in
    number_over f (x *ℤ pos (2 * factor)) (w.d * 2 * factor) (subst (λ n. IsNumberOver (fraction_of f) (x *ℤ pos (2 * factor)) n) den (over_multiple (fraction_of f) x w.d (2 * factor) (some factor positive) (over_number f x w.d over)))
  where
    some : (factor : ℕ) → 0 < w.d * 2 * factor → 0 < 2 * factor
    some zero h = omega (arith, h)
    some (suc k) h = omega arith

-- the parts of values with room
pub parts_within : (w : Width) (ranges : List (Interval Ratio)) (values : List (Delta Ratio)) → length values ≡ length ranges → AreWithin w ranges values → HaveParts w values
parts_within w [] [] e a = tt
parts_within w [] (value ∷ values) e a = absurd (omega (arith, e))
parts_within w (range ∷ ranges) [] e a = tt
parts_within w (range ∷ ranges) (value ∷ values) e a = (record { real = a.0.real; tiny = a.0.tiny }, parts_within w ranges values (omega (arith, e)) a.1)
