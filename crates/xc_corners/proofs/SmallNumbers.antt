-- The small number is positive, and less than each quotient of margins.
use Rattle.std.proofs.Common.{◌≡◌, ℕ, ◌*◌, ◌<◌, Bool, true, false, ℤ, pos, negsuc, neg_ℤ, ◌+ℤ◌, ◌*ℤ◌, ◌≤ℤ◌, ◌<ℤ◌, length, inl, inr, refl, sym, ap, ◌∙◌, arith}
use Rattle.std.specs.Prelude.{unsigned_abs}
use Rattle.std.proofs.lemmas.Int.{ints, by_lt_z}
use Rattle.std.proofs.Math.Nat.{mul-pos}
use Rattle.xc_frac.specs.declared.wide.Op.TheVariants.{Sub}
use Rattle.xc_model.specs.Fraction.{IsBelow, IsNumberOver}
use Rattle.xc_model.specs.Ratio.{Ratio, fraction_of}
use Rattle.xc_model.proofs.Integers.{ring, scale_le, cancel_le, cancel_lt, mul_positive}
use Rattle.xc_model.proofs.Numbers.{den_positive}
use Rattle.xc_model.proofs.NumbersOver.{over_number, number_over-same, neg_number, sum_number, quotient_number}
use Rattle.xc_model.proofs.Rescaled.{over_scaled}
use Rattle.xc_corners.specs.Corners.{Corner, Factors, IsSolvedForm, value}
use Rattle.xc_corners.specs.Ending.{margin_operation, IsTight, IsMargin, IsQuotientAt, IsLeastQuotient, IsHalf, IsSmallNumber}
use Rattle.xc_corners.specs.Operations.{Gives, part, passed_bound}
use Rattle.xc_corners.specs.Problems.{WholeProblem}
use Rattle.xc_corners.specs.WholeNumbers.{whole_problem}
use Rattle.xc_corners.specs.declared.problem.Problem.{Problem}

-- what the subtraction of a bound and a value gives, in whole numbers
abbrev pub margin : Bool → Bool → ℤ → ℤ → ℤ
margin false false l v = v +ℤ neg_ℤ l
margin false true l v = l +ℤ neg_ℤ v
margin true false l v = l +ℤ neg_ℤ v
margin true true l v = v +ℤ neg_ℤ l

-- f is itself over its own denominator
pub itself : (f : Ratio) → IsNumberOver (fraction_of f) f.num (unsigned_abs f.den)
itself f = record { positive = (fraction_of f).positive; cross = refl }

to_whole : (z : ℤ) → pos 0 <ℤ z → (n : ℕ) × (0 < n) × (pos n ≡ z)
to_whole (pos n) h = (n, omega (arith, ints), refl)
to_whole (negsuc n) h = absurd (omega (arith, ints))

quotient_cross : (c e k d : ℤ) → k ≡ e → (c *ℤ e) *ℤ d ≡ c *ℤ (k *ℤ d)
quotient_cross c e k d h = rw h (simp ring)

half_cross : (r d : ℤ) → (r *ℤ pos 2) *ℤ d ≡ r *ℤ ((d *ℤ pos 2) *ℤ pos 1)
half_cross r d = turned r (pos 2) d ∙ ap (λ w. r *ℤ w) (sym (times_one (d *ℤ pos 2)))
  where
    turned : (r two d : ℤ) → (r *ℤ two) *ℤ d ≡ r *ℤ (d *ℤ two)
    turned r two d = simp ring

    times_one : (c : ℤ) → c *ℤ pos 1 ≡ c
    times_one c = omega (arith, ints)

-- ---- the order of the numbers: rn / rd is the least quotient, qn / qd that of the margins c and e, and sn / sd half of the least
below_quotient : (rn rd qn qd sn sd c e : ℤ) → pos 0 <ℤ rd → pos 0 <ℤ qd → pos 0 <ℤ sd → pos 0 <ℤ c → pos 0 <ℤ e
    → qn *ℤ e ≡ c *ℤ qd → (rn *ℤ qd) ≤ℤ (qn *ℤ rd) → sn *ℤ (rd *ℤ pos 2) ≡ rn *ℤ sd → (sn *ℤ e) <ℤ (sd *ℤ c)
below_quotient rn rd qn qd sn sd c e prd pqd psd pc pe quotient least half =
    let scaled : (e *ℤ (rn *ℤ qd)) ≤ℤ (e *ℤ (qn *ℤ rd)) = scale_le e (rn *ℤ qd) (qn *ℤ rd) (omega (arith, ints)) least in
    let left : e *ℤ (rn *ℤ qd) ≡ qd *ℤ (rn *ℤ e) = simp ring in
    let right : e *ℤ (qn *ℤ rd) ≡ (qn *ℤ e) *ℤ rd = simp ring in
    let right' : (c *ℤ qd) *ℤ rd ≡ qd *ℤ (c *ℤ rd) = simp ring in
    let moved : e *ℤ (qn *ℤ rd) ≡ qd *ℤ (c *ℤ rd) = right ∙ ap (λ z. z *ℤ rd) quotient ∙ right' in
    let one : (rn *ℤ e) ≤ℤ (c *ℤ rd) = cancel_le qd (rn *ℤ e) (c *ℤ rd) pqd (omega (arith, ints, scaled, left, moved)) in
    let by : (sd *ℤ (rn *ℤ e)) ≤ℤ (sd *ℤ (c *ℤ rd)) = scale_le sd (rn *ℤ e) (c *ℤ rd) (omega (arith, ints)) one in
    let turn : sd *ℤ (rn *ℤ e) ≡ (rn *ℤ sd) *ℤ e = simp ring in
    let turn' : (sn *ℤ (rd *ℤ pos 2)) *ℤ e ≡ rd *ℤ (pos 2 *ℤ (sn *ℤ e)) = simp ring in
    let twice : sd *ℤ (rn *ℤ e) ≡ rd *ℤ (pos 2 *ℤ (sn *ℤ e)) = turn ∙ ap (λ z. z *ℤ e) (sym half) ∙ turn' in
    let last : sd *ℤ (c *ℤ rd) ≡ rd *ℤ (sd *ℤ c) = simp ring in
    let both : (pos 2 *ℤ (sn *ℤ e)) ≤ℤ (sd *ℤ c) = cancel_le rd (pos 2 *ℤ (sn *ℤ e)) (sd *ℤ c) prd (omega (arith, ints, by, twice, last)) in
    omega (arith, ints, both, mul_positive sd c psd pc)

positive_from : (n d c e : ℤ) → pos 0 <ℤ d → pos 0 <ℤ c → pos 0 <ℤ e → n *ℤ e ≡ c *ℤ d → pos 0 <ℤ n
positive_from n d c e pd pc pe h =
    let more = mul_positive c d pc pd in
    let turn : n *ℤ e ≡ e *ℤ n = simp ring in
    cancel_lt e (pos 0) n pe (omega (arith, ints, more, h, turn))

from_not_below : (f g : Ratio) → ¬ IsBelow (fraction_of f) (fraction_of g) → (g.num *ℤ pos (unsigned_abs f.den)) ≤ℤ (f.num *ℤ pos (unsigned_abs g.den))
from_not_below f g h = by_lt_z (f.num *ℤ pos (unsigned_abs g.den)) (g.num *ℤ pos (unsigned_abs f.den)) (λ l. absurd (h (record { cross = l }))) (λ l. l)

module _ (p : WholeProblem) (x : Corner) (t : Factors) (solved : IsSolvedForm p x t) where
  abbrev limit_at : Bool → ℕ → Bool → ℤ
  limit_at high j c = pos t.over *ℤ part c (passed_bound p high j)

  abbrev value_part_at : ℕ → Bool → ℤ
  value_part_at j c = part c (value p x t j)

  abbrev pub margin_at : Bool → ℕ → Bool → ℤ
  margin_at high j c = margin high c (limit_at high j c) (value_part_at j c)

  pub margin_over : (high : Bool) (j : ℕ) (c : Bool) (g : Ratio) → IsMargin p x t high j c g → IsNumberOver (fraction_of g) (margin_at high j c) (t.over * p.unit)
  margin_over high j c g m = go high c limit value m.gives
    where
      limit : IsNumberOver (fraction_of m.limit) (pos t.over *ℤ part c (passed_bound p high j)) (t.over * p.unit)
      limit = over_number m.limit _ _ (over_scaled m.limit _ p.unit t.over solved.positive m.is_limit)

      value : IsNumberOver (fraction_of m.value) (value_part_at j c) (t.over * p.unit)
      value = over_number m.value _ _ m.is_value

      go : (s k : Bool) {l v : ℤ} → IsNumberOver (fraction_of m.limit) l (t.over * p.unit) → IsNumberOver (fraction_of m.value) v (t.over * p.unit)
          → Gives Sub (margin_operation s k m.limit m.value).left (margin_operation s k m.limit m.value).right g
          → IsNumberOver (fraction_of g) (margin s k l v) (t.over * p.unit)
      go false false a b e = number_over-same _ (fraction_of g) _ _ e (sum_number _ _ _ _ _ b (neg_number _ _ _ a))
      go false true a b e = number_over-same _ (fraction_of g) _ _ e (sum_number _ _ _ _ _ a (neg_number _ _ _ b))
      go true false a b e = number_over-same _ (fraction_of g) _ _ e (sum_number _ _ _ _ _ a (neg_number _ _ _ b))
      go true true a b e = number_over-same _ (fraction_of g) _ _ e (sum_number _ _ _ _ _ b (neg_number _ _ _ a))

  -- where a value is tight, both margins are positive
  pub tight_margins : (high : Bool) (j : ℕ) → IsTight p x t high j → (pos 0 <ℤ margin_at high j false) × (pos 0 <ℤ margin_at high j true)
  tight_margins false j h = (omega (arith, ints, h.0), omega (arith, ints, h.1))
  tight_margins true j h = (omega (arith, ints, h.0), omega (arith, ints, h.1))

  pub quotient_is : (high : Bool) (j : ℕ) (r : Ratio) → IsQuotientAt p x t high j r → r.num *ℤ margin_at high j true ≡ margin_at high j false *ℤ pos (unsigned_abs r.den)
  quotient_is high j r q =
      let both = tight_margins high j q.tight in
      let e = to_whole (margin_at high j true) both.1 in
      let over : IsNumberOver (fraction_of r) (margin_at high j false) e.0 =
      quotient_number (fraction_of q.real) (fraction_of q.tiny) (margin_at high j false) (margin_at high j true) (margin_at high j false) (t.over * p.unit) (t.over * p.unit) e.0
      (margin_over high j false q.real q.is_real) (margin_over high j true q.tiny q.is_tiny)
      (record { positive = e.1; cross = quotient_cross (margin_at high j false) (margin_at high j true) (pos e.0) (pos (t.over * p.unit)) e.2 }) (fraction_of r) q.gives in
      ap (λ z. r.num *ℤ z) (sym e.2) ∙ over.cross

  least_positive : (r : Ratio) → IsLeastQuotient p x t r → pos 0 <ℤ r.num
  least_positive r h =
      let both = tight_margins h.high h.range h.is.tight in
      positive_from r.num (pos (unsigned_abs r.den)) (margin_at h.high h.range false) (margin_at h.high h.range true) (den_positive (fraction_of r)) both.0 both.1 (quotient_is h.high h.range r h.is)

  half_is : (s : Ratio) (h : IsHalf p x t s) → s.num *ℤ (pos (unsigned_abs h.least.den) *ℤ pos 2) ≡ h.least.num *ℤ pos (unsigned_abs s.den)
  half_is s h =
      let d = unsigned_abs h.least.den in
      let over : IsNumberOver (fraction_of s) h.least.num (d * 2) =
      quotient_number (fraction_of h.least) (fraction_of h.two) h.least.num (pos 2) h.least.num d 1 (d * 2) (itself h.least) (over_number h.two (pos 2) 1 h.is_two)
      (record { positive = mul-pos (fraction_of h.least).positive (omega arith); cross = half_cross h.least.num (pos d) }) (fraction_of s) h.gives in
      over.cross

  pub small_below : (s : Ratio) → IsSmallNumber p x t s → (high : Bool) (j : ℕ) → j < length p.ranges → IsTight p x t high j → (s.num *ℤ margin_at high j true) <ℤ (pos (unsigned_abs s.den) *ℤ margin_at high j false)
  small_below s (inr h) high j l tight = absurd (h.1 high j l tight)
  small_below s (inl h) high j l tight =
      let own = h.is_least.least high j l tight in
      let both = tight_margins high j tight in
      below_quotient h.least.num (pos (unsigned_abs h.least.den)) own.0.num (pos (unsigned_abs own.0.den)) s.num (pos (unsigned_abs s.den)) (margin_at high j false) (margin_at high j true)
      (den_positive (fraction_of h.least)) (den_positive (fraction_of own.0)) (den_positive (fraction_of s)) both.0 both.1 (quotient_is high j own.0 own.1) (from_not_below own.0 h.least own.2) (half_is s h)

  pub small_is_positive : (s : Ratio) → IsSmallNumber p x t s → pos 0 <ℤ s.num
  small_is_positive s (inr h) = omega (arith, ints, h.0.same, s.lowest.positive)
  small_is_positive s (inl h) =
      let d = pos (unsigned_abs h.least.den) in
      let twice : pos 0 <ℤ (d *ℤ pos 2) = mul_positive d (pos 2) (den_positive (fraction_of h.least)) (omega (arith, ints)) in
      positive_from s.num (pos (unsigned_abs s.den)) h.least.num (d *ℤ pos 2) (den_positive (fraction_of s)) (least_positive h.least h.is_least) twice (half_is s h)

pub small_positive : (problem : Problem) (x : Corner) (t : Factors) → IsSolvedForm (whole_problem problem) x t → (s : Ratio) → IsSmallNumber (whole_problem problem) x t s → pos 0 <ℤ s.num
small_positive problem x t solved s h = small_is_positive (whole_problem problem) x t solved s h
