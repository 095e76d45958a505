-- Whichever solved form of a corner is taken, the same operations stand on the way to the values.
use Rattle.std.proofs.Common.{◌≡◌, ℕ, ◌<◌, Bool, true, false, ℤ, pos, ◌*ℤ◌, ◌<ℤ◌, length, inl, inr, ap, arith}
use Rattle.std.proofs.lemmas.Int.{ints}
use Rattle.xc_corners.specs.Corners.{variables, Corner, Factors, IsSolvedForm, value}
use Rattle.xc_corners.specs.Ending.{IsTight, IsMargin, IsQuotientAt, IsLeastQuotient, IsSmallNumber, StandsInQuotient, margin, divided, StandsInSmall, in_quotient, halved, StandsInValue, tiny_times, real_added}
use Rattle.xc_corners.specs.Operations.{passed_bound}
use Rattle.xc_corners.specs.Pairs.{times}
use Rattle.xc_corners.specs.Problems.{WholeProblem}
use Rattle.xc_frac.specs.declared.wide.Wide.{Wide}
use Rattle.xc_model.specs.Parts.{WholeParts}
use Rattle.xc_model.specs.Ratio.{Ratio}
use Rattle.xc_model.proofs.Integers.{ring, cancel_lt, scale_lt}
use Rattle.xc_pivot.specs.CornerLaws.{CornerLaws}
use Rattle.xc_pivot.proofs.Transfer.{value_moves}

above_moves : (s t b v u : ℤ) → pos 0 <ℤ s → pos 0 <ℤ t → t *ℤ v ≡ s *ℤ u → (s *ℤ b) <ℤ v → (t *ℤ b) <ℤ u
above_moves s t b v u ps pt e h =
    let turn : t *ℤ (s *ℤ b) ≡ s *ℤ (t *ℤ b) = simp ring in
    cancel_lt s (t *ℤ b) u ps (omega (arith, ints, scale_lt t (s *ℤ b) v pt h, turn, e))

below_moves : (s t b v u : ℤ) → pos 0 <ℤ s → pos 0 <ℤ t → t *ℤ v ≡ s *ℤ u → v <ℤ (s *ℤ b) → u <ℤ (t *ℤ b)
below_moves s t b v u ps pt e h =
    let turn : t *ℤ (s *ℤ b) ≡ s *ℤ (t *ℤ b) = simp ring in
    cancel_lt s u (t *ℤ b) ps (omega (arith, ints, scale_lt t v (s *ℤ b) pt h, turn, e))

pub range_variable : (p : WholeProblem) (j : ℕ) → j < length p.ranges → j < variables p
unfolding variables
range_variable p j l = omega (arith, l)

tight_moves : CornerLaws → (p : WholeProblem) (x : Corner) (s t : Factors) → IsSolvedForm p x s → IsSolvedForm p x t → (high : Bool) (j : ℕ) → j < length p.ranges → IsTight p x s high j → IsTight p x t high j
tight_moves laws p x s t fs ft high j l tight = go high tight
  where
    same : (c : WholeParts → ℤ) → c (times (pos t.over) (value p x s j)) ≡ c (times (pos s.over) (value p x t j))
    same c = ap c (laws.value p x s t j fs ft (range_variable p j l))

    s_positive : pos 0 <ℤ pos s.over
    s_positive = omega (arith, ints, fs.positive)

    t_positive : pos 0 <ℤ pos t.over
    t_positive = omega (arith, ints, ft.positive)

    go : (high : Bool) → IsTight p x s high j → IsTight p x t high j
    go false h =
        let real = above_moves (pos s.over) (pos t.over) (passed_bound p false j).real (value p x s j).real (value p x t j).real s_positive t_positive (same (λ a. a.real)) h.0 in
        let tiny = below_moves (pos s.over) (pos t.over) (passed_bound p false j).tiny (value p x s j).tiny (value p x t j).tiny s_positive t_positive (same (λ a. a.tiny)) h.1 in
        (real, tiny)
    go true h =
        let real = below_moves (pos s.over) (pos t.over) (passed_bound p true j).real (value p x s j).real (value p x t j).real s_positive t_positive (same (λ a. a.real)) h.0 in
        let tiny = above_moves (pos s.over) (pos t.over) (passed_bound p true j).tiny (value p x s j).tiny (value p x t j).tiny s_positive t_positive (same (λ a. a.tiny)) h.1 in
        (real, tiny)

module _ (laws : CornerLaws) (p : WholeProblem) (x : Corner) (s t : Factors) (fs : IsSolvedForm p x s) (ft : IsSolvedForm p x t) (unit : 0 < p.unit) where
  margin_moves : (high : Bool) (j : ℕ) (c : Bool) (g : Ratio) → j < length p.ranges → IsMargin p x s high j c g → IsMargin p x t high j c g
  margin_moves high j c g l m = record { limit = m.limit; is_limit = m.is_limit; value = m.value; is_value = value_moves laws p x s t fs ft unit c j m.value (range_variable p j l) m.is_value; gives = m.gives }

  quotient_moves : (high : Bool) (j : ℕ) (r : Ratio) → j < length p.ranges → IsQuotientAt p x s high j r → IsQuotientAt p x t high j r
  quotient_moves high j r l q = record { tight = tight_moves laws p x s t fs ft high j l q.tight; real = q.real; is_real = margin_moves high j false q.real l q.is_real; tiny = q.tiny; is_tiny = margin_moves high j true q.tiny l q.is_tiny; gives = q.gives }

  least_moves : (r : Ratio) → IsLeastQuotient p x s r → IsLeastQuotient p x t r
  least_moves r h = record {
    high = h.high;
    range = h.range;
    is_range = h.is_range;
    is = quotient_moves h.high h.range r h.is_range h.is;
    least = λ high j l tight. let own = h.least high j l (tight_moves laws p x t s ft fs high j l tight) in (own.0, quotient_moves high j own.0 l own.1, own.2);
  }

  pub small_moves : (r : Ratio) → IsSmallNumber p x s r → IsSmallNumber p x t r
  small_moves r (inl h) = inl (record { least = h.least; is_least = least_moves h.least h.is_least; two = h.two; is_two = h.is_two; gives = h.gives })
  small_moves r (inr h) = inr (h.0, λ high j l tight. h.1 high j l (tight_moves laws p x t s ft fs high j l tight))

  in_quotient_moves : (high : Bool) (j : ℕ) (w : Wide) → j < length p.ranges → StandsInQuotient p x s high j w → StandsInQuotient p x t high j w
  in_quotient_moves high j w l (margin c f v limit is_value e) = margin c f v limit (value_moves laws p x s t fs ft unit c j v (range_variable p j l) is_value) e
  in_quotient_moves high j w l (divided f g is_real is_tiny e) = divided f g (margin_moves high j false f l is_real) (margin_moves high j true g l is_tiny) e

  pub in_small_moves : (w : Wide) → StandsInSmall p x s w → StandsInSmall p x t w
  in_small_moves w (in_quotient high j l tight stands) = in_quotient high j l (tight_moves laws p x s t fs ft high j l tight) (in_quotient_moves high j w l stands)
  in_small_moves w (halved r two least is_two e) = halved r two (least_moves r least) is_two e

  pub in_value_moves : (small : Ratio) (j : ℕ) (w : Wide) → j < length p.ranges → StandsInValue p x s small j w → StandsInValue p x t small j w
  in_value_moves small j w l (tiny_times f is_tiny e) = tiny_times f (value_moves laws p x s t fs ft unit true j f (range_variable p j l) is_tiny) e
  in_value_moves small j w l (real_added f m is_real is_m e) = real_added f m (value_moves laws p x s t fs ft unit false j f (range_variable p j l) is_real) (record { tiny = is_m.tiny; is_tiny = value_moves laws p x s t fs ft unit true j is_m.tiny (range_variable p j l) is_m.is_tiny; gives = is_m.gives }) e
