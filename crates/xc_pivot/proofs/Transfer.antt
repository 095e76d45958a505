-- Whichever solved form of a corner is taken, the same operations stand there.
use Rattle.std.proofs.Common.{◌≡◌, ℕ, ◌*◌, ◌<◌, Bool, true, false, ℤ, pos, ◌*ℤ◌, ap, arith}
use Rattle.std.proofs.lemmas.Int.{ints}
use Rattle.std.proofs.Math.Nat.{mul-pos}
use Rattle.xc_corners.specs.Corners.{variables, Corner, Factors, IsSolvedForm, value}
use Rattle.xc_corners.specs.Operations.{part, IsFactor, IsValuePart, IsBasic, IsOther, IsOwnFactor, IsOtherFactor, IsProductFactor, IsGap, IsStep, IsMove, StandsInExchange, own_divided, other_divided, own_times, other_times, other_added, StandsInStep, gap_taken, step_divided, entering_moved, step_times, basic_moved}
use Rattle.xc_corners.specs.Problems.{WholeProblem}
use Rattle.xc_frac.specs.declared.wide.Wide.{Wide}
use Rattle.xc_pivot.specs.CornerLaws.{CornerLaws}
use Rattle.xc_model.specs.Fraction.{SameNumber}
use Rattle.xc_model.specs.Parts.{WholeParts}
use Rattle.xc_model.specs.Ratio.{Ratio, fraction_of, IsOver}
use Rattle.xc_model.proofs.Integers.{ring}
use Rattle.xc_model.proofs.Numbers.{same-trans}
use Rattle.xc_model.proofs.Over.{ratio, over_same, same_over}

-- the same number over another denominator
over_other : (f : Ratio) (n m : ℤ) (d e : ℕ) → 0 < e → n *ℤ pos e ≡ m *ℤ pos d → IsOver f n d → IsOver f m e
over_other f n m d e p cross h =
    let same : SameNumber (ratio n d h.positive) (ratio m e p) = record { cross = cross } in
    same_over f m e p (same-trans (fraction_of f) (ratio n d h.positive) (ratio m e p) (over_same f n d h.positive h) same)

value_cross : (v w s t u : ℤ) → t *ℤ v ≡ s *ℤ w → v *ℤ (t *ℤ u) ≡ w *ℤ (s *ℤ u)
value_cross v w s t u e = let g : u *ℤ (t *ℤ v) ≡ u *ℤ (s *ℤ w) = ap (λ (z : ℤ). u *ℤ z) e in omega (arith, ints, simp ring at g)

module _ (laws : CornerLaws) (p : WholeProblem) (x : Corner) (s t : Factors) (fs : IsSolvedForm p x s) (ft : IsSolvedForm p x t) (unit : 0 < p.unit) where
  factor_moves : (k j : ℕ) (f : Ratio) → IsBasic p x k → IsOther p x j → IsFactor s k j f → IsFactor t k j f
  factor_moves k j f hk hj h = over_other f (s.factor k j) (t.factor k j) s.over t.over ft.positive (laws.form p x s t k j fs ft hk.0 hj.0 hk.1 hj.1) h

  pub value_moves : (c : Bool) (j : ℕ) (f : Ratio) → j < variables p → IsValuePart p x s c j f → IsValuePart p x t c j f
  value_moves c j f hj h = over_other f _ _ (s.over * p.unit) (t.over * p.unit) (mul-pos ft.positive unit) (value_cross (part c (value p x s j)) (part c (value p x t j)) (pos s.over) (pos t.over) (pos p.unit) (of c)) h
    where
      of : (c : Bool) → pos t.over *ℤ part c (value p x s j) ≡ pos s.over *ℤ part c (value p x t j)
      of false = ap (λ (a : WholeParts). a.real) (laws.value p x s t j fs ft hj)
      of true = ap (λ (a : WholeParts). a.tiny) (laws.value p x s t j fs ft hj)

  module _ (b q : ℕ) (hb : IsBasic p x b) (hq : IsOther p x q) where
    own : (u : Ratio) → IsOwnFactor (IsFactor s) b q u → IsOwnFactor (IsFactor t) b q u
    own u o = record { one = o.one; is_one = o.is_one; pivot = o.pivot; is_pivot = factor_moves b q o.pivot hb hq o.is_pivot; gives = o.gives }

    other : (j : ℕ) (u : Ratio) → IsOther p x j → IsOtherFactor (IsFactor s) b q j u → IsOtherFactor (IsFactor t) b q j u
    other j u hj o = record { factor = o.factor; is_factor = factor_moves b j o.factor hb hj o.is_factor; negative = o.negative; is_negative = o.is_negative; pivot = o.pivot; is_pivot = factor_moves b q o.pivot hb hq o.is_pivot; gives = o.gives }

    product : (k j : ℕ) (u : Ratio) → IsBasic p x k → IsOther p x j → IsProductFactor (IsFactor s) b q k j u → IsProductFactor (IsFactor t) b q k j u
    product k j u hk hj o = record { factor = o.factor; is_factor = factor_moves k q o.factor hk hq o.is_factor; other = o.other; is_other = other j o.other hj o.is_other; gives = o.gives }

    pub exchange_moves : (w : Wide) → StandsInExchange (IsBasic p x) (IsOther p x) (IsFactor s) b q w → StandsInExchange (IsBasic p x) (IsOther p x) (IsFactor t) b q w
    exchange_moves w (own_divided one g is_one is_pivot e) = own_divided one g is_one (factor_moves b q g hb hq is_pivot) e
    exchange_moves w (other_divided j g u h is_other apart is_factor is_negative is_pivot e) = other_divided j g u h is_other apart (factor_moves b j g hb is_other is_factor) is_negative (factor_moves b q h hb hq is_pivot) e
    exchange_moves w (own_times k g u is_basic apart is_factor is_own e) = own_times k g u is_basic apart (factor_moves k q g is_basic hq is_factor) (own u is_own) e
    exchange_moves w (other_times k j g u is_basic apart is_other aside is_factor is_product e) = other_times k j g u is_basic apart is_other aside (factor_moves k q g is_basic hq is_factor) (other j u is_other is_product) e
    exchange_moves w (other_added k j g u is_basic apart is_other aside is_factor is_product e) = other_added k j g u is_basic apart is_other aside (factor_moves k j g is_basic is_other is_factor) (product k j u is_basic is_other is_product) e

    module _ (above : Bool) where
      gap : (c : Bool) (g : Ratio) → IsGap p x s above b c g → IsGap p x t above b c g
      gap c g o = record { limit = o.limit; is_limit = o.is_limit; value = o.value; is_value = value_moves c b o.value hb.0 o.is_value; gives = o.gives }

      step : (c : Bool) (r : Ratio) → IsStep p x s above b q c r → IsStep p x t above b q c r
      step c r o = record { gap = o.gap; is_gap = gap c o.gap o.is_gap; pivot = o.pivot; is_pivot = factor_moves b q o.pivot hb hq o.is_pivot; gives = o.gives }

      move : (k : ℕ) (c : Bool) (m : Ratio) → IsBasic p x k → IsMove p x s above b q k c m → IsMove p x t above b q k c m
      move k c m hk o = record { factor = o.factor; is_factor = factor_moves k q o.factor hk hq o.is_factor; step = o.step; is_step = step c o.step o.is_step; gives = o.gives }

      pub step_moves : (w : Wide) → StandsInStep p x s above b q w → StandsInStep p x t above b q w
      step_moves w (gap_taken c f v limit is_value e) = gap_taken c f v limit (value_moves c b v hb.0 is_value) e
      step_moves w (step_divided c g f is_gap factor e) = step_divided c g f (gap c g is_gap) (factor_moves b q f hb hq factor) e
      step_moves w (entering_moved c v r is_value is_step e) = entering_moved c v r (value_moves c q v hq.0 is_value) (step c r is_step) e
      step_moves w (step_times c k f r inside basic apart factor is_step e) = step_times c k f r inside basic apart (factor_moves k q f (inside, basic) hq factor) (step c r is_step) e
      step_moves w (basic_moved c k v m inside basic apart is_value is_move e) = basic_moved c k v m inside basic apart (value_moves c k v inside is_value) (move k c m (inside, basic) is_move) e
