-- Margins of a bound and a value as those of a range at a corner.
use Rattle.std.proofs.Common.{◌≡◌, ◌≢◌, ℕ, ◌*◌, ◌<◌, Bool, true, false, ℤ, pos, neg_ℤ, ◌+ℤ◌, ◌*ℤ◌, ◌<ℤ◌, Some, None, Ok, Err, inl, inr, ◌⊎◌, refl, sym, ap, subst, ◌∙◌, arith}
use Rattle.std.specs.Prelude.{not, Option, Result, IfOk, IfErr, OnOk}
use Rattle.std.proofs.lemmas.Int.{ints}
use Rattle.xc_model.proofs.Results.{over_one, quotient_one, quotient_stays}
use Rattle.xc_model.proofs.OrdersOver.{below_over}
use Rattle.xc_corners.specs.Corners.{Corner, Factors, value as value_at}
use Rattle.xc_corners.specs.Ending.{IsTightAt, margin_operation, IsLimitPart, IsTight, IsMargin, IsQuotientAt, margin, divided}
use Rattle.xc_corners.specs.Operations.{operation, Gives, IsValuePart, passed_bound}
use Rattle.xc_corners.specs.Pairs.{times}
use Rattle.xc_corners.specs.Problems.{WholeProblem}
use Rattle.xc_frac.specs.Passes.{Passes}
use Rattle.xc_frac.specs.declared.delta.Delta.{Delta}
use Rattle.xc_frac.specs.declared.wide.Op.TheVariants.{Sub, Div}
use Rattle.xc_frac.specs.declared.wide.Wide.{Wide}
use Rattle.xc_model.specs.Fraction.{IsBelow}
use Rattle.xc_model.specs.Parts.{WholeParts}
use Rattle.xc_model.specs.Ratio.{Ratio, fraction_of}
use Rattle.xc_model.proofs.Integers.{mul_positive, neg-mul}
use Rattle.xc_model.proofs.Numbers.{den_positive}
use Rattle.xc_model.proofs.NumbersOver.{over_number, below_number}
use Rattle.xc_pivot.specs.Deltas.{of_part, GivesEach, ArePartsOf, PassesOne}
use Rattle.xc_pivot.specs.Quotients.{mixed_parts, ExceedsEach, IsApart, AreMargins, IsQuotientOf, IsAnswerOf, MarginsStay, PassesMargins, PassesDivision, IsAnswerAt, QuotientStays, PassesQuotient}
use Rattle.xc_pivot.proofs.Beside.{bound_times}
use Rattle.xc_pivot.proofs.Operands.{difference_one}

-- a difference of a greater number and a lesser one is not 0
pub margin_some : (f g r : Ratio) → IsBelow (fraction_of g) (fraction_of f) → Gives Sub f g r → r.num ≢ pos 0
margin_some f g r below gives none =
    let more : pos 0 <ℤ (f.num *ℤ pos (fraction_of g).den +ℤ neg_ℤ g.num *ℤ pos (fraction_of f).den) = difference_positive f.num g.num (pos (fraction_of f).den) (pos (fraction_of g).den) below.cross in
    let product = mul_positive _ (pos (fraction_of r).den) more (den_positive (fraction_of r)) in
    omega (arith, ints, product, gives.cross, ap (λ z. z *ℤ pos ((fraction_of f).den * (fraction_of g).den)) none)
  where
    difference_positive : (a b c d : ℤ) → (b *ℤ c) <ℤ (a *ℤ d) → pos 0 <ℤ (a *ℤ d +ℤ neg_ℤ b *ℤ c)
    difference_positive a b c d h = omega (arith, ints, h, neg-mul b c)

-- whether both margins are positive, in whole numbers
module _ (limit value : Delta Ratio) (b a : WholeParts) (d : ℕ) (l : ArePartsOf d b limit) (v : ArePartsOf d a value) where
  tight_if : (high : Bool) → IsApart high limit value → IsTightAt high b a
  tight_if false h = (below_number _ _ _ _ d (over_number _ _ _ (l false)) (over_number _ _ _ (v false)) h.0, below_number _ _ _ _ d (over_number _ _ _ (v true)) (over_number _ _ _ (l true)) h.1)
  tight_if true h = (below_number _ _ _ _ d (over_number _ _ _ (v false)) (over_number _ _ _ (l false)) h.0, below_number _ _ _ _ d (over_number _ _ _ (l true)) (over_number _ _ _ (v true)) h.1)

  apart_if : (high : Bool) → IsTightAt high b a → IsApart high limit value
  apart_if false h = (below_over _ _ _ _ d (over_number _ _ _ (l false)) (over_number _ _ _ (v false)) h.0, below_over _ _ _ _ d (over_number _ _ _ (v true)) (over_number _ _ _ (l true)) h.1)
  apart_if true h = (below_over _ _ _ _ d (over_number _ _ _ (v false)) (over_number _ _ _ (l false)) h.0, below_over _ _ _ _ d (over_number _ _ _ (l true)) (over_number _ _ _ (v true)) h.1)

-- what is subtracted
taken_is : (high c : Bool) (limit value : Delta Ratio) → operation Sub (of_part (mixed_parts high limit value) c) (of_part (mixed_parts (not high) limit value) c) ≡ margin_operation high c (of_part limit c) (of_part value c)
taken_is false false limit value = refl
taken_is false true limit value = refl
taken_is true false limit value = refl
taken_is true true limit value = refl

module _ (high : Bool) (limit value first second : Delta Ratio) (is_first : first ≡ mixed_parts high limit value) (is_second : second ≡ mixed_parts (not high) limit value) where
  pub apart_of : ExceedsEach first second → IsApart high limit value
  apart_of h = subst (λ (d : Delta Ratio). ExceedsEach d (mixed_parts (not high) limit value)) is_first (subst (λ (d : Delta Ratio). ExceedsEach first d) is_second h)

  pub margins_of : (g : Delta Ratio) → GivesEach Sub (of_part first) (of_part second) g → AreMargins high limit value g
  margins_of g h = subst (λ (d : Delta Ratio). GivesEach Sub (of_part d) (of_part (mixed_parts (not high) limit value)) g) is_first (subst (λ (d : Delta Ratio). GivesEach Sub (of_part first) (of_part d) g) is_second h)

module _ (p : WholeProblem) (x : Corner) (t : Factors) (high : Bool) (j : ℕ) where
  margin_one : (c : Bool) (f g : Ratio) → IsMargin p x t high j c f → IsMargin p x t high j c g → f ≡ g
  margin_one c f g m n =
      let limit = over_one m.limit n.limit _ _ m.is_limit n.is_limit in
      let value = over_one m.value n.value _ _ m.is_value n.is_value in
      difference_one (margin_operation high c n.limit n.value).left (margin_operation high c n.limit n.value).right f g
      (subst (λ z. Gives Sub (margin_operation high c z n.value).left (margin_operation high c z n.value).right f) limit (subst (λ z. Gives Sub (margin_operation high c m.limit z).left (margin_operation high c m.limit z).right f) value m.gives)) n.gives

  pub quotient_same : (q r : Ratio) → IsQuotientAt p x t high j q → IsQuotientAt p x t high j r → q ≡ r
  quotient_same q r a o =
      let real = margin_one false a.real o.real a.is_real o.is_real in
      let tiny = margin_one true a.tiny o.tiny a.is_tiny o.is_tiny in
      quotient_one o.real o.tiny q r (subst (λ z. Gives Div z o.tiny q) real (subst (λ z. Gives Div a.real z q) tiny a.gives)) o.gives

  module _ (limit value : Delta Ratio) (positive : 0 < t.over) (l : ArePartsOf p.unit (passed_bound p high j) limit) (v : ArePartsOf (t.over * p.unit) (value_at p x t j) value) where
    limit_over : ArePartsOf (t.over * p.unit) (times (pos t.over) (passed_bound p high j)) limit
    limit_over = bound_times limit (passed_bound p high j) p.unit t.over positive l

    margin_of : (g : Delta Ratio) → AreMargins high limit value g → (c : Bool) → IsMargin p x t high j c (of_part g c)
    margin_of g are c = record {
      limit = of_part limit c;
      is_limit = l c;
      value = of_part value c;
      is_value = v c;
      gives = subst (λ (w : Wide). Gives Sub w.left w.right (of_part g c)) (taken_is high c limit value) (are c);
    }

    pub quotient_here : (q : Ratio) → IsQuotientOf high limit value q → IsQuotientAt p x t high j q
    quotient_here q h = record {
      tight = tight_if limit value (times (pos t.over) (passed_bound p high j)) (value_at p x t j) (t.over * p.unit) limit_over v high h.apart;
      real = h.margins.real;
      is_real = margin_of h.margins h.are false;
      tiny = h.margins.tiny;
      is_tiny = margin_of h.margins h.are true;
      gives = h.gives;
    }

    apart_here : IsTight p x t high j → IsApart high limit value
    apart_here h = apart_if limit value (times (pos t.over) (passed_bound p high j)) (value_at p x t j) (t.over * p.unit) limit_over v high h

    answer_here : (o : Option Ratio) → IsAnswerOf high limit value o → IsAnswerAt p x t high j o
    answer_here None h = λ tight. h (apart_here tight)
    answer_here (Some q) h = quotient_here q h

    margin_stays : MarginsStay high limit value → IsTight p x t high j → (c : Bool) (f g : Ratio) → IsLimitPart p x t high j c f → IsValuePart p x t c j g → ¬ Passes Sub (margin_operation high c f g).left (margin_operation high c f g).right
    margin_stays stays tight c f g is_limit is_value =
        let limit_is = over_one (of_part limit c) f _ _ (l c) is_limit in
        let value_is = over_one (of_part value c) g _ _ (v c) is_value in
        subst (λ z. ¬ Passes Sub (margin_operation high c z g).left (margin_operation high c z g).right) limit_is
        (subst (λ z. ¬ Passes Sub (margin_operation high c (of_part limit c) z).left (margin_operation high c (of_part limit c) z).right) value_is
        (subst (λ (w : Wide). ¬ Passes Sub w.left w.right) (taken_is high c limit value) (stays (apart_here tight) c)))

    stays_here : (o : Option Ratio) → IsAnswerOf high limit value o → MarginsStay high limit value → QuotientStays p x t high j
    stays_here None h stays w tight stands passes = h (apart_here tight)
    stays_here (Some q) h stays w tight (margin c f g is_limit is_value e) passes = margin_stays stays tight c f g is_limit is_value (taken_passes high c f g (subst (λ (z : Wide). Passes z.op z.left z.right) e passes))
      where
        taken_passes : (high c : Bool) (f g : Ratio) → Passes (margin_operation high c f g).op (margin_operation high c f g).left (margin_operation high c f g).right → Passes Sub (margin_operation high c f g).left (margin_operation high c f g).right
        taken_passes false false f g h = h
        taken_passes false true f g h = h
        taken_passes true false f g h = h
        taken_passes true true f g h = h
    stays_here (Some q) h stays w tight (divided f g is_real is_tiny e) passes =
        let own = quotient_here q h in
        let real = margin_one false own.real f own.is_real is_real in
        let tiny = margin_one true own.tiny g own.is_tiny is_tiny in
        quotient_stays f g q (subst (λ z. Gives Div z g q) real (subst (λ z. Gives Div own.real z q) tiny own.gives)) (subst (λ (z : Wide). Passes z.op z.left z.right) e passes)

    passes_here : (w : Wide) → PassesMargins high limit value w → PassesQuotient p x t high j w
    passes_here w h = go h.passes
      where
        tight : IsTight p x t high j
        tight = tight_if limit value (times (pos t.over) (passed_bound p high j)) (value_at p x t j) (t.over * p.unit) limit_over v high h.apart

        go : (PassesOne Sub (of_part (mixed_parts high limit value)) (of_part (mixed_parts (not high) limit value)) w ⊎ PassesDivision high limit value w) → PassesQuotient p x t high j w
        go (inl one) = record {
          tight = tight;
          stands = margin one.part (of_part limit one.part) (of_part value one.part) (l one.part) (v one.part) (one.is ∙ taken_is high one.part limit value);
          passes = subst (λ (z : Wide). Passes z.op z.left z.right) (sym one.is) one.passes;
        }
        go (inr d) = record {
          tight = tight;
          stands = divided d.margins.real d.margins.tiny (margin_of d.margins d.are false) (margin_of d.margins d.are true) d.passes.0;
          passes = subst (λ (z : Wide). Passes z.op z.left z.right) (sym d.passes.0) d.passes.1;
        }

    pub if_answer : (o : Result (Option Ratio) Wide) → IfOk o (IsAnswerOf high limit value) → IfOk o (IsAnswerAt p x t high j)
    if_answer (Ok q) h = answer_here q h
    if_answer (Err w) h = tt

    pub if_stays : (o : Result (Option Ratio) Wide) → IfOk o (IsAnswerOf high limit value) → OnOk o (MarginsStay high limit value) → OnOk o (QuotientStays p x t high j)
    if_stays (Ok q) h k = stays_here q h k
    if_stays (Err w) h k = tt

    pub if_passes : (o : Result (Option Ratio) Wide) → IfErr o (PassesMargins high limit value) → IfErr o (PassesQuotient p x t high j)
    if_passes (Ok q) h = tt
    if_passes (Err w) h = passes_here w h
