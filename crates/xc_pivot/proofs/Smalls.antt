-- The small number and the values with it, by what was worked out.
use Rattle.std.proofs.Common.{◌≡◌, ℕ, ◌*◌, ◌<◌, Bool, true, false, length, Some, None, Ok, Err, inl, inr, refl, sym, subst, arith}
use Rattle.std.specs.Prelude.{Option, Result, IfOk, IfErr, OnOk, OnErr}
use Rattle.std.specs.declared.cmp.Ordering.{Ordering}
use Rattle.std.specs.declared.cmp.Ordering.TheVariants.{Less, Equal, Greater}
use Rattle.std.proofs.lemmas.Bool.{lt-ltb}
use Rattle.xc_model.proofs.Results.{over_one, product_one, product_stays, quotient_stays}
use Rattle.xc_lists.proofs.Outcomes.{if_ok, if_named}
use Rattle.xc_corners.specs.Corners.{Corner, Factors, value as value_at}
use Rattle.xc_corners.specs.Ending.{IsTwo, IsLeastQuotient, IsSmallNumber, IsTinyProduct, IsValueWith, in_quotient, halved, tiny_times, real_added}
use Rattle.xc_corners.specs.Operations.{operation, Gives}
use Rattle.xc_corners.specs.Problems.{WholeProblem}
use Rattle.xc_frac.specs.Passes.{Passes}
use Rattle.xc_frac.specs.declared.delta.Delta.{Delta}
use Rattle.xc_frac.specs.declared.wide.Op.TheVariants.{Add, Mul, Div}
use Rattle.xc_frac.specs.declared.wide.Wide.{Wide}
use Rattle.xc_model.specs.Fraction.{IsBelow}
use Rattle.xc_model.specs.Order.{Orders}
use Rattle.xc_model.specs.Ratio.{Ratio, fraction_of}
use Rattle.xc_model.proofs.LowestTerms.{one_lowest}
use Rattle.xc_model.proofs.Orders.{number_total}
use Rattle.xc_pivot.specs.Deltas.{ArePartsOf}
use Rattle.xc_pivot.specs.Quotients.{below_seen, IsLeastOf, SeenStay, PassesSmall}
use Rattle.xc_pivot.specs.SmallValues.{IsHalfOf, PassesHalf, SmallStays, ValueStays, PassesValue}
use Rattle.xc_pivot.proofs.Margins.{quotient_same}

-- numbers of which neither is less are one fraction
neither_less : (f g : Ratio) → ¬ IsBelow (fraction_of f) (fraction_of g) → ¬ IsBelow (fraction_of g) (fraction_of f) → f ≡ g
neither_less f g n m = go (number_total (fraction_of f) (fraction_of g)).0 (number_total (fraction_of f) (fraction_of g)).1
  where
    go : (o : Ordering) → Orders o (fraction_of f) (fraction_of g) → f ≡ g
    go Less h = absurd (n h)
    go Equal h = one_lowest f g h
    go Greater h = absurd (m h)

-- half of a number
pub half_is : (r two : Ratio) → IsTwo two → (o : Result Ratio Wide) → IfOk o (Gives Div r two) → IfOk o (IsHalfOf (Some r))
half_is r two is o h = if_ok o (Gives Div r two) (IsHalfOf (Some r)) h (λ s gives. (two, is, gives))

pub half_passes : (r two : Ratio) → IsTwo two → (o : Result Ratio Wide) → IfErr o (λ w. w ≡ operation Div r two) → OnErr o (Passes Div r two) → IfErr o (PassesHalf (Some r))
half_passes r two is o h k = if_named o (PassesHalf (Some r)) (operation Div r two) (Passes Div r two) h k (λ passes. (two, is, refl, passes))

-- ---- the small number
module _ (p : WholeProblem) (x : Corner) (t : Factors) (n : ℕ) (all : length p.ranges ≡ n) where
  seen_all : (high : Bool) (j : ℕ) → j < length p.ranges → below_seen n high j ≡ true
  seen_all high j l = lt-ltb j n (omega (arith, l, all))

  is_least : (r : Ratio) → IsLeastOf p x t (below_seen n) (Some r) → IsLeastQuotient p x t r
  is_least r h = record { high = h.0.high; range = h.0.range; is_range = h.0.is_range; is = h.0.is; least = λ high j l tight. h.1 high j (seen_all high j l) tight }

  pub small_is : (least : Option Ratio) (o : Result Ratio Wide) → IsLeastOf p x t (below_seen n) least → IfOk o (IsHalfOf least) → IfOk o (IsSmallNumber p x t)
  small_is None (Ok s) h half = inr (half, λ high j l. h high j (seen_all high j l))
  small_is (Some r) (Ok s) h half = inl (record { least = r; is_least = is_least r h; two = half.0; is_two = half.1; gives = half.2 })
  small_is None (Err w) h half = tt
  small_is (Some r) (Err w) h half = tt

  pub small_passes : (least : Option Ratio) (o : Result Ratio Wide) → IsLeastOf p x t (below_seen n) least → IfErr o (PassesHalf least) → IfErr o (PassesSmall p x t)
  small_passes None (Ok s) h half = tt
  small_passes (Some r) (Ok s) h half = tt
  small_passes None (Err w) h half = absurd half
  small_passes (Some r) (Err w) h half = record { stands = halved r half.0 (is_least r h) half.1 half.2; passes = subst (λ (z : Wide). Passes z.op z.left z.right) (sym half.2) half.3 }

  pub one_least : (r q : Ratio) → IsLeastQuotient p x t r → IsLeastQuotient p x t q → r ≡ q
  one_least r q a o =
      let left = o.least a.high a.range a.is_range a.is.tight in
      let right = a.least o.high o.range o.is_range o.is.tight in
      let left_is = quotient_same p x t a.high a.range left.0 r left.1 a.is in
      let right_is = quotient_same p x t o.high o.range right.0 q right.1 o.is in
      neither_less r q (subst (λ z. ¬ IsBelow (fraction_of z) (fraction_of q)) left_is left.2) (subst (λ z. ¬ IsBelow (fraction_of z) (fraction_of r)) right_is right.2)

  stays_with : (least : Option Ratio) (s : Ratio) → IsLeastOf p x t (below_seen n) least → SeenStay p x t (below_seen n) → IsHalfOf least s → SmallStays p x t
  stays_with least s h stay half w (in_quotient high j l tight stands) passes = stay high j (seen_all high j l) w tight stands passes
  stays_with None s h stay half w (halved r two is is_two e) passes = h is.high is.range (seen_all is.high is.range is.is_range) is.is.tight
  stays_with (Some f) s h stay half w (halved r two is is_two e) passes =
      let same = one_least f r (is_least f h) is in
      let twos = over_one half.0 two _ _ half.1 is_two in
      quotient_stays r two s (subst (λ z. Gives Div z two s) same (subst (λ z. Gives Div f z s) twos half.2)) (subst (λ (z : Wide). Passes z.op z.left z.right) e passes)

  pub small_stays : (least : Option Ratio) (o : Result Ratio Wide) → IsLeastOf p x t (below_seen n) least → SeenStay p x t (below_seen n) → IfOk o (IsHalfOf least) → OnOk o (SmallStays p x t)
  small_stays least (Ok s) h stay half = stays_with least s h stay half
  small_stays least (Err w) h stay half = tt

-- ---- the value of range j with it
module _ (p : WholeProblem) (x : Corner) (t : Factors) (j : ℕ) (value : Delta Ratio) (v : ArePartsOf (t.over * p.unit) (value_at p x t j) value) (s : Ratio) where
  module _ (product : Ratio) (g : Gives Mul value.tiny s product) where
    is_product : IsTinyProduct p x t s j product
    is_product = record { tiny = value.tiny; is_tiny = v true; gives = g }

    pub value_is : (o : Result Ratio Wide) → IfOk o (Gives Add value.real product) → IfOk o (IsValueWith p x t s j)
    value_is o h = if_ok o (Gives Add value.real product) (IsValueWith p x t s j) h (λ r gives. record { real = value.real; is_real = v false; product = product; is_product = is_product; gives = gives })

    value_stay : ¬ Passes Add value.real product → ValueStays p x t s j
    value_stay stays w (tiny_times f is_tiny e) passes =
        product_stays f s product (subst (λ z. Gives Mul z s product) (over_one value.tiny f _ _ (v true) is_tiny) g) (subst (λ (z : Wide). Passes z.op z.left z.right) e passes)
    value_stay stays w (real_added f m is_real is_m e) passes =
        let real = over_one value.real f _ _ (v false) is_real in
        let tiny = over_one is_m.tiny value.tiny _ _ is_m.is_tiny (v true) in
        let same = product_one value.tiny s m product (subst (λ z. Gives Mul z s m) tiny is_m.gives) g in
        stays (subst (λ z. Passes Add z product) (sym real) (subst (λ z. Passes Add f z) same (subst (λ (z : Wide). Passes z.op z.left z.right) e passes)))

    pub value_stays : (o : Result Ratio Wide) → OnOk o (¬ Passes Add value.real product) → OnOk o (ValueStays p x t s j)
    value_stays (Ok r) h = value_stay h
    value_stays (Err w) h = tt

    pub value_passes : (o : Result Ratio Wide) → IfErr o (λ w. w ≡ operation Add value.real product) → OnErr o (Passes Add value.real product) → IfErr o (PassesValue p x t s j)
    value_passes o h k = if_named o (PassesValue p x t s j) (operation Add value.real product) (Passes Add value.real product) h k (λ passes. record { stands = real_added value.real product (v false) is_product refl; passes = passes })

  pub tiny_passes : (w : Wide) → w ≡ operation Mul value.tiny s → Passes Mul value.tiny s → PassesValue p x t s j w
  tiny_passes w e passes = record { stands = tiny_times value.tiny (v true) e; passes = subst (λ (z : Wide). Passes z.op z.left z.right) (sym e) passes }
