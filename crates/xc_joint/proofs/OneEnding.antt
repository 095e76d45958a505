-- A corner has one small number and one value for each range, whatever its solved form.
use Rattle.std.proofs.Common.{◌≡◌, ℕ, zero, suc, ◌<◌, Bool, true, false, ℤ, pos, ◌*ℤ◌, ◌<ℤ◌, List, [], ◌∷◌, length, inl, inr, Some, slice_get, refl, sym, ap₂, subst, ◌∙◌, arith}
use Rattle.std.proofs.lemmas.Int.{ints, by_lt_z}
use Rattle.std.proofs.lemmas.Option.{slice_get_within}
use Rattle.xc_corners.specs.Corners.{variables, Corner, Factors, IsSolvedForm}
use Rattle.xc_corners.specs.Ending.{AreValuesWith, IsHalf, IsLeastQuotient, IsMargin, IsQuotientAt, IsSmallNumber, IsTinyProduct, IsValueWith, margin_operation}
use Rattle.xc_corners.specs.Laws.{HasOneSolvedForm}
use Rattle.xc_corners.specs.Operations.{Gives}
use Rattle.xc_corners.specs.Problems.{WholeProblem}
use Rattle.xc_frac.specs.declared.wide.Op.TheVariants.{Add, Sub, Mul, Div}
use Rattle.xc_joint.proofs.SolvedForms.{part_too, tight_too}
use Rattle.xc_model.proofs.LowestTerms.{one_lowest}
use Rattle.xc_model.proofs.Numbers.{quotient_unique, same-sym, same-trans}
use Rattle.xc_model.proofs.Over.{over_same, ratio}
use Rattle.xc_model.specs.Fraction.{Fraction, IsBelow, SameNumber, difference_of, product_of, sum_of}
use Rattle.xc_model.specs.Ratio.{IsOver, Ratio, fraction_of}

-- ---- numbers

pub over_once : (f g : Ratio) (n : ℤ) (d : ℕ) → IsOver f n d → IsOver g n d → f ≡ g
over_once f g n d h k = one_lowest f g (same-trans (fraction_of f) (ratio n d h.positive) (fraction_of g) (over_same f n d h.positive h) (same-sym (fraction_of g) (ratio n d h.positive) (over_same g n d h.positive k)))

same_once : (f g : Ratio) (z : Fraction) → SameNumber (fraction_of f) z → SameNumber (fraction_of g) z → f ≡ g
same_once f g z h k = one_lowest f g (same-trans (fraction_of f) z (fraction_of g) h (same-sym (fraction_of g) z k))

sum_once : (f g r s : Ratio) → Gives Add f g r → Gives Add f g s → r ≡ s
sum_once f g r s h k = same_once r s (sum_of (fraction_of f) (fraction_of g)) h k

difference_once : (f g r s : Ratio) → Gives Sub f g r → Gives Sub f g s → r ≡ s
difference_once f g r s h k = same_once r s (difference_of (fraction_of f) (fraction_of g)) h k

product_once : (f g r s : Ratio) → Gives Mul f g r → Gives Mul f g s → r ≡ s
product_once f g r s h k = same_once r s (product_of (fraction_of f) (fraction_of g)) h k

quotient_once : (f g r s : Ratio) → Gives Div f g r → Gives Div f g s → r ≡ s
quotient_once f g r s h k = one_lowest r s (quotient_unique (fraction_of r) (fraction_of s) (fraction_of f) (fraction_of g) h k)

no_less_same : (a b : ℤ) → (a <ℤ b → ⊥) → (b <ℤ a → ⊥) → a ≡ b
no_less_same a b h k = by_lt_z a b (λ l. absurd (h l)) (λ l. by_lt_z b a (λ m. absurd (k m)) (λ m. omega (arith, ints, l, m)))

-- of two numbers of which neither is below the other, both are the same
neither_below : (f g : Ratio) → ¬ IsBelow (fraction_of f) (fraction_of g) → ¬ IsBelow (fraction_of g) (fraction_of f) → f ≡ g
neither_below f g h k = one_lowest f g (record {
  cross = no_less_same ((fraction_of f).num *ℤ pos (fraction_of g).den) ((fraction_of g).num *ℤ pos (fraction_of f).den)
      (λ l. h (record { cross = l })) (λ l. k (record { cross = l }));
})

-- ---- one solved form

module _ (p : WholeProblem) (x : Corner) (t : Factors) where
  margin_once : (high : Bool) (j : ℕ) (c : Bool) (g h : Ratio) → IsMargin p x t high j c g → IsMargin p x t high j c h → g ≡ h
  margin_once high j c g h a b = by high c (a.limit) (a.value) g h a.gives
      (subst (λ (l : Ratio). Gives Sub (margin_operation high c l a.value).left (margin_operation high c l a.value).right h) (sym limits)
      (subst (λ (v : Ratio). Gives Sub (margin_operation high c b.limit v).left (margin_operation high c b.limit v).right h) (sym values) b.gives))
    where
      limits : a.limit ≡ b.limit
      limits = over_once a.limit b.limit _ _ a.is_limit b.is_limit

      values : a.value ≡ b.value
      values = over_once a.value b.value _ _ a.is_value b.is_value

      by : (high c : Bool) (l v g h : Ratio) → Gives Sub (margin_operation high c l v).left (margin_operation high c l v).right g → Gives Sub (margin_operation high c l v).left (margin_operation high c l v).right h → g ≡ h
      by high c l v g h k m = difference_once (margin_operation high c l v).left (margin_operation high c l v).right g h k m

  quotient_at_once : (high : Bool) (j : ℕ) (q r : Ratio) → IsQuotientAt p x t high j q → IsQuotientAt p x t high j r → q ≡ r
  quotient_at_once high j q r a b = quotient_once a.real a.tiny q r a.gives
      (subst (λ (y : Ratio). Gives Div y a.tiny r) (sym (margin_once high j false a.real b.real a.is_real b.is_real))
      (subst (λ (y : Ratio). Gives Div b.real y r) (sym (margin_once high j true a.tiny b.tiny a.is_tiny b.is_tiny)) b.gives))

  -- of two least quotients neither is below the other
  no_less : (q r : Ratio) → IsLeastQuotient p x t q → IsLeastQuotient p x t r → ¬ IsBelow (fraction_of q) (fraction_of r)
  no_less q r a b = let told = b.least a.high a.range a.is_range a.is.tight in
      subst (λ (y : Ratio). ¬ IsBelow (fraction_of y) (fraction_of r)) (quotient_at_once a.high a.range told.0 q told.1 a.is) told.2

  least_once : (q r : Ratio) → IsLeastQuotient p x t q → IsLeastQuotient p x t r → q ≡ r
  least_once q r a b = neither_below q r (no_less q r a b) (no_less r q b a)

  half_once : (s r : Ratio) → IsHalf p x t s → IsHalf p x t r → s ≡ r
  half_once s r a b = quotient_once a.least a.two s r a.gives
      (subst (λ (y : Ratio). Gives Div y a.two r) (sym (least_once a.least b.least a.is_least b.is_least))
      (subst (λ (y : Ratio). Gives Div b.least y r) (sym (over_once a.two b.two _ _ a.is_two b.is_two)) b.gives))

  small_once : (s r : Ratio) → IsSmallNumber p x t s → IsSmallNumber p x t r → s ≡ r
  small_once s r (inl a) (inl b) = half_once s r a b
  small_once s r (inl a) (inr b) = absurd (b.1 a.is_least.high a.is_least.range a.is_least.is_range a.is_least.is.tight)
  small_once s r (inr a) (inl b) = absurd (a.1 b.is_least.high b.is_least.range b.is_least.is_range b.is_least.is.tight)
  small_once s r (inr a) (inr b) = over_once s r _ _ a.0 b.0

  tiny_once : (s : Ratio) (j : ℕ) (m n : Ratio) → IsTinyProduct p x t s j m → IsTinyProduct p x t s j n → m ≡ n
  tiny_once s j m n a b = product_once a.tiny s m n a.gives (subst (λ (y : Ratio). Gives Mul y s n) (sym (over_once a.tiny b.tiny _ _ a.is_tiny b.is_tiny)) b.gives)

  value_once : (s : Ratio) (j : ℕ) (v w : Ratio) → IsValueWith p x t s j v → IsValueWith p x t s j w → v ≡ w
  value_once s j v w a b = sum_once a.real a.product v w a.gives
      (subst (λ (y : Ratio). Gives Add y a.product w) (sym (over_once a.real b.real _ _ a.is_real b.is_real))
      (subst (λ (y : Ratio). Gives Add b.real y w) (sym (tiny_once s j a.product b.product a.is_product b.is_product)) b.gives))

-- lists with the same at each place
pub same_lists : {X : Type 0} (xs ys : List X) → length xs ≡ length ys → ((j : ℕ) (x y : X) → slice_get xs j ≡ Some x → slice_get ys j ≡ Some y → x ≡ y) → xs ≡ ys
same_lists [] [] e h = refl
same_lists [] (y ∷ ys) e h = absurd (omega (arith, e))
same_lists (x ∷ xs) [] e h = absurd (omega (arith, e))
same_lists {X} (x ∷ xs) (y ∷ ys) e h = ap₂ (λ (z : X) (zs : List X). z ∷ zs) (h zero x y refl refl) (same_lists xs ys (omega (arith, e)) (λ j a b i k. h (suc j) a b i k))

-- ---- two solved forms

module _ (one : HasOneSolvedForm) (p : WholeProblem) (unit : 0 < p.unit) (x : Corner) where
  below_all : (j : ℕ) → j < length p.ranges → j < variables p
  unfolding variables
  below_all j l = omega (arith, l)

  module _ (t u : Factors) (st : IsSolvedForm p x t) (su : IsSolvedForm p x u) where
    margin_too : (high : Bool) (j : ℕ) (c : Bool) (g : Ratio) → j < length p.ranges → IsMargin p x t high j c g → IsMargin p x u high j c g
    margin_too high j c g l h = record { limit = h.limit; is_limit = h.is_limit; value = h.value; is_value = part_too one p x t u st su c j h.value unit (below_all j l) h.is_value; gives = h.gives }

    quotient_too : (high : Bool) (j : ℕ) (r : Ratio) → j < length p.ranges → IsQuotientAt p x t high j r → IsQuotientAt p x u high j r
    quotient_too high j r l h = record {
      tight = tight_too one p x t u st su high j (below_all j l) h.tight;
      real = h.real;
      is_real = margin_too high j false h.real l h.is_real;
      tiny = h.tiny;
      is_tiny = margin_too high j true h.tiny l h.is_tiny;
      gives = h.gives;
    }

    tiny_too : (s : Ratio) (j : ℕ) (m : Ratio) → j < length p.ranges → IsTinyProduct p x t s j m → IsTinyProduct p x u s j m
    tiny_too s j m l h = record { tiny = h.tiny; is_tiny = part_too one p x t u st su true j h.tiny unit (below_all j l) h.is_tiny; gives = h.gives }

    value_too : (s : Ratio) (j : ℕ) (v : Ratio) → j < length p.ranges → IsValueWith p x t s j v → IsValueWith p x u s j v
    value_too s j v l h = record {
      real = h.real;
      is_real = part_too one p x t u st su false j h.real unit (below_all j l) h.is_real;
      product = h.product;
      is_product = tiny_too s j h.product l h.is_product;
      gives = h.gives;
    }

    values_too : (s : Ratio) (values : List Ratio) → AreValuesWith p x t s values → AreValuesWith p x u s values
    values_too s values h = record { each = h.each; are = λ j v at. value_too s j v (subst (λ (n : ℕ). j < n) h.each (slice_get_within values j v at)) (h.are j v at) }

  module _ (t u : Factors) (st : IsSolvedForm p x t) (su : IsSolvedForm p x u) where
    small_too : (s : Ratio) → IsSmallNumber p x t s → IsSmallNumber p x u s
    small_too s (inl h) = inl (record {
      least = h.least;
      is_least = record {
        high = h.is_least.high;
        range = h.is_least.range;
        is_range = h.is_least.is_range;
        is = quotient_too t u st su h.is_least.high h.is_least.range h.least h.is_least.is_range h.is_least.is;
        least = λ high j l tight. let told = h.is_least.least high j l (tight_too one p x u t su st high j (below_all j l) tight) in (told.0, quotient_too t u st su high j told.0 l told.1, told.2);
      };
      two = h.two;
      is_two = h.is_two;
      gives = h.gives;
    })
    small_too s (inr h) = inr (h.0, λ high j l tight. h.1 high j l (tight_too one p x u t su st high j (below_all j l) tight))

    pub values_once : (s r : Ratio) (values others : List Ratio) → IsSmallNumber p x t s → AreValuesWith p x t s values → IsSmallNumber p x u r → AreValuesWith p x u r others → values ≡ others
    values_once s r values others is_s of_s is_r of_r = same_lists values others (of_s.each ∙ sym of_r.each) at
      where
        same : s ≡ r
        same = small_once p x u s r (small_too s is_s) is_r

        moved : AreValuesWith p x u r values
        moved = subst (λ (y : Ratio). AreValuesWith p x u y values) same (values_too t u st su s values of_s)

        at : (j : ℕ) (v w : Ratio) → slice_get values j ≡ Some v → slice_get others j ≡ Some w → v ≡ w
        at j v w i k = value_once p x u r j v w (moved.are j v i) (of_r.are j w k)
