-- Values of the total and the terms exist exactly where a number of the total's range is a sum of one number of each term.
use Rattle.std.proofs.Common.{◌≡◌, ℕ, ◌+◌, ◌*◌, ◌^◌, ◌<◌, ◌≤◌, ◌-◌, ℤ, pos, ◌+ℤ◌, ◌*ℤ◌, List, [], ◌∷◌, inl, inr, map, sym, ap, subst, ◌∙◌, arith, lit<}
use Rattle.std.proofs.lemmas.Int.{ints}
use Rattle.std.proofs.Math.Nat.{mul-pos}
use Rattle.std.proofs.lemmas.Nat.{pow-add}
use Rattle.xc_bind.specs.declared.types.Binding.{Binding}
use Rattle.xc_bind.specs.declared.types.Term.{Term}
use Rattle.xc_decimal.specs.Shortest.{Shortest, decimal_number, ten_positive}
use Rattle.xc_interval.specs.Intervals.{numbers_of, HasNumber, IsPast, IsBefore}
use Rattle.xc_interval.specs.declared.ends.End.{End}
use Rattle.xc_interval.specs.declared.ends.End.TheVariants.{Closed, Open}
use Rattle.xc_interval.specs.declared.interval.Interval.{Interval}
use Rattle.xc_interval.specs.declared.range.Range.{Range}
use Rattle.xc_interval.specs.declared.range.Range.TheVariants as range
use Rattle.xc_model.specs.Fraction.{Fraction, SameNumber, IsBelow, whole, sum_of, product_of}
use Rattle.xc_model.proofs.Integers.{ring, add-mul, mul_assoc}
use Rattle.xc_model.proofs.Numbers.{same-refl, same-sym, same-trans, same-sum, same-product, below-same}
use Rattle.xc_model.proofs.Over.{ratio, add_over}
use Rattle.xc_points.specs.declared.types.Point.{Point}
use Rattle.xc_verdict.specs.Ranges.{range_at}
use Rattle.xc_verdict.specs.Steps.Sums.{Has, IsSumWith, IsTermOf, IsSumOf, IsShared}
use Rattle.xc_bind.specs.Equation.{most_places, whole_weight, weighted_sum, AddsUp}

-- ---- the same number lies in the same intervals

past_same : (e : End Fraction) (x y : Fraction) → SameNumber x y → IsPast IsBelow SameNumber e x → IsPast IsBelow SameNumber e y
past_same (Closed e) x y h (inl below) = inl (below-same e x e y (same-refl e) h below)
past_same (Closed e) x y h (inr same) = inr (same-trans e x y same h)
past_same (Open e) x y h below = below-same e x e y (same-refl e) h below

before_same : (e : End Fraction) (x y : Fraction) → SameNumber x y → IsBefore IsBelow SameNumber e x → IsBefore IsBelow SameNumber e y
before_same (Closed e) x y h (inl below) = inl (below-same x e y e h (same-refl e) below)
before_same (Closed e) x y h (inr same) = inr (same-trans y x e (same-sym x y h) same)
before_same (Open e) x y h below = below-same x e y e h (same-refl e) below

pub has_same : (i : Interval Fraction) (x y : Fraction) → SameNumber x y → HasNumber i x → HasNumber i y
has_same i x y h has = record { low = past_same i.low x y h has.low; high = before_same i.high x y h has.high }

range_same : (r : Range) (x y : Fraction) → SameNumber x y → Has r x → Has r y
range_same range.Wide x y h has = absurd has
range_same range.Empty x y h has = absurd has
range_same (range.Meets i) x y h has = has_same (numbers_of i) x y h has

-- ---- weights over one power of ten

-- no weight has more places
abbrev pub AreWithin : ℕ → List Term → Type 0
AreWithin places [] = Unit {0}
AreWithin places (term ∷ terms) = (term.weight.places ≤ places) × AreWithin places terms

within_more : (p q : ℕ) (terms : List Term) → p ≤ q → AreWithin p terms → AreWithin q terms
within_more p q [] h within = tt
within_more p q (term ∷ terms) h within = (omega (arith, h, within.0), within_more p q terms h within.1)

pub within_most : (terms : List Term) → AreWithin (most_places terms) terms
within_most [] = tt
within_most (term ∷ terms) = (omega arith, within_more (most_places terms) (most_places (term ∷ terms)) terms (omega arith) (within_most terms))

pub ten_split : (places q : ℕ) → places ≤ q → 10 ^ q ≡ 10 ^ (q - places) * 10 ^ places
ten_split places q h =
    let e : q ≡ (q - places) + places = omega (arith, h) in
    ap (λ (n : ℕ). 10 ^ n) e ∙ pow-add 10 (q - places) places

pub scaled_positive : (q places : ℕ) → 0 < q → 0 < q * 10 ^ places
scaled_positive q places p = mul-pos p (ten_positive places)

-- a weight times v/q, as a whole number over q * 10 ^ places
pub term_number : (places : ℕ) (w : Shortest) (v : ℤ) (q : ℕ) (p : 0 < q) → w.places ≤ places
    → SameNumber (product_of (ratio v q p) (decimal_number w)) (ratio (whole_weight places w *ℤ v) (q * 10 ^ places) (scaled_positive q places p))
term_number places w v q p within = record {
  cross =
      let e : (v g a b q : ℤ) → (v *ℤ g) *ℤ (q *ℤ (a *ℤ b)) ≡ ((g *ℤ a) *ℤ v) *ℤ (q *ℤ b) = λ v g a b q. simp ring in
      let split : pos (10 ^ places) ≡ pos (10 ^ (places - w.places)) *ℤ pos (10 ^ w.places) = ap (λ (n : ℕ). pos n) (ten_split w.places places within) in
      ap (λ z. (v *ℤ w.digits) *ℤ (pos q *ℤ z)) split ∙ e v w.digits (pos (10 ^ (places - w.places))) (pos (10 ^ w.places)) (pos q);
}

-- ---- numbers of the terms

module _ (points : List Point) where
  pub sum_same : (terms : List Term) (x y : Fraction) → SameNumber x y → IsSumOf points terms x → IsSumOf points terms y
  sum_same [] x y h zero = same-trans y x (whole (pos 0)) (same-sym x y h) zero
  sum_same (term ∷ terms) x y h sum = record { one = sum.one; other = sum.other; has_one = sum.has_one; has_other = sum.has_other; adds = same-trans (sum_of sum.one sum.other) x y sum.adds h }

  -- one number over q for each term, which lies in its range
  abbrev pub TermsHave : (q : ℕ) → 0 < q → List Term → List ℤ → Type 0
  TermsHave q p [] [] = Unit {0}
  TermsHave q p [] (v ∷ values) = ⊥
  TermsHave q p (term ∷ terms) [] = ⊥
  TermsHave q p (term ∷ terms) (v ∷ values) = Has (range_at points term.point) (ratio v q p) × TermsHave q p terms values

  -- they add up to a sum of the terms
  sum_of_values : (places q : ℕ) (p : 0 < q) (terms : List Term) (values : List ℤ) → AreWithin places terms → TermsHave q p terms values
      → IsSumOf points terms (ratio (weighted_sum places terms values) (q * 10 ^ places) (scaled_positive q places p))
  sum_of_values places q p [] [] within have = record { cross = omega (arith, ints) }
  sum_of_values places q p [] (v ∷ values) within have = absurd have
  sum_of_values places q p (term ∷ terms) [] within have = absurd have
  sum_of_values places q p (term ∷ terms) (v ∷ values) within have = record {
    one = ratio (whole_weight places term.weight *ℤ v) (q * 10 ^ places) (scaled_positive q places p);
    other = ratio (weighted_sum places terms values) (q * 10 ^ places) (scaled_positive q places p);
    has_one = record { number = ratio v q p; has = have.0; is = term_number places term.weight v q p within.0 };
    has_other = sum_of_values places q p terms values within.1 have.1;
    adds = add_over (whole_weight places term.weight *ℤ v) (weighted_sum places terms values) (q * 10 ^ places) (scaled_positive q places p);
  }

  -- values in the ranges that add up
  pub record Adds (binding : Binding) : Type 0 where
    pub over : ℕ
    pub positive : 0 < over
    pub total : ℤ
    pub values : List ℤ
    pub total_has : Has (range_at points binding.total) (ratio total over positive)
    pub terms_have : TermsHave over positive binding.terms values
    pub adds : AddsUp binding total values

  unscaled : (n t : ℤ) (q ten : ℕ) (p : 0 < q) (pp : 0 < q * ten) → pos ten *ℤ t ≡ n → SameNumber (ratio n (q * ten) pp) (ratio t q p)
  unscaled n t q ten p pp h = record {
    cross =
        let e : (t q ten : ℤ) → (ten *ℤ t) *ℤ q ≡ t *ℤ (q *ℤ ten) = λ t q ten. simp ring in
        ap (λ z. z *ℤ pos q) (sym h) ∙ e t (pos q) (pos ten);
  }

  pub shared_of_added : (binding : Binding) (a : Adds binding) → IsShared points binding (ratio a.total a.over a.positive)
  shared_of_added binding a =
      let places : ℕ = most_places binding.terms in
      let n : ℤ = weighted_sum places binding.terms a.values in
      record {
        total = a.total_has;
        terms = sum_same binding.terms (ratio n (a.over * 10 ^ places) (scaled_positive a.over places a.positive)) (ratio a.total a.over a.positive)
            (unscaled n a.total a.over (10 ^ places) a.positive (scaled_positive a.over places a.positive) a.adds)
            (sum_of_values places a.over a.positive binding.terms a.values (within_most binding.terms) a.terms_have);
      }

  -- ---- and the other way

  -- numbers times k
  abbrev times : ℕ → List ℤ → List ℤ
  times k values = map (λ v. v *ℤ pos k) values

  sum_times : (places k : ℕ) (terms : List Term) (values : List ℤ) → weighted_sum places terms (times k values) ≡ weighted_sum places terms values *ℤ pos k
  sum_times places k [] values = omega (arith, ints)
  sum_times places k (term ∷ terms) [] = omega (arith, ints)
  sum_times places k (term ∷ terms) (v ∷ values) =
      let w : ℤ = whole_weight places term.weight in
      omega (arith, ints, sym (mul_assoc w v (pos k)), sum_times places k terms values, add-mul (w *ℤ v) (weighted_sum places terms values) (pos k))

  -- n/d is (n k)/(d k)
  widened : (n : ℤ) (d k : ℕ) (p : 0 < d) (q : 0 < k) → SameNumber (ratio n d p) (ratio (n *ℤ pos k) (d * k) (mul-pos p q))
  widened n d k p q = record {
    cross =
        let e : (a b c : ℤ) → a *ℤ (b *ℤ c) ≡ (a *ℤ c) *ℤ b = λ a b c. simp ring in
        e n (pos d) (pos k);
  }

  widened_left : (x : Fraction) (q : ℕ) (p : 0 < q) → SameNumber x (ratio (x.num *ℤ pos q) (q * x.den) (mul-pos p x.positive))
  widened_left x q p = record {
    cross =
        let e : (a b c : ℤ) → a *ℤ (c *ℤ b) ≡ (a *ℤ c) *ℤ b = λ a b c. simp ring in
        e x.num (pos x.den) (pos q);
  }

  have_times : (q k : ℕ) (p : 0 < q) (some : 0 < k) (terms : List Term) (values : List ℤ) → TermsHave q p terms values → TermsHave (q * k) (mul-pos p some) terms (times k values)
  have_times q k p some [] [] have = tt
  have_times q k p some [] (v ∷ values) have = absurd have
  have_times q k p some (term ∷ terms) [] have = absurd have
  have_times q k p some (term ∷ terms) (v ∷ values) have =
      (range_same (range_at points term.point) (ratio v q p) (ratio (v *ℤ pos k) (q * k) (mul-pos p some)) (widened v q k p some) have.0, have_times q k p some terms values have.1)

  -- numbers of the terms over one denominator, whose sum is x
  record Values (places : ℕ) (terms : List Term) (x : Fraction) : Type 0 where
    over : ℕ
    positive : 0 < over
    values : List ℤ
    have : TermsHave over positive terms values
    add : SameNumber (ratio (weighted_sum places terms values) (over * 10 ^ places) (scaled_positive over places positive)) x

  rest_widened : (n : ℤ) (q k ten : ℕ) (p : 0 < q * ten) (pp : 0 < q * k * ten) → SameNumber (ratio (n *ℤ pos k) (q * k * ten) pp) (ratio n (q * ten) p)
  rest_widened n q k ten p pp = record {
    cross =
        let e : (n q k ten : ℤ) → (n *ℤ k) *ℤ (q *ℤ ten) ≡ n *ℤ ((q *ℤ k) *ℤ ten) = λ n q k ten. simp ring in
        e n (pos q) (pos k) (pos ten);
  }

  module _ (places : ℕ) (term : Term) (terms : List Term) (within : term.weight.places ≤ places) (x : Fraction)
      (sum : IsSumWith (λ y. IsTermOf points term y) (λ y. IsSumOf points terms y) x) (rest : Values places terms sum.other) where
    abbrev number : Fraction
    number = sum.has_one.number

    abbrev both_over : ℕ
    both_over = rest.over * number.den

    abbrev both_positive : 0 < both_over
    both_positive = mul-pos rest.positive number.positive

    abbrev value : ℤ
    value = number.num *ℤ pos rest.over

    abbrev scale_positive : 0 < both_over * 10 ^ places
    scale_positive = scaled_positive both_over places both_positive

    abbrev first_part : ℤ
    first_part = whole_weight places term.weight *ℤ value

    abbrev rest_part : ℤ
    rest_part = weighted_sum places terms (times number.den rest.values)

    value_same : SameNumber number (ratio value both_over both_positive)
    value_same = widened_left number rest.over rest.positive

    first_same : SameNumber (ratio first_part (both_over * 10 ^ places) scale_positive) sum.one
    first_same =
        let w : Fraction = decimal_number term.weight in
        let wide : Fraction = ratio value both_over both_positive in
        let over_ten : Fraction = ratio first_part (both_over * 10 ^ places) scale_positive in
        let at : SameNumber (product_of wide w) over_ten = term_number places term.weight value both_over both_positive within in
        let back : SameNumber (product_of wide w) (product_of number w) = same-product wide w number w (same-sym number wide value_same) (same-refl w) in
        same-trans over_ten (product_of wide w) sum.one (same-sym (product_of wide w) over_ten at) (same-trans (product_of wide w) (product_of number w) sum.one back sum.has_one.is)

    rest_same : SameNumber (ratio rest_part (both_over * 10 ^ places) scale_positive) sum.other
    rest_same =
        let n : ℤ = weighted_sum places terms rest.values in
        let small : Fraction = ratio n (rest.over * 10 ^ places) (scaled_positive rest.over places rest.positive) in
        let large : Fraction = ratio (n *ℤ pos number.den) (both_over * 10 ^ places) scale_positive in
        let at : SameNumber large small = rest_widened n rest.over number.den (10 ^ places) (scaled_positive rest.over places rest.positive) scale_positive in
        subst (λ z. SameNumber (ratio z (both_over * 10 ^ places) scale_positive) sum.other) (sym (sum_times places number.den terms rest.values)) (same-trans large small sum.other at rest.add)

    with_first : Values places (term ∷ terms) x
    with_first = record {
      over = both_over;
      positive = both_positive;
      values = value ∷ times number.den rest.values;
      have = (range_same (range_at points term.point) number (ratio value both_over both_positive) value_same sum.has_one.has, have_times rest.over number.den rest.positive number.positive terms rest.values rest.have);
      add =
          let one : Fraction = ratio first_part (both_over * 10 ^ places) scale_positive in
          let other : Fraction = ratio rest_part (both_over * 10 ^ places) scale_positive in
          let all : Fraction = ratio (first_part +ℤ rest_part) (both_over * 10 ^ places) scale_positive in
          same-trans all (sum_of one other) x (same-sym (sum_of one other) all (add_over first_part rest_part (both_over * 10 ^ places) scale_positive))
          (same-trans (sum_of one other) (sum_of sum.one sum.other) x (same-sum one other sum.one sum.other first_same rest_same) sum.adds);
    }

  values_of_sum : (places : ℕ) (terms : List Term) (x : Fraction) → AreWithin places terms → IsSumOf points terms x → Values places terms x
  values_of_sum places [] x within h = record {
    over = 1;
    positive = lit< tt;
    values = [];
    have = tt;
    add = same-trans (ratio (pos 0) (1 * 10 ^ places) (scaled_positive 1 places (lit< tt))) (whole (pos 0)) x (record { cross = omega (arith, ints) }) (same-sym x (whole (pos 0)) h);
  }
  values_of_sum places (term ∷ terms) x within h = with_first places term terms within.0 x h (values_of_sum places terms h.other within.1 h.has_other)

  pub added_of_shared : (binding : Binding) (x : Fraction) → IsShared points binding x → Adds binding
  added_of_shared binding x shared =
      let places : ℕ = most_places binding.terms in
      let v = values_of_sum places binding.terms x (within_most binding.terms) shared.terms in
      record {
        over = v.over * x.den;
        positive = mul-pos v.positive x.positive;
        total = x.num *ℤ pos v.over;
        values = times x.den v.values;
        total_has = range_same (range_at points binding.total) x (ratio (x.num *ℤ pos v.over) (v.over * x.den) (mul-pos v.positive x.positive)) (widened_left x v.over v.positive) shared.total;
        terms_have = have_times v.over x.den v.positive x.positive binding.terms v.values v.have;
        adds =
            let e : (t q ten : ℤ) → ten *ℤ (t *ℤ q) ≡ t *ℤ (q *ℤ ten) = λ t q ten. simp ring in
            e x.num (pos v.over) (pos (10 ^ places)) ∙ sym (sum_times places x.den binding.terms v.values ∙ v.add.cross);
      }
