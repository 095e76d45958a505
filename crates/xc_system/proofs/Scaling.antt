-- Fractions as whole numbers over a common denominator.
use Rattle.std.proofs.Common.{◌≡◌, ℕ, ◌*◌, ◌/◌, ◌<◌, List, [], ◌∷◌, Bool, true, false, cond, ℤ, pos, ◌+ℤ◌, ◌*ℤ◌, ◌<ℤ◌, inl, inr, sym, ap, subst, ◌∙◌, arith, lit<}
use Rattle.std.proofs.Math.Nat.{mul-pos, dvd-mul_right}
use Rattle.std.proofs.lemmas.Int.{ints}
use Rattle.std.specs.Prelude.{neg_ℤ, map}
use Rattle.std.specs.List.{AllByRecursion}
use Prim.Native.Nat.{◌∣◌}
use native.Mathlib.Nat.{mul-div_cancel'}
use Rattle.xc_interval.specs.Ends.{value_of, is_open}
use Rattle.xc_interval.specs.Intervals.{IsPast, IsBefore}
use Rattle.xc_interval.specs.declared.ends.End.{End}
use Rattle.xc_interval.specs.declared.ends.End.TheVariants.{Closed, Open}
use Rattle.xc_model.proofs.Integers.{ring, mul_comm, cancel, cancel_lt, scale_lt}
use Rattle.xc_model.proofs.Numbers.{same-refl, same-sym, same-trans, same-sum, same-product, same-neg, below-same}
use Rattle.xc_model.proofs.Over.{ratio, add_over}
use Rattle.xc_model.specs.Fraction.{Fraction, SameNumber, IsBelow, whole, sum_of, neg_of, difference_of, product_of, one_positive}
use Rattle.xc_model.specs.Ratio.{Ratio, fraction_of}
use Rattle.xc_system.specs.Refutations as listed
use Rattle.xc_system.specs.Solutions.{Assignment, IsZero, IsNegative, sum_over_entries}
use Rattle.xc_system.specs.declared.types.Entry.{Entry}
use Rattle.xc_system.proofs.Totals.{Term, total, one_at, IsLess}

-- x over d, where its denominator divides d
abbrev pub up : ℕ → Fraction → ℤ
up d x = x.num *ℤ pos (d / x.den)

pub up_stands : (d : ℕ) (p : 0 < d) (x : Fraction) → x.den ∣ d → SameNumber x (ratio (up d x) d p)
up_stands d p x h = record {
  cross =
      let whole : pos x.den *ℤ pos (d / x.den) ≡ pos d = ap (λ (n : ℕ). pos n) (mul-div_cancel' x.den h) in
      let turned : x.num *ℤ (pos x.den *ℤ pos (d / x.den)) ≡ (x.num *ℤ pos (d / x.den)) *ℤ pos x.den = simp ring in
      ap (λ (n : ℤ). x.num *ℤ n) (sym whole) ∙ turned;
}

-- what a number says of the whole one that stands for it
pub zero_stands : (x : Fraction) (n : ℤ) (d : ℕ) (p : 0 < d) → SameNumber x (ratio n d p) → IsZero x → n ≡ pos 0
zero_stands x n d p s z =
    let e : n *ℤ pos x.den ≡ pos 0 *ℤ pos d = sym s.cross ∙ ap (λ (m : ℤ). m *ℤ pos d) z in
    let positive = x.positive in
    cancel (pos x.den) n (pos 0) (λ q. absurd (omega (arith, ints, q))) (omega (arith, ints, e, mul_comm (pos x.den) n))

pub negative_stands : (x : Fraction) (n : ℤ) (d : ℕ) (p : 0 < d) → SameNumber x (ratio n d p) → IsNegative x → n <ℤ pos 0
negative_stands x n d p s z =
    let e : x.num *ℤ pos d ≡ n *ℤ pos x.den = s.cross in
    let positive = x.positive in
    let less : (pos d *ℤ x.num) <ℤ (pos d *ℤ pos 0) = scale_lt (pos d) x.num (pos 0) (omega (arith, ints)) z in
    cancel_lt (pos x.den) n (pos 0) (omega (arith, ints)) (omega (arith, ints, e, less, mul_comm (pos x.den) n, mul_comm (pos d) x.num))

pub positive_stands : (x : Fraction) (n : ℤ) (d : ℕ) (p : 0 < d) → SameNumber x (ratio n d p) → pos 0 <ℤ x.num → pos 0 <ℤ n
positive_stands x n d p s z =
    let e : x.num *ℤ pos d ≡ n *ℤ pos x.den = s.cross in
    let positive = x.positive in
    let more : (pos d *ℤ pos 0) <ℤ (pos d *ℤ x.num) = scale_lt (pos d) (pos 0) x.num (omega (arith, ints)) z in
    cancel_lt (pos x.den) (pos 0) n (omega (arith, ints)) (omega (arith, ints, e, more, mul_comm (pos x.den) n, mul_comm (pos d) x.num))

below_stands : (x y : Fraction) (n m : ℤ) (d : ℕ) (p : 0 < d) → SameNumber x (ratio n d p) → SameNumber y (ratio m d p) → IsBelow x y → n <ℤ m
below_stands x y n m d p s t h =
    let below : (n *ℤ pos d) <ℤ (m *ℤ pos d) = (below-same x y (ratio n d p) (ratio m d p) s t h).cross in
    cancel_lt (pos d) n m (omega (arith, ints)) (omega (arith, ints, below, mul_comm (pos d) n, mul_comm (pos d) m))

equal_stands : (x y : Fraction) (n m : ℤ) (d : ℕ) (p : 0 < d) → SameNumber x (ratio n d p) → SameNumber y (ratio m d p) → SameNumber x y → n ≡ m
equal_stands x y n m d p s t h =
    let same : n *ℤ pos d ≡ m *ℤ pos d = (same-trans (ratio n d p) x (ratio m d p) (same-sym x (ratio n d p) s) (same-trans x y (ratio m d p) h t)).cross in
    cancel (pos d) n m (λ q. absurd (omega (arith, ints, q))) (mul_comm (pos d) n ∙ same ∙ mul_comm m (pos d))

-- a number past a low end, and one before a high end
pub past_stands : (e : End Fraction) (x : Fraction) (n m : ℤ) (d : ℕ) (p : 0 < d) → SameNumber (value_of e) (ratio n d p) → SameNumber x (ratio m d p) → IsPast IsBelow SameNumber e x → IsLess (is_open e) n m
past_stands (Closed e) x n m d p s t (inl h) = let less : n <ℤ m = below_stands e x n m d p s t h in omega (arith, ints)
past_stands (Closed e) x n m d p s t (inr h) = let same : n ≡ m = equal_stands e x n m d p s t h in omega (arith, ints)
past_stands (Open e) x n m d p s t h = below_stands e x n m d p s t h

pub before_stands : (e : End Fraction) (x : Fraction) (n m : ℤ) (d : ℕ) (p : 0 < d) → SameNumber (value_of e) (ratio n d p) → SameNumber x (ratio m d p) → IsBefore IsBelow SameNumber e x → IsLess (is_open e) m n
before_stands (Closed e) x n m d p s t (inl h) = let less : m <ℤ n = below_stands x e m n d p t s h in omega (arith, ints)
before_stands (Closed e) x n m d p s t (inr h) = let same : m ≡ n = equal_stands x e m n d p t s h in omega (arith, ints)
before_stands (Open e) x n m d p s t h = below_stands x e m n d p t s h

-- sums, differences and products
pub nothing_stands : (d : ℕ) (p : 0 < d) → SameNumber (whole (pos 0)) (ratio (pos 0) d p)
nothing_stands d p = record { cross = omega (arith, ints) }

pub sum_stands : (x y : Fraction) (n m : ℤ) (d : ℕ) (p : 0 < d) → SameNumber x (ratio n d p) → SameNumber y (ratio m d p) → SameNumber (sum_of x y) (ratio (n +ℤ m) d p)
sum_stands x y n m d p s t = same-trans (sum_of x y) (sum_of (ratio n d p) (ratio m d p)) (ratio (n +ℤ m) d p) (same-sum x y (ratio n d p) (ratio m d p) s t) (add_over n m d p)

pub difference_stands : (x y : Fraction) (n m : ℤ) (d : ℕ) (p : 0 < d) → SameNumber x (ratio n d p) → SameNumber y (ratio m d p) → SameNumber (difference_of x y) (ratio (n +ℤ neg_ℤ m) d p)
difference_stands x y n m d p s t = sum_stands x (neg_of y) n (neg_ℤ m) d p s (same-neg y (ratio m d p) t)

pub product_stands : (x y : Fraction) (n m : ℤ) (d e : ℕ) (p : 0 < d) (q : 0 < e) → SameNumber x (ratio n d p) → SameNumber y (ratio m e q) → SameNumber (product_of x y) (ratio (n *ℤ m) (d * e) (mul-pos p q))
product_stands x y n m d e p q s t = same-product x y (ratio n d p) (ratio m e q) s t

-- over d times as much
pub more_stands : (x : Fraction) (n : ℤ) (d e : ℕ) (p : 0 < d) (q : 0 < e) → SameNumber x (ratio n e q) → SameNumber x (ratio (pos d *ℤ n) (d * e) (mul-pos p q))
more_stands x n d e p q s = same-trans x (ratio n e q) (ratio (pos d *ℤ n) (d * e) (mul-pos p q)) s (record { cross = let turned : n *ℤ (pos d *ℤ pos e) ≡ (pos d *ℤ n) *ℤ pos e = simp ring in turned })

unit_by : (b : Bool) → SameNumber (cond b (whole (pos 1)) (whole (pos 0))) (ratio (cond b (pos 1) (pos 0)) 1 one_positive)
unit_by true = same-refl (whole (pos 1))
unit_by false = same-refl (whole (pos 0))

pub unit_stands : (j p : ℕ) → SameNumber (listed.unit_at j p) (ratio (one_at j p) 1 one_positive)
unit_stands j p = unit_by _

-- factors over d
abbrev pub scaled : ℕ → List (ℕ × Ratio) → List Term
scaled d ms = map (λ m. (m.0, up d (fraction_of m.1))) ms

abbrev pub entries_scaled : ℕ → List Entry → List Term
entries_scaled d es = map (λ e. (e.point, up d (fraction_of e.weight))) es

module _ (d e : ℕ) (p : 0 < d) (q : 0 < e) where
  -- a number that is listed is over e, and its factor over d
  abbrev pub IsTotalled : (ℕ → Fraction) → (ℕ → ℤ) → ℕ × Ratio → Type 0
  IsTotalled of to m = ((fraction_of m.1).den ∣ d) × SameNumber (of m.0) (ratio (to m.0) e q)

  pub total_stands : (ms : List (ℕ × Ratio)) (of : ℕ → Fraction) (to : ℕ → ℤ) → AllByRecursion (IsTotalled of to) ms → SameNumber (listed.total ms of) (ratio (total (scaled d ms) to) (d * e) (mul-pos p q))
  total_stands [] of to a = nothing_stands (d * e) (mul-pos p q)
  total_stands (m ∷ ms) of to a =
      sum_stands _ _ _ _ (d * e) (mul-pos p q) (product_stands (fraction_of m.1) (of m.0) (up d (fraction_of m.1)) (to m.0) d e p q (up_stands d p (fraction_of m.1) a.0.0) a.0.1) (total_stands ms of to a.1)

  abbrev pub IsWeighed : Assignment → (ℕ → ℤ) → Entry → Type 0
  IsWeighed z to entry = ((fraction_of entry.weight).den ∣ d) × SameNumber (z entry.point) (ratio (to entry.point) e q)

  pub weighed_stands : (es : List Entry) (z : Assignment) (to : ℕ → ℤ) → AllByRecursion (IsWeighed z to) es → SameNumber (sum_over_entries es z) (ratio (total (entries_scaled d es) to) (d * e) (mul-pos p q))
  weighed_stands [] z to a = nothing_stands (d * e) (mul-pos p q)
  weighed_stands (x ∷ es) z to a =
      sum_stands _ _ _ _ (d * e) (mul-pos p q) (product_stands (fraction_of x.weight) (z x.point) (up d (fraction_of x.weight)) (to x.point) d e p q (up_stands d p (fraction_of x.weight) a.0.0) a.0.1) (weighed_stands es z to a.1)

-- what holds over every multiple of some number
pub record Common (P : ℕ → Type 0) : Type 0 where
  pub over : ℕ
  pub positive : 0 < over
  pub holds : (k : ℕ) → 0 < k → P (over * k)

pub common_den : (x : Fraction) → Common (λ d. x.den ∣ d)
common_den x = record { over = x.den; positive = x.positive; holds = λ k h. dvd-mul_right x.den k }

pub common_both : {P Q : ℕ → Type 0} → Common P → Common Q → Common (λ d. P d × Q d)
common_both {P} {Q} a b = record {
  over = a.over * b.over;
  positive = mul-pos a.positive b.positive;
  holds = λ k h. (subst P (left k) (a.holds (b.over * k) (mul-pos b.positive h)), subst Q (right k) (b.holds (a.over * k) (mul-pos a.positive h)));
}
  where
    left : (k : ℕ) → a.over * (b.over * k) ≡ a.over * b.over * k
    left k = omega arith

    right : (k : ℕ) → b.over * (a.over * k) ≡ a.over * b.over * k
    right k = omega arith

pub common_all : {X : Type 0} (P : ℕ → X → Type 0) (xs : List X) → ((x : X) → Common (λ d. P d x)) → Common (λ d. AllByRecursion (P d) xs)
common_all P [] h = record { over = 1; positive = lit< tt; holds = λ k m. tt }
common_all P (x ∷ xs) h = common_both {P = λ d. P d x} {Q = λ d. AllByRecursion (P d) xs} (h x) (common_all P xs h)

pub common_of : {P : ℕ → Type 0} → Common P → (d : ℕ) × (0 < d) × P d
common_of {P} a = (a.over, a.positive, subst P one (a.holds 1 (lit< tt)))
  where
    one : a.over * 1 ≡ a.over
    one = omega arith
