-- A small number keeps the order of pairs.
use Rattle.std.proofs.Common.{◌≡◌, ℕ, ◌*◌, ◌<◌, ◌⊎◌, ℤ, pos, ◌+ℤ◌, ◌*ℤ◌, neg_ℤ, ◌<ℤ◌, ◌≤ℤ◌, sym, ap, subst, ◌∙◌, arith, refl, inl, inr}
use Rattle.std.proofs.Math.Nat.{mul-pos}
use Rattle.std.proofs.lemmas.Int.{ints, by_lt_z}
use Rattle.xc_joint.specs.Small.{at, KeepsOrder, IsPositive}
use Rattle.xc_model.specs.Fraction.{Fraction, SameNumber, IsBelow, IsNumberOver, neg_of, difference_of, product_of}
use Rattle.xc_model.specs.Parts.{Parts, SameParts, IsLess}
use Rattle.xc_model.proofs.Integers.{ring, cancel_lt, scale_lt, scale_le, mul_positive, mul_comm}
use Rattle.xc_model.proofs.Numbers.{den_positive, same-refl, same-sum, same-product}
use Rattle.xc_model.proofs.NumbersOver.{below_number, equal_number, neg_number, product_number, sum_number}

-- ---- numbers over one denominator

multiple : (a d k n b : ℤ) → a *ℤ d ≡ n *ℤ b → a *ℤ (d *ℤ k) ≡ (n *ℤ k) *ℤ b
multiple a d k n b e =
    let left : a *ℤ (d *ℤ k) ≡ (a *ℤ d) *ℤ k = simp ring in
    let right : (n *ℤ b) *ℤ k ≡ (n *ℤ k) *ℤ b = simp ring in
    left ∙ ap (λ z. z *ℤ k) e ∙ right

-- x over a multiple of its denominator
pub over_multiple : (x : Fraction) (n : ℤ) (d k : ℕ) → 0 < k → IsNumberOver x n d → IsNumberOver x (n *ℤ pos k) (d * k)
over_multiple x n d k p h = record { positive = mul-pos h.positive p; cross = multiple x.num (pos d) (pos k) n (pos x.den) h.cross }

pub over_itself : (x : Fraction) → IsNumberOver x x.num x.den
over_itself x = record { positive = x.positive; cross = refl }

-- two numbers over one denominator that one of them is over already
pub record IsShared (x y : Fraction) : Type 0 where
  pub den : ℕ
  pub left : ℤ
  pub right : ℤ
  pub left_over : IsNumberOver x left den
  pub right_over : IsNumberOver y right den

swap_over : (x : Fraction) (n : ℤ) (d k : ℕ) → IsNumberOver x n (d * k) → IsNumberOver x n (k * d)
swap_over x n d k h = let e : d * k ≡ k * d = omega arith in subst (λ m. IsNumberOver x n m) e h

pub shared : (x y : Fraction) → IsShared x y
shared x y = record {
  den = x.den * y.den;
  left = x.num *ℤ pos y.den;
  right = y.num *ℤ pos x.den;
  left_over = over_multiple x x.num x.den y.den y.positive (over_itself x);
  right_over = swap_over y (y.num *ℤ pos x.den) y.den x.den (over_multiple y y.num y.den x.den x.positive (over_itself y));
}

-- the parts of two pairs over one denominator
pub record AreShared (x y : Parts) : Type 0 where
  pub den : ℕ
  pub x_real : ℤ
  pub x_tiny : ℤ
  pub y_real : ℤ
  pub y_tiny : ℤ
  pub x_real_over : IsNumberOver x.real x_real den
  pub x_tiny_over : IsNumberOver x.tiny x_tiny den
  pub y_real_over : IsNumberOver y.real y_real den
  pub y_tiny_over : IsNumberOver y.tiny y_tiny den

pub shared_parts : (x y : Parts) → AreShared x y
shared_parts x y =
    let a = shared x.real x.tiny in
    let b = shared y.real y.tiny in
    record {
      den = a.den * b.den;
      x_real = a.left *ℤ pos b.den;
      x_tiny = a.right *ℤ pos b.den;
      y_real = b.left *ℤ pos a.den;
      y_tiny = b.right *ℤ pos a.den;
      x_real_over = over_multiple x.real a.left a.den b.den b.left_over.positive a.left_over;
      x_tiny_over = over_multiple x.tiny a.right a.den b.den b.left_over.positive a.right_over;
      y_real_over = swap_over y.real (b.left *ℤ pos a.den) b.den a.den (over_multiple y.real b.left b.den a.den a.left_over.positive b.left_over);
      y_tiny_over = swap_over y.tiny (b.right *ℤ pos a.den) b.den a.den (over_multiple y.tiny b.right b.den a.den a.left_over.positive b.right_over);
    }

-- numbers over one denominator compare as the whole numbers do
pub number_below : (x y : Fraction) (n m : ℤ) (d : ℕ) → IsNumberOver x n d → IsNumberOver y m d → n <ℤ m → IsBelow x y
number_below x y n m d a b less =
    let d_positive : pos 0 <ℤ pos d = omega (arith, ints, a.positive) in
    let both : pos 0 <ℤ (pos x.den *ℤ pos y.den) = mul_positive (pos x.den) (pos y.den) (den_positive x) (den_positive y) in
    let grown = scale_lt (pos x.den *ℤ pos y.den) n m both less in
    let left : (pos x.den *ℤ pos y.den) *ℤ n ≡ pos d *ℤ (x.num *ℤ pos y.den) = go x.num (pos d) n (pos x.den) (pos y.den) a.cross in
    let right : (pos x.den *ℤ pos y.den) *ℤ m ≡ pos d *ℤ (y.num *ℤ pos x.den) = ap (λ z. z *ℤ m) (mul_comm (pos x.den) (pos y.den)) ∙ go y.num (pos d) m (pos y.den) (pos x.den) b.cross in
    record { cross = cancel_lt (pos d) (x.num *ℤ pos y.den) (y.num *ℤ pos x.den) d_positive (subst (λ z. z <ℤ (pos d *ℤ (y.num *ℤ pos x.den))) left (subst (λ z. ((pos x.den *ℤ pos y.den) *ℤ n) <ℤ z) right grown)) }
  where
    go : (a d n b c : ℤ) → a *ℤ d ≡ n *ℤ b → (b *ℤ c) *ℤ n ≡ d *ℤ (a *ℤ c)
    go a d n b c e =
        let left : (b *ℤ c) *ℤ n ≡ (n *ℤ b) *ℤ c = simp ring in
        let right : (a *ℤ d) *ℤ c ≡ d *ℤ (a *ℤ c) = simp ring in
        left ∙ ap (λ z. z *ℤ c) (sym e) ∙ right

-- a product, over the product of the denominators
pub product_over : (x y : Fraction) (n m : ℤ) (d k : ℕ) → IsNumberOver x n d → IsNumberOver y m k → IsNumberOver (product_of x y) (n *ℤ m) (d * k)
product_over x y n m d k a b = product_number x y n m (n *ℤ m) d k (d * k) a b (record { positive = mul-pos a.positive b.positive; cross = refl })

-- the number that a pair is, where the small number is m / k
pub at_over : (x : Parts) (s : Fraction) (n t m : ℤ) (d k : ℕ) → IsNumberOver x.real n d → IsNumberOver x.tiny t d → IsNumberOver s m k → IsNumberOver (at x s) (n *ℤ pos k +ℤ t *ℤ m) (d * k)
at_over x s n t m d k real tiny small = sum_number x.real (product_of x.tiny s) (n *ℤ pos k) (t *ℤ m) (d * k) (over_multiple x.real n d k small.positive real) (product_over x.tiny s t m d k tiny small)

pub difference_over : (x y : Fraction) (n m : ℤ) (d : ℕ) → IsNumberOver x n d → IsNumberOver y m d → IsNumberOver (difference_of x y) (n +ℤ neg_ℤ m) d
difference_over x y n m d a b = sum_number x (neg_of y) n (neg_ℤ m) d a (neg_number y m d b)

-- ---- a small number keeps the order

-- over whole numbers
grows : (p t v u k m : ℤ) → pos 0 <ℤ k → pos 0 <ℤ m → (p <ℤ v) ⊎ ((p ≡ v) × (t <ℤ u)) → (p <ℤ v → u <ℤ t → (m *ℤ (t +ℤ neg_ℤ u)) <ℤ ((v +ℤ neg_ℤ p) *ℤ k)) → (p *ℤ k +ℤ t *ℤ m) <ℤ (v *ℤ k +ℤ u *ℤ m)
grows p t v u k m pos_k pos_m (inl less) small = by_lt_z u t (λ lower. by_gap (small less lower)) (λ not_lower. by_order not_lower)
  where
    by_gap : (m *ℤ (t +ℤ neg_ℤ u)) <ℤ ((v +ℤ neg_ℤ p) *ℤ k) → (p *ℤ k +ℤ t *ℤ m) <ℤ (v *ℤ k +ℤ u *ℤ m)
    by_gap h =
        let left : m *ℤ (t +ℤ neg_ℤ u) ≡ t *ℤ m +ℤ neg_ℤ (u *ℤ m) = simp ring (omega (arith, ints)) in
        let right : (v +ℤ neg_ℤ p) *ℤ k ≡ v *ℤ k +ℤ neg_ℤ (p *ℤ k) = simp ring (omega (arith, ints)) in
        omega (arith, ints, h, left, right)

    by_order : t ≤ℤ u → (p *ℤ k +ℤ t *ℤ m) <ℤ (v *ℤ k +ℤ u *ℤ m)
    by_order le =
        let first = scale_lt k p v pos_k less in
        let second = scale_le m t u (omega (arith, ints, pos_m)) le in
        omega (arith, ints, first, second, mul_comm k p, mul_comm k v, mul_comm m t, mul_comm m u)
grows p t v u k m pos_k pos_m (inr same) small =
    let second = scale_lt m t u pos_m same.1 in
    omega (arith, ints, ap (λ z. z *ℤ k) same.0, second, mul_comm m t, mul_comm m u)

small_number : (s : Fraction) → IsPositive s → pos 0 <ℤ s.num
small_number s h = omega (arith, ints, h.cross)

-- of two pairs, the lesser stays the lesser
pub keeps_less : (x y : Parts) (s : Fraction) → IsPositive s → KeepsOrder x y s → IsLess x y → IsBelow (at x s) (at y s)
keeps_less x y s positive keeps less =
    let c = shared_parts x y in
    let k : ℕ = s.den in
    let small = over_itself s in
    let k_positive : pos 0 <ℤ pos k = omega (arith, ints, s.positive) in
    let small_gap : c.x_real <ℤ c.y_real → c.y_tiny <ℤ c.x_tiny → (s.num *ℤ (c.x_tiny +ℤ neg_ℤ c.y_tiny)) <ℤ ((c.y_real +ℤ neg_ℤ c.x_real) *ℤ pos k) = λ real tiny.
    below_number (product_of s (difference_of x.tiny y.tiny)) (difference_of y.real x.real) (s.num *ℤ (c.x_tiny +ℤ neg_ℤ c.y_tiny)) ((c.y_real +ℤ neg_ℤ c.x_real) *ℤ pos k) (k * c.den)
    (product_over s (difference_of x.tiny y.tiny) s.num (c.x_tiny +ℤ neg_ℤ c.y_tiny) k c.den small (difference_over x.tiny y.tiny c.x_tiny c.y_tiny c.den c.x_tiny_over c.y_tiny_over))
    (swap_over (difference_of y.real x.real) ((c.y_real +ℤ neg_ℤ c.x_real) *ℤ pos k) c.den k (over_multiple (difference_of y.real x.real) (c.y_real +ℤ neg_ℤ c.x_real) c.den k s.positive (difference_over y.real x.real c.y_real c.x_real c.den c.y_real_over c.x_real_over)))
    (keeps (number_below x.real y.real c.x_real c.y_real c.den c.x_real_over c.y_real_over real) (number_below y.tiny x.tiny c.y_tiny c.x_tiny c.den c.y_tiny_over c.x_tiny_over tiny)) in
    let order = by c less in
    number_below (at x s) (at y s) (c.x_real *ℤ pos k +ℤ c.x_tiny *ℤ s.num) (c.y_real *ℤ pos k +ℤ c.y_tiny *ℤ s.num) (c.den * k)
    (at_over x s c.x_real c.x_tiny s.num c.den k c.x_real_over c.x_tiny_over small)
    (at_over y s c.y_real c.y_tiny s.num c.den k c.y_real_over c.y_tiny_over small)
    (grows c.x_real c.x_tiny c.y_real c.y_tiny (pos k) s.num k_positive (small_number s positive) order small_gap)
  where
    by : (c : AreShared x y) → IsLess x y → (c.x_real <ℤ c.y_real) ⊎ ((c.x_real ≡ c.y_real) × (c.x_tiny <ℤ c.y_tiny))
    by c (inl less) = inl (below_number x.real y.real c.x_real c.y_real c.den c.x_real_over c.y_real_over less)
    by c (inr h) = inr (equal_number x.real y.real c.x_real c.y_real c.den c.x_real_over c.y_real_over h.0, below_number x.tiny y.tiny c.x_tiny c.y_tiny c.den c.x_tiny_over c.y_tiny_over h.1)

-- and equal pairs are the same number
pub keeps_same : (x y : Parts) (s : Fraction) → SameParts x y → SameNumber (at x s) (at y s)
keeps_same x y s h = same-sum x.real (product_of x.tiny s) y.real (product_of y.tiny s) h.real (same-product x.tiny s y.tiny s h.tiny (same-refl s))
