-- Sums whose terms are whole numbers over one denominator: while these fit, no operation passes.
use Rattle.std.proofs.Common.{◌≡◌, ℕ, ◌+◌, ◌*◌, ◌<◌, ◌≤◌, ◌^◌, ℤ, pos, neg_ℤ, ◌+ℤ◌, ◌*ℤ◌, List, [], ◌∷◌, ◌++◌, Ok, refl, sym, ap, ◌∙◌, arith}
use Rattle.std.specs.Prelude.{unsigned_abs}
use Rattle.std.proofs.lemmas.Int.{ints}
use Rattle.xc_frac.specs.declared.wide.Op.TheVariants.{Add, Sub, Mul}
use Rattle.xc_joint.proofs.Reduced.{reduced}
use Rattle.xc_model.specs.Fraction.{Fraction, SameNumber, IsNumberOver, IsProductOver, sum_of, difference_of, product_of, neg_of}
use Rattle.xc_model.specs.Ratio.{Ratio, IsOver, fraction_of}
use Rattle.xc_model.specs.Width.{IsNarrow, SumFits}
use Rattle.xc_model.proofs.Integers.{unsigned_abs-neg}
use Rattle.xc_model.proofs.Numbers.{same-sym, same-trans}
use Rattle.xc_model.proofs.NumbersOver.{difference_of_fits, neg_number, number_same, over_number, product_number, product_room, sum_number, sum_of_fits}
use Rattle.xc_model.proofs.Over.{ratio}
use Rattle.xc_verify.specs.Operations.{IsResult}
use Rattle.xc_verify.specs.Sums.{Term, plus, minus, plus_product, minus_product, zero_ratio, IsSum, IsSumOf, IsWith}
use Rattle.xc_verify.specs.Laws.{SumsGoOn}

-- ---- one operation

same_over_one : (x y : Fraction) (n : ℤ) (d : ℕ) → IsNumberOver x n d → IsNumberOver y n d → SameNumber x y
same_over_one x y n d h k = same-trans x (ratio n d h.positive) y (number_same x n d h) (same-sym y (ratio n d h.positive) (record { cross = k.cross }))

adds : (x g : Ratio) (n m : ℤ) (d : ℕ) → IsOver x n d → IsOver g m d → SumFits n m d → (r : Ratio) × IsResult Add x g (Ok r) × IsOver r (n +ℤ m) d
adds x g n m d left right fit =
    let made = reduced (n +ℤ m) d left.positive fit.den fit.sum in
    let a = over_number x n d left in
    let b = over_number g m d right in
    let same = same_over_one (fraction_of made.0) (sum_of (fraction_of x) (fraction_of g)) (n +ℤ m) d (over_number made.0 (n +ℤ m) d made.1) (sum_number (fraction_of x) (fraction_of g) n m d a b) in
    (made.0, (sum_of_fits x g n m d a b fit, same), made.1)

subtracts : (x g : Ratio) (n m : ℤ) (d : ℕ) → IsOver x n d → IsOver g m d → SumFits n (neg_ℤ m) d → (r : Ratio) × IsResult Sub x g (Ok r) × IsOver r (n +ℤ neg_ℤ m) d
subtracts x g n m d left right fit =
    let made = reduced (n +ℤ neg_ℤ m) d left.positive fit.den fit.sum in
    let a = over_number x n d left in
    let b = over_number g m d right in
    let same = same_over_one (fraction_of made.0) (difference_of (fraction_of x) (fraction_of g)) (n +ℤ neg_ℤ m) d (over_number made.0 (n +ℤ neg_ℤ m) d made.1) (sum_number (fraction_of x) (neg_of (fraction_of g)) n (neg_ℤ m) d a (neg_number (fraction_of g) m d b)) in
    (made.0, (difference_of_fits x g n m d a b fit, same), made.1)

-- a whole number
pub record IsWhole (f : Ratio) (u : ℤ) : Type 0 where
  pub num : f.num ≡ u
  pub den : f.den ≡ pos 1

pub whole_over : (f : Ratio) (u : ℤ) → IsWhole f u → IsOver f u 1
whole_over f u h = record { positive = omega arith; same = ap (λ z. z *ℤ pos 1) h.num ∙ ap (λ z. u *ℤ z) (sym h.den) }

multiplies : (f g : Ratio) (u m : ℤ) (d : ℕ) → IsWhole f u → IsOver g m d → d < 2 ^ 127 → IsNarrow (u *ℤ m) → (r : Ratio) × IsResult Mul f g (Ok r) × IsOver r (u *ℤ m) d
multiplies f g u m d is right den narrow =
    let made = reduced (u *ℤ m) d right.positive den narrow in
    let a = over_number f u 1 (whole_over f u is) in
    let b = over_number g m d right in
    let one : 1 * d ≡ d = omega arith in
    let over : IsProductOver u 1 m d (u *ℤ m) d = record { positive = right.positive; cross = ap (λ (k : ℕ). (u *ℤ m) *ℤ pos k) one } in
    let same = same_over_one (fraction_of made.0) (product_of (fraction_of f) (fraction_of g)) (u *ℤ m) d (over_number made.0 (u *ℤ m) d made.1) (product_number (fraction_of f) (fraction_of g) u m (u *ℤ m) 1 d d a b over) in
    (made.0, (product_room (fraction_of f) (fraction_of g) u m (u *ℤ m) 1 d d a b over den narrow, same), made.1)

-- ---- one term

-- the term adds m / d, where that fits
abbrev pub IsAdded : ℕ → Term → ℤ → Type 0
IsAdded d t m = (x : Ratio) (n : ℤ) → IsOver x n d → SumFits n m d → (r : Ratio) × IsWith x t (Ok r) × IsOver r (n +ℤ m) d

pub plus_added : (d : ℕ) (f : Ratio) (m : ℤ) → IsOver f m d → IsAdded d (plus f) m
plus_added d f m h x n left fit = adds x f n m d left h fit

pub minus_added : (d : ℕ) (f : Ratio) (m : ℤ) → IsOver f m d → IsAdded d (minus f) (neg_ℤ m)
minus_added d f m h x n left fit = subtracts x f n m d left h fit

pub plus_product_added : (d : ℕ) (f g : Ratio) (u m : ℤ) → IsWhole f u → IsOver g m d → IsAdded d (plus_product f g) (u *ℤ m)
plus_product_added d f g u m is h x n left fit =
    let p = multiplies f g u m d is h fit.den fit.right in
    let r = adds x p.0 n (u *ℤ m) d left p.2 fit in
    (r.0, (Ok p.0, p.1, r.1), r.2)

pub minus_product_added : (d : ℕ) (f g : Ratio) (u m : ℤ) → IsWhole f u → IsOver g m d → IsAdded d (minus_product f g) (neg_ℤ (u *ℤ m))
minus_product_added d f g u m is h x n left fit =
    let turned = unsigned_abs-neg (u *ℤ m) in
    let narrow = fit.right in
    let p = multiplies f g u m d is h fit.den (omega (arith, turned, narrow)) in
    let r = subtracts x p.0 n (u *ℤ m) d left p.2 fit in
    (r.0, (Ok p.0, p.1, r.1), r.2)

-- ---- all terms

-- the terms add no more than size / d in magnitude, and nothing passes where the sum fits
abbrev pub IsSummed : ℕ → List Term → ℕ → Type 0
IsSummed d ts size = (x : Ratio) (n : ℤ) → IsOver x n d → d < 2 ^ 127 → unsigned_abs n + size < 2 ^ 127 → (r : Ratio) × (k : ℤ) × IsSum (Ok x) ts (Ok r) × IsOver r k d × (unsigned_abs k ≤ unsigned_abs n + size)

sum_size : (a b : ℤ) → unsigned_abs (a +ℤ b) ≤ unsigned_abs a + unsigned_abs b
sum_size a b = omega (arith, ints)

pub summed_none : (d size : ℕ) → IsSummed d [] size
summed_none d size x n over den fits = (x, n, refl, over, omega arith)

pub summed_more : (d : ℕ) (t : Term) (ts : List Term) (m : ℤ) (a b : ℕ) → IsAdded d t m → unsigned_abs m ≤ a → IsSummed d ts b → IsSummed d (t ∷ ts) (a + b)
summed_more d t ts m a b added small rest x n over den fits =
    let size = sum_size n m in
    let one = added x n over (record { den = den; left = omega (arith, fits); right = omega (arith, fits, small); sum = omega (arith, fits, small, size) }) in
    let all = rest one.0 (n +ℤ m) one.2 den (omega (arith, fits, small, size)) in
    let end = all.4 in
    (all.0, all.1, (Ok one.0, one.1, all.2), all.3, omega (arith, end, size, small))

pub summed_append : SumsGoOn → (d : ℕ) (xs ys : List Term) (a b : ℕ) → IsSummed d xs a → IsSummed d ys b → IsSummed d (xs ++ ys) (a + b)
summed_append goes_on d xs ys a b first second x n over den fits =
    let one = first x n over den (omega (arith, fits)) in
    let size = one.4 in
    let two = second one.0 one.1 one.3 den (omega (arith, fits, size)) in
    let end = two.4 in
    (two.0, two.1, goes_on (Ok x) (Ok one.0) (Ok two.0) xs ys one.2 two.2, two.3, omega (arith, end, size))

pub summed_wider : (d : ℕ) (ts : List Term) (a b : ℕ) → a ≤ b → IsSummed d ts a → IsSummed d ts b
summed_wider d ts a b l h x n over den fits =
    let r = h x n over den (omega (arith, l, fits)) in
    let size = r.4 in
    (r.0, r.1, r.2, r.3, omega (arith, size, l))

-- from 0
pub summed : (d : ℕ) (ts : List Term) (size : ℕ) → 0 < d → d < 2 ^ 127 → size < 2 ^ 127 → IsSummed d ts size → (x : Ratio) × IsSumOf ts (Ok x)
summed d ts size some den small h =
    let r = h zero_ratio (pos 0) (record { positive = some; same = omega (arith, ints) }) den (omega (arith, small)) in
    (r.0, r.2)
