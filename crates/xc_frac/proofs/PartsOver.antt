-- Pairs of numbers as whole numbers over one denominator: their sums, negatives and order.
use Rattle.std.proofs.Common.{◌≡◌, ℕ, ℤ, refl, ◌∙◌, ap, inl, inr}
use Rattle.std.specs.Prelude.{neg_ℤ, ◌+ℤ◌, Result, Ok, Err, IsOk, IfOk, OnErr}
use Rattle.std.specs.declared.cmp.Ordering.{Ordering}
use Rattle.std.specs.declared.cmp.Ordering.TheVariants.{Less, Equal, Greater}
use Rattle.xc_model.specs.Fraction.{Fraction, SameNumber, IsNumberOver, IsProductOver, IsQuotientOver, sum_of, neg_of, difference_of, product_of, IsQuotient}
use Rattle.xc_model.specs.Order.{Orders}
use Rattle.xc_model.specs.Ratio.{Ratio, fraction_of}
use Rattle.xc_model.proofs.Numbers.{same-refl}
use Rattle.xc_model.proofs.NumbersOver.{number_over-same, neg_number, sum_number, product_number, quotient_number, below_number, equal_number}
use Rattle.xc_model.specs.Parts.{Parts, real_alone, SameParts, IsLess, OrdersParts, neg_parts, sum_parts, difference_parts, WholeParts, ArePartsOver, whole_neg, whole_sum, whole_difference, IsLessWhole, OrdersWhole}

pub sum_parts_over : (x y z : Parts) (a b : WholeParts) (d : ℕ) → SameParts z (sum_parts x y) → ArePartsOver x a d → ArePartsOver y b d → ArePartsOver z (whole_sum a b) d
sum_parts_over x y z a b d same left right = record {
  real = number_over-same (sum_of x.real y.real) z.real (a.real +ℤ b.real) d same.real (sum_number x.real y.real a.real b.real d left.real right.real);
  tiny = number_over-same (sum_of x.tiny y.tiny) z.tiny (a.tiny +ℤ b.tiny) d same.tiny (sum_number x.tiny y.tiny a.tiny b.tiny d left.tiny right.tiny);
}

pub neg_parts_over : (x z : Parts) (a : WholeParts) (d : ℕ) → SameParts z (neg_parts x) → ArePartsOver x a d → ArePartsOver z (whole_neg a) d
neg_parts_over x z a d same over = record {
  real = number_over-same (neg_of x.real) z.real (neg_ℤ a.real) d same.real (neg_number x.real a.real d over.real);
  tiny = number_over-same (neg_of x.tiny) z.tiny (neg_ℤ a.tiny) d same.tiny (neg_number x.tiny a.tiny d over.tiny);
}

pub difference_parts_over : (x y z : Parts) (a b : WholeParts) (d : ℕ) → SameParts z (difference_parts x y) → ArePartsOver x a d → ArePartsOver y b d → ArePartsOver z (whole_difference a b) d
difference_parts_over x y z a b d same left right =
    sum_parts_over x (neg_parts y) z a (whole_neg b) d same left
    (neg_parts_over y (neg_parts y) b d (record { real = same-refl (neg_of y.real); tiny = same-refl (neg_of y.tiny) }) right)

less_over : (x y : Parts) (a b : WholeParts) (d : ℕ) → IsLess x y → ArePartsOver x a d → ArePartsOver y b d → IsLessWhole a b
less_over x y a b d (inl below) left right = inl (below_number x.real y.real a.real b.real d left.real right.real below)
less_over x y a b d (inr rest) left right =
    inr (equal_number x.real y.real a.real b.real d left.real right.real rest.0, below_number x.tiny y.tiny a.tiny b.tiny d left.tiny right.tiny rest.1)

pub order_parts_over : (o : Ordering) (x y : Parts) (a b : WholeParts) (d : ℕ) → OrdersParts o x y → ArePartsOver x a d → ArePartsOver y b d → OrdersWhole o a b
order_parts_over Less x y a b d h left right = less_over x y a b d h left right
order_parts_over Equal x y a b d h left right =
    let real : a.real ≡ b.real = equal_number x.real y.real a.real b.real d left.real right.real h.real in
    let tiny : a.tiny ≡ b.tiny = equal_number x.tiny y.tiny a.tiny b.tiny d left.tiny right.tiny h.tiny in
    let first : a ≡ record { real = b.real; tiny = a.tiny } = ap (λ z. record { real = z; tiny = a.tiny }) real in
    first ∙ ap (λ z. record { real = b.real; tiny = z }) tiny
order_parts_over Greater x y a b d h left right = less_over y x b a d h right left

-- ---- what operations on fractions answer

pub fraction_neg_over : (x r : Fraction) (a : WholeParts) (d : ℕ) → SameNumber r (neg_of x) → ArePartsOver (real_alone x) a d → ArePartsOver (real_alone r) (whole_neg a) d
fraction_neg_over x r a d h over = neg_parts_over (real_alone x) (real_alone r) a d (record { real = h; tiny = record { cross = refl } }) over

pub fraction_order_over : (o : Ordering) (x y : Fraction) (a b : WholeParts) (d : ℕ) → Orders o x y → ArePartsOver (real_alone x) a d → ArePartsOver (real_alone y) b d → OrdersWhole o a b
fraction_order_over Less x y a b d h left right = order_parts_over Less (real_alone x) (real_alone y) a b d (inl h) left right
fraction_order_over Equal x y a b d h left right = order_parts_over Equal (real_alone x) (real_alone y) a b d (record { real = h; tiny = record { cross = refl } }) left right
fraction_order_over Greater x y a b d h left right = order_parts_over Greater (real_alone x) (real_alone y) a b d (inl h) left right

module _ {W : Type 0} (x y : Ratio) where
  pub fraction_sum_over : (o : Result Ratio W) (a b : WholeParts) (d : ℕ) → IfOk o (λ r. SameNumber (fraction_of r) (sum_of (fraction_of x) (fraction_of y)))
      → ArePartsOver (real_alone (fraction_of x)) a d → ArePartsOver (real_alone (fraction_of y)) b d → IfOk o (λ r. ArePartsOver (real_alone (fraction_of r)) (whole_sum a b) d)
  fraction_sum_over (Ok r) a b d h left right = sum_parts_over (real_alone (fraction_of x)) (real_alone (fraction_of y)) (real_alone (fraction_of r)) a b d (record { real = h; tiny = record { cross = refl } }) left right
  fraction_sum_over (Err w) a b d h left right = tt

  pub fraction_difference_over : (o : Result Ratio W) (a b : WholeParts) (d : ℕ) → IfOk o (λ r. SameNumber (fraction_of r) (difference_of (fraction_of x) (fraction_of y)))
      → ArePartsOver (real_alone (fraction_of x)) a d → ArePartsOver (real_alone (fraction_of y)) b d → IfOk o (λ r. ArePartsOver (real_alone (fraction_of r)) (whole_difference a b) d)
  fraction_difference_over (Ok r) a b d h left right = difference_parts_over (real_alone (fraction_of x)) (real_alone (fraction_of y)) (real_alone (fraction_of r)) a b d (record { real = h; tiny = record { cross = refl } }) left right
  fraction_difference_over (Err w) a b d h left right = tt

  module _ (n m p : ℤ) (d e c : ℕ) (left : IsNumberOver (fraction_of x) n d) (right : IsNumberOver (fraction_of y) m e) where
    pub fraction_product_over : (o : Result Ratio W) → IsProductOver n d m e p c → IfOk o (λ r. SameNumber (fraction_of r) (product_of (fraction_of x) (fraction_of y))) → IfOk o (λ r. IsNumberOver (fraction_of r) p c)
    fraction_product_over (Ok r) times h =
        number_over-same (product_of (fraction_of x) (fraction_of y)) (fraction_of r) p c h (product_number (fraction_of x) (fraction_of y) n m p d e c left right times)
    fraction_product_over (Err w) times h = tt

    pub fraction_quotient_over : (o : Result Ratio W) → IsQuotientOver n d m e p c → IfOk o (λ r. IsQuotient (fraction_of r) (fraction_of x) (fraction_of y)) → IfOk o (λ r. IsNumberOver (fraction_of r) p c)
    fraction_quotient_over (Ok r) by h = quotient_number (fraction_of x) (fraction_of y) n m p d e c left right by (fraction_of r) h
    fraction_quotient_over (Err w) by h = tt

-- what does not pass has an answer
pub ok_unless : {A W : Type 0} (o : Result A W) (P : Type 0) → OnErr o P → ¬ P → IsOk o
ok_unless (Ok r) P passes no_ = refl
ok_unless (Err w) P passes no_ = absurd (no_ passes)
