-- Where whole numbers over one denominator fit, nothing passes: what the traits' laws are met by.
use Rattle.std.proofs.Common.{ℕ, lit<, ℤ, pos, inl, inr}
use Rattle.std.specs.Prelude.{neg_ℤ}
use Rattle.xc_model.specs.Fraction.{whole, SameNumber, IsNumberOver}
use Rattle.xc_model.specs.Ratio.{fraction_of}
use Rattle.xc_model.specs.Width.{SumFits}
use Rattle.xc_model.proofs.NumbersOver.{zero_over, sum_of_fits, difference_of_fits, product_room, quotient_room}
use Rattle.xc_model.specs.Parts.{Parts, real_alone, WholeParts, ArePartsOver, whole_alone, whole_neg, PartsFit, pair_of}
use Rattle.xc_frac.specs.Passes.{PassesAs, FirstPasses, SumsHaveRoom, DifferencesHaveRoom, ProductsHaveRoom, QuotientsHaveRoom}
use Rattle.xc_frac.specs.declared.wide.Wide.{Wide}
use Rattle.xc_frac.specs.declared.wide.Op.{Op}
use Rattle.xc_frac.specs.declared.wide.Op.TheVariants.{Add, Sub}

-- a number with no tiny part
pub alone_over : (x : Parts) (n : ℤ) (d : ℕ) → SameNumber x.tiny (whole (pos 0)) → IsNumberOver x.real n d → ArePartsOver x (whole_alone n) d
alone_over x n d none real = record { real = real; tiny = zero_over x.tiny d real.positive none }

-- what fits beside 0 fits
pub alone_fit : (n m : ℤ) (d : ℕ) → SumFits n m d → PartsFit (whole_alone n) (whole_alone m) d
alone_fit n m d fit = record { real = fit; tiny = record { den = fit.den; left = lit< tt; right = lit< tt; sum = lit< tt } }

-- ---- fractions

pub sums_fit : SumsHaveRoom (λ x. real_alone (fraction_of x)) PassesAs
sums_fit x y a b d left right fit w h = sum_of_fits x y a.real b.real d left.real right.real fit.real h.1

pub differences_fit : DifferencesHaveRoom (λ x. real_alone (fraction_of x)) PassesAs
differences_fit x y a b d left right fit w h = difference_of_fits x y a.real b.real d left.real right.real fit.real h.1

pub products_fit : ProductsHaveRoom (λ x. real_alone (fraction_of x)) PassesAs
products_fit x y n m p d e c left right times small narrow w h = product_room (fraction_of x) (fraction_of y) n m p d e c left right times small narrow h.1

pub quotients_fit : QuotientsHaveRoom (λ x. real_alone (fraction_of x)) PassesAs
quotients_fit x y n m p d e c left right by small narrow w h = quotient_room (fraction_of x) (fraction_of y) n m p d e c left right by small narrow h.1

-- ---- pairs of numbers that have no tiny part of their own

module _ {K : Type 0} (parts : K → Parts) (passes : Op → K → K → Wide → Type 0) (no_tiny : (x : K) → SameNumber (parts x).tiny (whole (pos 0))) where
  pub pair_sums_fit : SumsHaveRoom parts passes → (x y t s : K) (a b : WholeParts) (d : ℕ) → ArePartsOver (pair_of parts x t) a d → ArePartsOver (pair_of parts y s) b d → PartsFit a b d
      → (w : Wide) → ¬ (FirstPasses (passes Add x y) (passes Add t s) w)
  pair_sums_fit room x y t s a b d left right fit w (inl h) =
      room x y (whole_alone a.real) (whole_alone b.real) d (alone_over (parts x) a.real d (no_tiny x) left.real) (alone_over (parts y) b.real d (no_tiny y) right.real) (alone_fit a.real b.real d fit.real) w h
  pair_sums_fit room x y t s a b d left right fit w (inr h) =
      room t s (whole_alone a.tiny) (whole_alone b.tiny) d (alone_over (parts t) a.tiny d (no_tiny t) left.tiny) (alone_over (parts s) b.tiny d (no_tiny s) right.tiny) (alone_fit a.tiny b.tiny d fit.tiny) w h.1

  pub pair_differences_fit : DifferencesHaveRoom parts passes → (x y t s : K) (a b : WholeParts) (d : ℕ) → ArePartsOver (pair_of parts x t) a d → ArePartsOver (pair_of parts y s) b d → PartsFit a (whole_neg b) d
      → (w : Wide) → ¬ (FirstPasses (passes Sub x y) (passes Sub t s) w)
  pair_differences_fit room x y t s a b d left right fit w (inl h) =
      room x y (whole_alone a.real) (whole_alone b.real) d (alone_over (parts x) a.real d (no_tiny x) left.real) (alone_over (parts y) b.real d (no_tiny y) right.real) (alone_fit a.real (neg_ℤ b.real) d fit.real) w h
  pair_differences_fit room x y t s a b d left right fit w (inr h) =
      room t s (whole_alone a.tiny) (whole_alone b.tiny) d (alone_over (parts t) a.tiny d (no_tiny t) left.tiny) (alone_over (parts s) b.tiny d (no_tiny s) right.tiny) (alone_fit a.tiny (neg_ℤ b.tiny) d fit.tiny) w h.1
