-- What is a sum of the first spans' ends is a signed sum of the forest.
use Rattle.std.proofs.Common.{◌≡◌, ℕ, ◌+◌, ◌<◌, Bool, true, false, List, length, pos, refl, ap, ◌∙◌}
use Rattle.xc_forest.specs.Forests.{Choice, Neither, Plus, Minus, IsSignedSum, range_at, sum_below, worth_of}
use Rattle.xc_lists.specs.Members.{IsIn, IsOnce}
use Rattle.xc_forest.specs.Steps.Scaled.{scale_of, first_spans}
use Rattle.xc_forest.specs.Steps.Vertices.{sum_over, part, no_span, worth, IsSum}
use Rattle.xc_forest.proofs.ListedSums.{points_listed}
use Rattle.xc_forest.proofs.Scales.{positive_scale, first_low, first_high, first_none, parts_below_over, worth_over, worth_pair, same_over}
use Rattle.xc_interval.specs.declared.interval.Interval.{Interval}
use Rattle.xc_model.specs.Parts.{Parts, WholeParts, ArePartsOver}

no_worth : (c : Bool) (k : Choice) → worth c k no_span ≡ pos 0
no_worth c Neither = refl
no_worth false (Plus false) = refl
no_worth false (Plus true) = refl
no_worth true (Plus false) = refl
no_worth true (Plus true) = refl
no_worth false (Minus false) = refl
no_worth false (Minus true) = refl
no_worth true (Minus false) = refl
no_worth true (Minus true) = refl

module _ (ranges : List (Interval Parts)) (m : ℕ) (listing : List ℕ) (once : IsOnce listing) (known : (v : ℕ) → IsIn v listing → v < length ranges + m) (all : (v : ℕ) → v < length ranges + m → IsIn v listing) where
  pub signed_of : (x : Parts) (a : WholeParts) → IsSum listing (first_spans ranges) a → ArePartsOver x a (scale_of ranges) → IsSignedSum ranges x
  signed_of x a s h = record {
    choice = s.choice;
    is = same_over x _ a _ (scale_of ranges) (λ c. s.is c ∙ listed c ∙ pick c) h
        (parts_below_over (length ranges) (λ p. worth_of (s.choice p) (range_at ranges p)) (λ p. worth_pair (s.choice p) (first_spans ranges p)) (scale_of ranges) (positive_scale ranges)
        (λ p l. worth_over (s.choice p) (range_at ranges p) (first_spans ranges p) (scale_of ranges) (first_low ranges p l) (first_high ranges p l)));
  }
    where
      listed : (c : Bool) → sum_over listing (λ v. worth c (s.choice v) (first_spans ranges v)) ≡ sum_below (length ranges) (λ v. worth c (s.choice v) (first_spans ranges v))
      listed c = points_listed (length ranges) m listing once known all _ (λ v l. ap (worth c (s.choice v)) (first_none ranges v l) ∙ no_worth c (s.choice v))

      pick : (c : Bool) → sum_below (length ranges) (λ v. worth c (s.choice v) (first_spans ranges v)) ≡ part c (record { real = sum_below (length ranges) (λ p. (worth_pair (s.choice p) (first_spans ranges p)).real); tiny = sum_below (length ranges) (λ p. (worth_pair (s.choice p) (first_spans ranges p)).tiny) })
      pick false = refl
      pick true = refl
