-- Without infinitely small parts, what lies in an interval of pairs is told by the real parts.
use Rattle.std.proofs.Common.{◌≡◌, ◌||◌, refl, sym, ◌∙◌, subst, inl, inr, pos}
use Rattle.std.specs.Prelude.{◌⊎◌, ◌↔◌}
use Rattle.xc_model.specs.Fraction.{Fraction, SameNumber, IsBelow, whole, sum_of, neg_of}
use Rattle.xc_model.proofs.Numbers.{same-refl, same-sym, same-trans}
use Rattle.xc_model.proofs.Orders.{number_order}
use Rattle.xc_model.specs.Parts.{Parts, SameParts, IsLess, real_alone, sum_parts, neg_parts}
use Rattle.xc_interval.specs.Arithmetic.{IsSumEnd, IsSumInterval, IsMadeEnd, IsTurned}
use Rattle.xc_interval.specs.Ends.{value_of, is_open, end_at}
use Rattle.xc_interval.specs.Intervals.{IsPast, IsBefore, Crosses, AreReal, pairs_of, reals_of, HasPair, HasNumber, HasNoPair, HasNoNumber}
use Rattle.xc_interval.specs.Tightest.{IsTighterLow, IsTighterHigh}
use Rattle.xc_interval.specs.declared.ends.End.{End}
use Rattle.xc_interval.specs.declared.ends.End.TheVariants.{Closed, Open}
use Rattle.xc_interval.specs.declared.interval.Interval.{Interval}

-- neither has a tiny part
both_zero : (x y : Fraction) → SameNumber x (whole (pos 0)) → SameNumber y (whole (pos 0)) → SameNumber x y
both_zero x y h i = same-trans x (whole (pos 0)) y h (same-sym y (whole (pos 0)) i)

-- of two such, one is not less by its tiny part
not_tiny : (x y : Fraction) → SameNumber x y → IsBelow x y → ⊥
not_tiny x y same below = number_order.irreflexive y (number_order.alike x y y y same (same-refl y) below)

less_real : (x y : Parts) → SameNumber x.tiny y.tiny → IsLess x y → IsBelow x.real y.real
less_real x y tiny (inl below) = below
less_real x y tiny (inr rest) = absurd (not_tiny x.tiny y.tiny tiny rest.1)

module _ {E : Type 0} (parts : E → Parts) (real : AreReal parts) where
  abbrev real_of : E → Fraction
  real_of e = (parts e).real

  -- ends among pairs and among numbers
  pub past_number : (e : End E) (x : Parts) → SameNumber x.tiny (whole (pos 0)) → IsPast IsLess SameParts (end_at parts e) x → IsPast IsBelow SameNumber (end_at real_of e) x.real
  past_number (Closed e) x tiny (inl less) = inl (less_real (parts e) x (both_zero _ _ (real e) tiny) less)
  past_number (Closed e) x tiny (inr same) = inr same.real
  past_number (Open e) x tiny less = less_real (parts e) x (both_zero _ _ (real e) tiny) less

  pub past_pair : (e : End E) (x : Parts) → SameNumber x.tiny (whole (pos 0)) → IsPast IsBelow SameNumber (end_at real_of e) x.real → IsPast IsLess SameParts (end_at parts e) x
  past_pair (Closed e) x tiny (inl below) = inl (inl below)
  past_pair (Closed e) x tiny (inr same) = inr (record { real = same; tiny = both_zero _ _ (real e) tiny })
  past_pair (Open e) x tiny below = inl below

  pub before_number : (e : End E) (x : Parts) → SameNumber x.tiny (whole (pos 0)) → IsBefore IsLess SameParts (end_at parts e) x → IsBefore IsBelow SameNumber (end_at real_of e) x.real
  before_number (Closed e) x tiny (inl less) = inl (less_real x (parts e) (both_zero _ _ tiny (real e)) less)
  before_number (Closed e) x tiny (inr same) = inr same.real
  before_number (Open e) x tiny less = less_real x (parts e) (both_zero _ _ tiny (real e)) less

  pub before_pair : (e : End E) (x : Parts) → SameNumber x.tiny (whole (pos 0)) → IsBefore IsBelow SameNumber (end_at real_of e) x.real → IsBefore IsLess SameParts (end_at parts e) x
  before_pair (Closed e) x tiny (inl below) = inl (inl below)
  before_pair (Closed e) x tiny (inr same) = inr (record { real = same; tiny = both_zero _ _ tiny (real e) })
  before_pair (Open e) x tiny below = inl below

  -- a pair without a tiny part lies there where its real part does
  pub lies_real : (i : Interval E) (x : Parts) → SameNumber x.tiny (whole (pos 0)) → HasPair (pairs_of parts i) x ↔ HasNumber (reals_of parts i) x.real
  lies_real i x tiny = (
    λ h. record { low = past_number i.low x tiny h.low; high = before_number i.high x tiny h.high },
    λ h. record { low = past_pair i.low x tiny h.low; high = before_pair i.high x tiny h.high },
  )

  pub lies_alone : (i : Interval E) (x : Fraction) → HasPair (pairs_of parts i) (real_alone x) ↔ HasNumber (reals_of parts i) x
  lies_alone i x = lies_real i (real_alone x) (same-refl (whole (pos 0)))

  -- crossing ends cross in both
  crosses_ends : (e f : End E) → Crosses IsBelow SameNumber (record { low = end_at real_of e; high = end_at real_of f }) → Crosses IsLess SameParts (record { low = end_at parts e; high = end_at parts f })
  crosses_ends (Closed e) (Closed f) (inl above) = inl (inl above)
  crosses_ends (Closed e) (Open f) (inl above) = inl (inl above)
  crosses_ends (Open e) (Closed f) (inl above) = inl (inl above)
  crosses_ends (Open e) (Open f) (inl above) = inl (inl above)
  crosses_ends (Closed e) (Closed f) (inr at) = inr (record { real = at.0; tiny = both_zero _ _ (real e) (real f) }, at.1)
  crosses_ends (Closed e) (Open f) (inr at) = inr (record { real = at.0; tiny = both_zero _ _ (real e) (real f) }, at.1)
  crosses_ends (Open e) (Closed f) (inr at) = inr (record { real = at.0; tiny = both_zero _ _ (real e) (real f) }, at.1)
  crosses_ends (Open e) (Open f) (inr at) = inr (record { real = at.0; tiny = both_zero _ _ (real e) (real f) }, at.1)

  pub crosses_real : (i : Interval E) → HasNoNumber (reals_of parts i) → HasNoPair (pairs_of parts i)
  crosses_real i h = crosses_ends i.low i.high h

  -- the real parts of values and flags
  value_real : (e : End E) → (value_of (end_at parts e)).real ≡ value_of (end_at real_of e)
  value_real (Closed e) = refl
  value_real (Open e) = refl

  open_real : (e : End E) → is_open (end_at parts e) ≡ is_open (end_at real_of e)
  open_real (Closed e) = refl
  open_real (Open e) = refl

  -- ends that are sums, or negatives
  sum_end : (e f s : End E) → IsSumEnd SameParts sum_parts (end_at parts e) (end_at parts f) (end_at parts s) → IsSumEnd SameNumber sum_of (end_at real_of e) (end_at real_of f) (end_at real_of s)
  sum_end e f s h = record {
    at = subst (λ z. SameNumber z (sum_of (value_of (end_at real_of e)) (value_of (end_at real_of f)))) (value_real s)
        (subst (λ z. SameNumber (value_of (end_at parts s)).real (sum_of z (value_of (end_at real_of f)))) (value_real e)
        (subst (λ z. SameNumber (value_of (end_at parts s)).real (sum_of (value_of (end_at parts e)).real z)) (value_real f) h.at.real));
    opens = sym (open_real s) ∙ h.opens ∙ (λ k. open_real e k || open_real f k);
  }

  negative_end : (e m : End E) → IsMadeEnd SameParts neg_parts (end_at parts e) (end_at parts m) → IsMadeEnd SameNumber neg_of (end_at real_of e) (end_at real_of m)
  negative_end e m h = record {
    at = subst (λ z. SameNumber z (neg_of (value_of (end_at real_of e)))) (value_real m) (subst (λ z. SameNumber (value_of (end_at parts m)).real (neg_of z)) (value_real e) h.at.real);
    opens = sym (open_real m) ∙ h.opens ∙ open_real e;
  }

  pub turned_interval : (i m : Interval E) → IsTurned SameParts neg_parts (pairs_of parts i) (pairs_of parts m) → IsTurned SameNumber neg_of (reals_of parts i) (reals_of parts m)
  turned_interval i m h = record { low = negative_end i.high m.low h.low; high = negative_end i.low m.high h.high }

  pub sum_interval : (i j s : Interval E) → IsSumInterval SameParts sum_parts (pairs_of parts i) (pairs_of parts j) (pairs_of parts s)
      → IsSumInterval SameNumber sum_of (reals_of parts i) (reals_of parts j) (reals_of parts s)
  sum_interval i j s h = record { low = sum_end i.low j.low s.low h.low; high = sum_end i.high j.high s.high h.high }

  -- the tighter of two ends is so in both
  less_or : (x y : E) (F : Type 0) → (IsLess (parts x) (parts y) ⊎ (SameParts (parts x) (parts y) × F)) ↔ (IsBelow (real_of x) (real_of y) ⊎ (SameNumber (real_of x) (real_of y) × F))
  less_or x y F = (
    λ h. elim h [ inl less ↦ inl (less_real (parts x) (parts y) (both_zero _ _ (real x) (real y)) less) | inr same ↦ inr (same.0.real, same.1) ],
    λ h. elim h [ inl below ↦ inl (inl below) | inr same ↦ inr (record { real = same.0; tiny = both_zero _ _ (real x) (real y) }, same.1) ],
  )

  pub low_real : (e f : End E) → IsTighterLow IsLess SameParts (end_at parts e) (end_at parts f) ↔ IsTighterLow IsBelow SameNumber (end_at real_of e) (end_at real_of f)
  low_real (Closed e) (Closed f) = less_or f e _
  low_real (Closed e) (Open f) = less_or f e _
  low_real (Open e) (Closed f) = less_or f e _
  low_real (Open e) (Open f) = less_or f e _

  pub high_real : (e f : End E) → IsTighterHigh IsLess SameParts (end_at parts e) (end_at parts f) ↔ IsTighterHigh IsBelow SameNumber (end_at real_of e) (end_at real_of f)
  high_real (Closed e) (Closed f) = less_or e f _
  high_real (Closed e) (Open f) = less_or e f _
  high_real (Open e) (Closed f) = less_or e f _
  high_real (Open e) (Open f) = less_or e f _
