-- The order of pairs of numbers that have no tiny part of their own.
use Rattle.std.proofs.Common.{◌≢◌, arith, pos, refl, inl, inr}
use Rattle.std.proofs.lemmas.Int.{ints}
use Rattle.std.specs.declared.cmp.Ordering.{Ordering}
use Rattle.std.specs.declared.cmp.Ordering.TheVariants.{Less, Equal, Greater}
use Rattle.xc_model.specs.Fraction.{Fraction, SameNumber, IsBelow, whole}
use Rattle.xc_model.proofs.Numbers.{same-sym, below-same}
use Rattle.xc_model.specs.Laws.{RealsCompare}
use Rattle.xc_model.specs.Parts.{Parts, SameParts, OrdersParts}

-- neither of two zeros is below the other
none_below : (x y : Fraction) → SameNumber x (whole (pos 0)) → SameNumber y (whole (pos 0)) → IsBelow x y → ⊥
none_below x y left right below =
    let zeros = below-same x y (whole (pos 0)) (whole (pos 0)) left right below in
    absurd (omega (arith, ints, zeros.cross))

-- two numbers that have none compare as their real parts do
pub reals_compare : RealsCompare
reals_compare Less x y left right h = elim h [ inl below ↦ below | inr rest ↦ absurd (none_below x.tiny y.tiny left right rest.1) ]
reals_compare Equal x y left right h = h.real
reals_compare Greater x y left right h = elim h [ inl below ↦ below | inr rest ↦ absurd (none_below y.tiny x.tiny right left rest.1) ]

-- where x and y are the same in their real parts, a and b tell their order
pub by_tiny : (o : Ordering) (x y a b : Parts) → SameNumber a.tiny (whole (pos 0)) → SameNumber b.tiny (whole (pos 0))
    → SameParts x y → OrdersParts o a b → OrdersParts o (record { real = x.real; tiny = a.real }) (record { real = y.real; tiny = b.real })
by_tiny Less x y a b left right same h = inr (same.real, reals_compare Less a b left right h)
by_tiny Equal x y a b left right same h = record { real = same.real; tiny = h.real }
by_tiny Greater x y a b left right same h = inr (same-sym x.real y.real same.real, reals_compare Greater a b left right h)

-- and where they are not, x and y tell it
pub by_real : (o : Ordering) (x y a b : Parts) → o ≢ Equal → SameNumber x.tiny (whole (pos 0)) → SameNumber y.tiny (whole (pos 0))
    → OrdersParts o x y → OrdersParts o (record { real = x.real; tiny = a.real }) (record { real = y.real; tiny = b.real })
by_real Less x y a b other left right h = inl (reals_compare Less x y left right h)
by_real Equal x y a b other left right h = absurd (other refl)
by_real Greater x y a b other left right h = inl (reals_compare Greater x y left right h)
