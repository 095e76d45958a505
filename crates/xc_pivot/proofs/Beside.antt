-- Values beside bounds.
use Rattle.std.proofs.Common.{◌≡◌, ◌≢◌, ℕ, ◌*◌, ◌<◌, Bool, true, false, ℤ, pos, inl, inr, refl, sym, ap, subst, arith, cond, negsuc, ◌↔◌, ◌&&◌, not, ⊎_elim}
use Rattle.std.specs.declared.cmp.Ordering.{Ordering}
use Rattle.std.specs.declared.cmp.Ordering.TheVariants.{Less, Equal, Greater}
use Rattle.std.proofs.lemmas.Int.{ints}
use Rattle.std.proofs.lemmas.Bool.{false≢true}
use Rattle.std.proofs.lemmas.Bool.Decides.{Decides-int_eq}
use Rattle.std.specs.Ordering.{int_eq}
use Rattle.std.specs.Int.Signed.{lt_z}
use Rattle.std.specs.Prelude.{IsTrue, T}
use mathlib.Core.Bool.{beq}
use Rattle.xc_model.proofs.Rescaled.{over_scaled, over_same_number}
use Rattle.xc_model.proofs.Pairs.{pair_cases}
use Rattle.xc_corners.specs.Choices.{Helps, is_same_pair}
use Rattle.xc_corners.specs.Corners.{low_bound, high_bound}
use Rattle.xc_corners.specs.Laws.{HasEndBounds}
use Rattle.xc_corners.specs.Operations.{part}
use Rattle.xc_corners.specs.Pairs.{◌≺◌, ◌≼◌, times}
use Rattle.xc_corners.specs.WholeNumbers.{whole_problem}
use Rattle.xc_corners.specs.declared.problem.Problem.{Problem}
use Rattle.xc_interval.specs.Ends.{value_of, is_open}
use Rattle.xc_interval.specs.declared.interval.Interval.{Interval}
use Rattle.xc_model.specs.Order.{SameSign}
use Rattle.xc_frac.specs.declared.delta.Delta.{Delta}
use Rattle.xc_model.specs.Parts.{WholeParts, ArePartsOver, OrdersWhole}
use Rattle.xc_model.specs.Ratio.{Ratio, IsOver}
use Rattle.xc_model.proofs.NumbersOver.{over_number}
use Rattle.xc_pivot.specs.Bounds.{IsSide, IsBelowAt}
use Rattle.xc_pivot.specs.Deltas.{of_part, ArePartsOf, IsLowOf, IsHighOf}
use Rattle.xc_pivot.proofs.Both.{pair}

pub parts_over : (d : Delta Ratio) (a : WholeParts) (n : ℕ) → ArePartsOf n a d → ArePartsOver (pair d) a n
parts_over d a n h = record { real = over_number d.real a.real n (h false); tiny = over_number d.tiny a.tiny n (h true) }

abbrev pub is_less : Ordering → Bool
is_less Less = true
is_less Equal = false
is_less Greater = false

side : (o : Ordering) (a b : WholeParts) → OrdersWhole o a b → IsSide (is_less o) a b
side Less a b h = h
side Equal a b h = inr (ap (λ (w : WholeParts). w.real) (sym h), omega (arith, ints, ap (λ (w : WholeParts). w.tiny) h))
side Greater a b (inl h) = inl h
side Greater a b (inr h) = inr (h.0, omega (arith, ints, h.1))

pub below_at : (o : Ordering) (left right : Delta Ratio) → ((a b : WholeParts) (n : ℕ) → ArePartsOver (pair left) a n → ArePartsOver (pair right) b n → OrdersWhole o a b) → IsBelowAt (is_less o) left right
below_at o left right h n a b k l = side o a b (h a b n (parts_over left a n k) (parts_over right b n l))

-- the same bound over a multiple
pub bound_times : (d : Delta Ratio) (a : WholeParts) (u w : ℕ) → 0 < w → ArePartsOf u a d → ArePartsOf (w * u) (times (pos w) a) d
bound_times d a u w p h c = go c
  where
    go : (c : Bool) → IsOver (of_part d c) (part c (times (pos w) a)) (w * u)
    go false = over_scaled d.real a.real u w p (h false)
    go true = over_scaled d.tiny a.tiny u w p (h true)

pub below_less : (left right : Delta Ratio) → ((a b : WholeParts) (n : ℕ) → ArePartsOver (pair left) a n → ArePartsOver (pair right) b n → OrdersWhole Less a b) → IsBelowAt true left right
below_less left right h = below_at Less left right h

pub below_other : (o : Ordering) (left right : Delta Ratio) → (o ≢ Less) → ((a b : WholeParts) (n : ℕ) → ArePartsOver (pair left) a n → ArePartsOver (pair right) b n → OrdersWhole o a b) → IsBelowAt false left right
below_other Less left right n h = absurd (n refl)
below_other Equal left right n h = below_at Equal left right h
below_other Greater left right n h = below_at Greater left right h

-- a range's bounds, by its ends
pub low_parts : (problem : Problem) (j : ℕ) (range : Interval Ratio) (d : Delta Ratio) → HasEndBounds problem j range d.tiny → d.real ≡ value_of range.low → IsOver d.tiny (cond (is_open range.low) (pos 1) (pos 0)) 1 → IsLowOf problem j d
low_parts problem j range d h e l false = subst (λ (f : Ratio). IsOver f (low_bound (whole_problem problem) j).real (whole_problem problem).unit) (sym e) h.low_real
low_parts problem j range d h e l true = h.low_tiny l

pub high_parts : (problem : Problem) (j : ℕ) (range : Interval Ratio) (d : Delta Ratio) → HasEndBounds problem j range d.tiny → d.real ≡ value_of range.high → IsOver d.tiny (cond (is_open range.high) (negsuc 0) (pos 0)) 1 → IsHighOf problem j d
high_parts problem j range d h e l false = subst (λ (f : Ratio). IsOver f (high_bound (whole_problem problem) j).real (whole_problem problem).unit) (sym e) h.high_real
high_parts problem j range d h e l true = h.high_tiny l

-- a test of two numbers tells which is less
told : (b : Bool) → b ≡ true → T b
told true e = tt
told false e = absurd (false≢true e)

telling : (b : Bool) → T b → b ≡ true
telling true h = refl
telling false h = absurd h

-- a factor of that sign helps
pub positive_helps : (above high : Bool) (s n : ℤ) → beq above high ≡ true → SameSign s n → IsTrue (lt_z (pos 0) s) ↔ Helps above high n
positive_helps false false s n e h = ((λ k. h.above.0 (record { lt = told (lt_z (pos 0) s) k })), (λ k. telling (lt_z (pos 0) s) (h.above.1 k).lt))
positive_helps true true s n e h = ((λ k. h.above.0 (record { lt = told (lt_z (pos 0) s) k })), (λ k. telling (lt_z (pos 0) s) (h.above.1 k).lt))
positive_helps false true s n e h = absurd (false≢true e)
positive_helps true false s n e h = absurd (false≢true e)

pub negative_helps : (above high : Bool) (s n : ℤ) → beq above high ≡ false → SameSign s n → IsTrue (lt_z s (pos 0)) ↔ Helps above high n
negative_helps false true s n e h = ((λ k. h.below.0 (record { lt = told (lt_z s (pos 0)) k })), (λ k. telling (lt_z s (pos 0)) (h.below.1 k).lt))
negative_helps true false s n e h = ((λ k. h.below.0 (record { lt = told (lt_z s (pos 0)) k })), (λ k. telling (lt_z s (pos 0)) (h.below.1 k).lt))
negative_helps false false s n e h = absurd (false≢true (sym e))
negative_helps true true s n e h = absurd (false≢true (sym e))

-- a bound of a variable of a row
pub zero_parts : (u : ℕ) (a : WholeParts) (d : Delta Ratio) → 0 < u → a ≡ record { real = pos 0; tiny = pos 0 } → IsOver d.real (pos 0) 1 → IsOver d.tiny (pos 0) 1 → ArePartsOf u a d
zero_parts u a d p e h l = subst (λ (w : WholeParts). ArePartsOf u w d) (sym e) (λ c. go c)
  where
    zero : (f : Ratio) → IsOver f (pos 0) 1 → IsOver f (pos 0) u
    zero f k = subst (IsOver f (pos 0)) (let one : u * 1 ≡ u = omega arith in one) (over_same_number f _ (pos 0) (u * 1) (over_scaled f (pos 0) 1 u p k) (omega (arith, ints)))

    go : (c : Bool) → IsOver (of_part d c) (part c (record { real = pos 0; tiny = pos 0 })) u
    go false = zero d.real h
    go true = zero d.tiny l

-- where the low bound is at most the high one, they are different exactly where it is less
pub free_if_less : (a b : WholeParts) → a ≺ b → a ≢ b
free_if_less a b (inl h) e = omega (arith, ints, ap (λ (w : WholeParts). w.real) e)
free_if_less a b (inr h) e = omega (arith, ints, h.1, ap (λ (w : WholeParts). w.tiny) e)

pub same_if_most : (a b : WholeParts) → a ≼ b → b ≼ a → a ≡ b
same_if_most a b h k = λ i. record { real = real i; tiny = tiny i }
  where
    real : a.real ≡ b.real
    real = grind (arith, ints)

    tiny : a.tiny ≡ b.tiny
    tiny = grind (arith, ints)

pub free_tells : (r : Bool) (a b : WholeParts) → a ≼ b → IsSide r a b → IsTrue r ↔ (a ≢ b)
free_tells true a b h s = ((λ e. free_if_less a b s), (λ n. refl))
free_tells false a b h s = ((λ e. absurd (false≢true e)), (λ n. absurd (n (same_if_most a b h s))))

-- whether two pairs are the same
pub free_same : (a b : WholeParts) → a ≢ b → is_same_pair a b ≡ false
free_same a b n = go (int_eq a.real b.real) (int_eq a.tiny b.tiny) (λ e. (Decides-int_eq a.real b.real).0 e) (λ e. (Decides-int_eq a.tiny b.tiny).0 e)
  where
    go : (s t : Bool) → (s ≡ true → a.real ≡ b.real) → (t ≡ true → a.tiny ≡ b.tiny) → (s && t) ≡ false
    go true true e f = absurd (n (λ i. record { real = e refl i; tiny = f refl i }))
    go true false e f = refl
    go false true e f = refl
    go false false e f = refl

pub fixed_same : (a b : WholeParts) → (a ≢ b → false ≡ true) → is_same_pair a b ≡ true
fixed_same a b h = ⊎_elim
    (λ (e : a ≡ b). subst (λ (c : WholeParts). is_same_pair a c ≡ true) e (both (int_eq a.real a.real) (int_eq a.tiny a.tiny) ((Decides-int_eq a.real a.real).1 refl) ((Decides-int_eq a.tiny a.tiny).1 refl)))
    (λ (n : a ≢ b). absurd (false≢true (h n)))
    (pair_cases a b)
  where
    both : (s t : Bool) → s ≡ true → t ≡ true → (s && t) ≡ true
    both true true e f = refl
    both true false e f = absurd (false≢true f)
    both false t e f = absurd (false≢true e)

pub free_is : (r : Bool) (a b : WholeParts) → (IsTrue r ↔ (a ≢ b)) → r ≡ not (is_same_pair a b)
free_is true a b h = ap not (sym (free_same a b (h.0 refl)))
free_is false a b h = ap not (sym (fixed_same a b h.1))
