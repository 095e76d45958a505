-- The two tightest ends of an empty point contradict its component.
use Rattle.std.proofs.Common.{◌≡◌, ◌<◌, ◌||◌, ◌++◌, ◌⊎◌, ℕ, Bool, true, false, List, [], ◌∷◌, Option, Some, None, Ok, Err, inl, inr, pos, refl, sym, ap, subst, ◌∙◌, arith}
use Rattle.std.proofs.lemmas.Int.{ints}
use Rattle.std.proofs.lemmas.List.Elements.{All-from_recursion}
use Rattle.std.specs.Option.{option_map_or}
use Rattle.std.specs.Prelude.{IsTrue}
use Rattle.xc_interval.specs.Ends.{value_of, is_open, end_at}
use Rattle.xc_interval.specs.Intervals.{Crosses}
use Rattle.xc_interval.specs.declared.ends.End.{End}
use Rattle.xc_interval.specs.declared.ends.End.TheVariants.{Closed, Open}
use Rattle.xc_interval.specs.declared.interval.Interval.{Interval}
use Rattle.xc_joint.proofs.Crossing.{first_tightest_once, in_middle, known_at}
use Rattle.xc_joint.proofs.EmptyPoints.{ends_kept}
use Rattle.xc_joint.proofs.Placed.{placed_in}
use Rattle.xc_joint.specs.Causes.{IsCause, IsFirstEmpty, IsOfFirstEmpty}
use Rattle.xc_joint.specs.declared.types.Cause.{Cause}
use Rattle.xc_joint.specs.declared.types.Cause.TheVariants.{Corner, Ends, Fact}
use Rattle.xc_model.proofs.Arithmetic.{product-comm, product-one, sum-comm, sum-neg, sum-zero}
use Rattle.xc_model.proofs.Integers.{neg-mul}
use Rattle.xc_model.proofs.Numbers.{same-neg, same-product, same-refl, same-sum, same-sym, same-trans}
use Rattle.xc_model.specs.Fraction.{Fraction, IsBelow, SameNumber, difference_of, product_of, sum_of, whole}
use Rattle.xc_model.specs.Laws.{HasOneLowest}
use Rattle.xc_model.specs.Ratio.{Ratio, fraction_of}
use Rattle.xc_system.specs.Kept.{Multipliers}
use Rattle.xc_lists.specs.Members.{IsIn}
use Rattle.xc_system.specs.Refutations.{IsContradictionOf, IsKnownIn, IsShort, coefficient, constant, high_at, is_high_open, is_low_open, low_at, unit_at}
use Rattle.xc_system.specs.Solutions.{IsNegative, IsZero}
use Rattle.xc_system.specs.Spots.{IsFirstTightest, high_end, low_end}
use Rattle.xc_system.specs.Systems.{Constraints, facts_of, point_at, range_at}
use Rattle.xc_system.specs.declared.types.Component.{Component}
use Rattle.xc_model.proofs.Signs.{negative_same, zero_same}
use Rattle.xc_verify.specs.Infeasible.{constant_terms}
use Rattle.xc_verify.specs.Laws.{HasOneSum}
use Rattle.xc_verify.specs.Sums.{IsSumOf}

-- once a number

one_same : (one : Ratio) → one.num ≡ pos 1 → one.den ≡ pos 1 → SameNumber (fraction_of one) (whole (pos 1))
one_same one n d = record { cross = rw (n, d) refl }

once : (one : Ratio) → one.num ≡ pos 1 → one.den ≡ pos 1 → (x : Fraction) → SameNumber (sum_of (product_of (fraction_of one) x) (whole (pos 0))) x
once one n d x = same-trans _ _ _ (sum-zero (product_of (fraction_of one) x))
    (same-trans _ _ _ (same-product (fraction_of one) x (whole (pos 1)) x (one_same one n d) (same-refl x)) (same-trans _ _ _ (product-comm (whole (pos 1)) x) (product-one x)))

-- the difference of numbers by their order
negative_apart : (x y : Fraction) → IsBelow x y → IsNegative (difference_of x y)
negative_apart x y h = let e = neg-mul y.num (pos x.den) in omega (arith, ints, h.cross, e)

zero_apart : (x y : Fraction) → SameNumber x y → IsZero (difference_of x y)
zero_apart x y h = let e = neg-mul y.num (pos x.den) in omega (arith, ints, h.cross, e)

-- ends as numbers
value_at : (e : End Ratio) → value_of (end_at (λ y. fraction_of y) e) ≡ fraction_of (value_of e)
value_at (Closed x) = refl
value_at (Open x) = refl

open_at : (e : End Ratio) → is_open (end_at (λ y. fraction_of y) e) ≡ is_open e
open_at (Closed x) = refl
open_at (Open x) = refl

module _ (s : Constraints) (k : ℕ) where
  low_value : value_of (low_end s.bounds k) ≡ low_at s k
  low_value = go (range_at s.bounds k)
    where
      go : (o : Option (Interval Ratio)) → value_of (option_map_or (λ interval. end_at (λ x. fraction_of x) interval.low) o (Closed (whole (pos 0)))) ≡ option_map_or (λ interval. fraction_of (value_of interval.low)) o (whole (pos 0))
      go None = refl
      go (Some i) = value_at i.low

  high_value : value_of (high_end s.bounds k) ≡ high_at s k
  high_value = go (range_at s.bounds k)
    where
      go : (o : Option (Interval Ratio)) → value_of (option_map_or (λ interval. end_at (λ x. fraction_of x) interval.high) o (Closed (whole (pos 0)))) ≡ option_map_or (λ interval. fraction_of (value_of interval.high)) o (whole (pos 0))
      go None = refl
      go (Some i) = value_at i.high

  low_open : is_open (low_end s.bounds k) ≡ is_low_open s k
  low_open = go (range_at s.bounds k)
    where
      go : (o : Option (Interval Ratio)) → is_open (option_map_or (λ interval. end_at (λ x. fraction_of x) interval.low) o (Closed (whole (pos 0)))) ≡ option_map_or (λ interval. is_open interval.low) o false
      go None = refl
      go (Some i) = open_at i.low

  high_open : is_open (high_end s.bounds k) ≡ is_high_open s k
  high_open = go (range_at s.bounds k)
    where
      go : (o : Option (Interval Ratio)) → is_open (option_map_or (λ interval. end_at (λ x. fraction_of x) interval.high) o (Closed (whole (pos 0)))) ≡ option_map_or (λ interval. is_open interval.high) o false
      go None = refl
      go (Some i) = open_at i.high

-- the refutation by two ends, each with 1
abbrev ends : ℕ → ℕ → Ratio → Multipliers
ends k m one = record { bindings = []; lows = (k, one) ∷ []; highs = (m, one) ∷ [] }

module _ (s : Constraints) (k m : ℕ) (one : Ratio) (n : one.num ≡ pos 1) (d : one.den ≡ pos 1) where
  left : SameNumber (constant s (ends k m one)) (difference_of (high_at s m) (low_at s k))
  left = same-sum _ _ _ _ (once one n d (high_at s m)) (same-neg _ _ (once one n d (low_at s k)))

  ends_short : Crosses IsBelow SameNumber (record { low = low_end s.bounds k; high = high_end s.bounds m }) → IsShort s (ends k m one)
  ends_short (inl less) = inl (negative_same (difference_of (high_at s m) (low_at s k)) (constant s (ends k m one)) (same-sym _ _ left)
      (negative_apart (high_at s m) (low_at s k) (subst (λ (x : Fraction). IsBelow x (low_at s k)) (high_value s m) (subst (λ (y : Fraction). IsBelow (value_of (high_end s.bounds m)) y) (low_value s k) less))))
  ends_short (inr same) = inr (
    zero_same (difference_of (high_at s m) (low_at s k)) (constant s (ends k m one)) (same-sym _ _ left)
        (zero_apart (high_at s m) (low_at s k) (same-sym _ _ (subst (λ (x : Fraction). SameNumber x (high_at s m)) (low_value s k) (subst (λ (y : Fraction). SameNumber (value_of (low_end s.bounds k)) y) (high_value s m) same.0)))),
    opened (is_low_open s k) (is_high_open s m) (subst (λ (a : Bool). IsTrue (a || is_high_open s m)) (low_open s k) (subst (λ (b : Bool). IsTrue (is_open (low_end s.bounds k) || b)) (high_open s m) same.1)),
  )
    where
      opened : (a b : Bool) → IsTrue (a || b) → IsTrue ((a || false) || (b || false))
      opened true b t = refl
      opened false true t = refl
      opened false false t = t

  ends_cancel : point_at s.bounds k ≡ point_at s.bounds m → (j : ℕ) → IsZero (coefficient s (ends k m one) j)
  ends_cancel e j = zero_same (whole (pos 0)) (coefficient s (ends k m one) j) (same-sym _ _ none) refl
    where
      none : SameNumber (coefficient s (ends k m one) j) (whole (pos 0))
      none = subst (λ (p : ℕ). SameNumber (sum_of (whole (pos 0)) (difference_of (sum_of (product_of (fraction_of one) (unit_at j (point_at s.bounds k))) (whole (pos 0))) (sum_of (product_of (fraction_of one) (unit_at j p)) (whole (pos 0))))) (whole (pos 0))) e
          (same-trans _ _ _ (sum-comm (whole (pos 0)) (difference_of (sum_of (product_of (fraction_of one) (unit_at j (point_at s.bounds k))) (whole (pos 0))) (sum_of (product_of (fraction_of one) (unit_at j (point_at s.bounds k))) (whole (pos 0)))))
          (same-trans _ _ _ (sum-zero _) (sum-neg (sum_of (product_of (fraction_of one) (unit_at j (point_at s.bounds k))) (whole (pos 0))))))

module _ (s : Constraints) (c : Component) where
  -- the first empty point is one
  first_once : (p q : ℕ) → IsFirstEmpty s c p → IsFirstEmpty s c q → p ≡ q
  first_once p q h g = go (order p q)
    where
      order : (a b : ℕ) → (a < b) ⊎ ((a ≡ b) ⊎ (b < a))
      order a b = grind arith

      go : (p < q) ⊎ ((p ≡ q) ⊎ (q < p)) → p ≡ q
      go (inl l) = absurd (g.first p h.there l h.empty)
      go (inr (inl e)) = e
      go (inr (inr l)) = absurd (h.first q g.there l g.empty)

  pub ends_contradict : (r : Multipliers) (low high : ℕ) → (own : IsOfFirstEmpty s c r low high) → Crosses IsBelow SameNumber (record { low = low_end s.bounds low; high = high_end s.bounds high }) → IsContradictionOf s c r
  ends_contradict r low high own cross = subst (λ (q : Multipliers). IsContradictionOf s c q) (sym own.lists.is) (record {
    kept = ends_kept low high own.lists.one own.lists.num;
    bindings = All-from_recursion _ [] tt;
    lows = All-from_recursion (λ m. IsKnownIn s c m.0) ((low, own.lists.one) ∷ []) (known low own.tightest.0.front own.tightest.0.back own.tightest.0.there, tt);
    highs = All-from_recursion (λ m. IsKnownIn s c m.0) ((high, own.lists.one) ∷ []) (known high own.tightest.1.front own.tightest.1.back own.tightest.1.there, tt);
    cancels = λ j l. ends_cancel s low high own.lists.one own.lists.num own.lists.den
        (placed_in s own.point low (listed low own.tightest.0.front own.tightest.0.back own.tightest.0.there) ∙ sym (placed_in s own.point high (listed high own.tightest.1.front own.tightest.1.back own.tightest.1.there))) j;
    short = ends_short s low high own.lists.one own.lists.num own.lists.den cross;
  })
    where
      listed : (k : ℕ) (front back : List ℕ) → facts_of s.bounds own.point ≡ front ++ k ∷ back → IsIn k (facts_of s.bounds own.point)
      listed k front back e = subst (λ (l : List ℕ). IsIn k l) (sym e) (in_middle k front back)

      known : (k : ℕ) → (front back : List ℕ) → facts_of s.bounds own.point ≡ front ++ k ∷ back → IsKnownIn s c k
      known k front back e = (
        known_at s.bounds k (facts_of s.bounds own.point) own.first.empty.known (listed k front back e),
        subst (λ (p : ℕ). IsIn p c.points) (sym (placed_in s own.point k (listed k front back e))) own.first.there,
      )

  -- a component whose first empty point is refuted has no cause
  pub ends_uncaused : HasOneLowest → HasOneSum → (r : Multipliers) (low high : ℕ) (x : Ratio) → IsOfFirstEmpty s c r low high → IsSumOf (constant_terms s r) (Ok x) → (cause : Cause) → IsCause s c cause → ⊥
  ends_uncaused one sum r low high x own ok (Fact k) h = h.none_empty own.point own.first.there own.first.empty
  ends_uncaused one sum r low high x own ok (Corner lists w) h = h.other.none_empty own.point own.first.there own.first.empty
  ends_uncaused one sum r low high x own ok (Ends l m w) h = apart (sum (constant_terms s r) (Ok x) (Err w) ok (subst (λ (q : Multipliers). IsSumOf (constant_terms s q) (Err w)) same h.passes))
    where
      apart : Ok x ≡ Err w → ⊥
      apart e = cc

      point : h.own.point ≡ own.point
      point = first_once h.own.point own.point h.own.first own.first

      lows : l ≡ low
      lows = first_tightest_once _ (facts_of s.bounds own.point) l low (subst (λ (p : ℕ). IsFirstTightest _ (facts_of s.bounds p) l) point h.own.tightest.0) own.tightest.0

      highs : m ≡ high
      highs = first_tightest_once _ (facts_of s.bounds own.point) m high (subst (λ (p : ℕ). IsFirstTightest _ (facts_of s.bounds p) m) point h.own.tightest.1) own.tightest.1

      ones : h.own.lists.one ≡ own.lists.one
      ones = one h.own.lists.one own.lists.one (same-trans _ _ _ (one_same h.own.lists.one h.own.lists.num h.own.lists.den) (same-sym _ _ (one_same own.lists.one own.lists.num own.lists.den)))

      made : (a b : ℕ) (o p : Ratio) → a ≡ low → b ≡ high → o ≡ p → ends a b o ≡ ends low high p
      made a b o p e f g = ap (λ (i : ℕ). ends i b o) e ∙ ap (λ (i : ℕ). ends low i o) f ∙ ap (λ (q : Ratio). ends low high q) g

      same : h.refutation ≡ r
      same = h.own.lists.is ∙ made l m h.own.lists.one own.lists.one lows highs ones ∙ sym own.lists.is
