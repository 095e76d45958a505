-- What terms add up to, as numbers.
use Rattle.std.proofs.Common.{◌≡◌, ◌==◌, ℕ, Bool, true, false, cond, List, [], ◌∷◌, ◌++◌, Option, Some, None, Ok, Err, map, filter, pos, refl, sym, subst, arith}
use Rattle.std.proofs.lemmas.Int.{ints}
use Rattle.std.specs.List.{cons_option}
use Rattle.std.specs.Option.{option_map, option_map_or}
use Rattle.std.specs.Prelude.{slice_get}
use Rattle.xc_frac.specs.declared.wide.Wide.{Wide}
use Rattle.xc_interval.specs.Ends.{value_of}
use Rattle.xc_interval.specs.declared.interval.Interval.{Interval}
use Rattle.xc_model.proofs.Arithmetic.{sum-assoc, sum-comm, sum-zero, product-one, product-sum}
use Rattle.xc_model.proofs.Integers.{ring}
use Rattle.xc_model.proofs.Numbers.{same-refl, same-sym, same-trans, same-sum, same-product, same-neg}
use Rattle.xc_model.specs.Fraction.{Fraction, SameNumber, whole, neg_of, sum_of, product_of}
use Rattle.xc_model.specs.Ratio.{Ratio, fraction_of}
use Rattle.xc_system.specs.Kept.{Multipliers}
use Rattle.xc_system.specs.Refutations.{total, unit_at, low_at, high_at, coefficient, constant}
use Rattle.xc_system.specs.Solutions.{sum_over_entries}
use Rattle.xc_system.specs.Systems.{Constraints, equation_at, point_at, range_at}
use Rattle.xc_system.specs.declared.types.Bound.{Bound}
use Rattle.xc_system.specs.declared.types.Entry.{Entry}
use Rattle.xc_system.specs.declared.types.Equation.{Equation}
use Rattle.xc_system.specs.declared.types.Side.TheVariants.{Low, High}
use Rattle.xc_verify.specs.Feasible.{assignment_of, equation_terms}
use Rattle.xc_verify.specs.Infeasible.{Line, entry_terms, binding_terms, end_terms, coefficient_terms, value_terms, constant_terms}
use Rattle.xc_verify.specs.Sums.{Term, plus, minus, plus_product, minus_product, zero_ratio, IsWith, IsSum, IsSumOf}

-- what a term is worth
abbrev pub worth : Term → Fraction
worth (plus f) = fraction_of f
worth (minus f) = neg_of (fraction_of f)
worth (plus_product f g) = product_of (fraction_of f) (fraction_of g)
worth (minus_product f g) = neg_of (product_of (fraction_of f) (fraction_of g))

-- and what several are
abbrev pub amount : List Term → Fraction
amount [] = whole (pos 0)
amount (t ∷ ts) = sum_of (worth t) (amount ts)

-- laws of numbers
zero-sum : (x : Fraction) → SameNumber (sum_of (whole (pos 0)) x) x
zero-sum x = same-trans _ _ _ (sum-comm (whole (pos 0)) x) (sum-zero x)

product-zero : (x : Fraction) → SameNumber (product_of x (whole (pos 0))) (whole (pos 0))
product-zero x = record { cross = omega (arith, ints) }

neg-sum : (x y : Fraction) → SameNumber (neg_of (sum_of x y)) (sum_of (neg_of x) (neg_of y))
neg-sum x y = record { cross = simp ring (omega (arith, ints)) }

-- 0 times a number more changes nothing
no_more : (f x y : Fraction) → SameNumber x y → SameNumber x (sum_of (product_of f (whole (pos 0))) y)
no_more f x y h = same-trans _ _ _ h (same-sym _ _ (same-trans _ _ _ (same-sum _ _ _ _ (product-zero f) (same-refl y)) (zero-sum y)))

-- nor does its negative
no_less : (f x y : Fraction) → SameNumber x (neg_of y) → SameNumber x (neg_of (sum_of (product_of f (whole (pos 0))) y))
no_less f x y h = same-trans _ _ _ h (same-neg _ _ (no_more f y y (same-refl y)))

-- a sum that ends is what its terms are worth
apart : {X Y : Type 0} (x : X) (y : Y) → Ok x ≡ Err y → ⊥
apart x y e = cc

stopped : (w : Wide) (ts : List Term) (y : Ratio) → IsSum (Err w) ts (Ok y) → ⊥
stopped w [] y h = apart y w (sym h)
stopped w (t ∷ ts) y h = stopped w ts y (subst (λ n. IsSum n ts (Ok y)) h.1 h.2)

with_worth : (x : Ratio) (t : Term) (y : Ratio) → IsWith x t (Ok y) → SameNumber (fraction_of y) (sum_of (fraction_of x) (worth t))
with_worth x (plus f) y h = h.1
with_worth x (minus f) y h = h.1
with_worth x (plus_product f g) y (Ok p, a, b) = same-trans _ _ _ b.1 (same-sum _ _ _ _ (same-refl (fraction_of x)) a.1)
with_worth x (plus_product f g) y (Err w, a, b) = absurd (apart y w b)
with_worth x (minus_product f g) y (Ok p, a, b) = same-trans _ _ _ b.1 (same-sum _ _ _ _ (same-refl (fraction_of x)) (same-neg _ _ a.1))
with_worth x (minus_product f g) y (Err w, a, b) = absurd (apart y w b)

sum_worth : (ts : List Term) (x y : Ratio) → IsSum (Ok x) ts (Ok y) → SameNumber (fraction_of y) (sum_of (fraction_of x) (amount ts))
sum_worth [] x y h = same-trans _ _ _ (subst (λ (z : Ratio). SameNumber (fraction_of z) (fraction_of x)) same (same-refl (fraction_of x))) (same-sym _ _ (sum-zero (fraction_of x)))
  where
    same : x ≡ y
    same = cc
sum_worth (t ∷ ts) x y (Ok n, a, b) = same-trans _ _ _ (sum_worth ts n y b) (same-trans _ _ _ (same-sum _ _ _ _ (with_worth x t n a) (same-refl (amount ts))) (sum-assoc (fraction_of x) (worth t) (amount ts)))
sum_worth (t ∷ ts) x y (Err w, a, b) = absurd (stopped w ts y b)

pub ends_worth : (ts : List Term) (y : Ratio) → IsSumOf ts (Ok y) → SameNumber (fraction_of y) (amount ts)
ends_worth ts y h = same-trans _ _ _ (sum_worth ts zero_ratio y h) (same-trans _ _ _ (same-sum (fraction_of zero_ratio) (amount ts) (whole (pos 0)) (amount ts) (record { cross = refl }) (same-refl (amount ts))) (zero-sum (amount ts)))

amount-append : (xs ys : List Term) → SameNumber (amount (xs ++ ys)) (sum_of (amount xs) (amount ys))
amount-append [] ys = same-sym _ _ (zero-sum (amount ys))
amount-append (t ∷ ts) ys = same-trans _ _ _ (same-sum _ _ _ _ (same-refl (worth t)) (amount-append ts ys)) (same-sym _ _ (sum-assoc (worth t) (amount ts) (amount ys)))

-- the terms of an equation are its sum over the values
pub equation_worth : (values : List Ratio) (es : List Entry) → SameNumber (amount (equation_terms values es)) (sum_over_entries es (assignment_of values))
equation_worth values [] = same-refl (whole (pos 0))
equation_worth values (e ∷ es) = go (slice_get values e.point) (equation_worth values es)
  where
    go : (o : Option Ratio) → SameNumber (amount (equation_terms values es)) (sum_over_entries es (assignment_of values))
        → SameNumber (amount (cons_option (option_map (plus_product e.weight) o) (equation_terms values es))) (sum_of (product_of (fraction_of e.weight) (option_map_or (λ value. fraction_of value) o (whole (pos 0)))) (sum_over_entries es (assignment_of values)))
    go None h = no_more (fraction_of e.weight) _ _ h
    go (Some v) h = same-sum _ _ _ _ (same-refl (product_of (fraction_of e.weight) (fraction_of v))) h

-- the terms for a point are how often it counts
entry_worth : (f : Ratio) (p : ℕ) (es : List Entry) → SameNumber (amount (entry_terms f es p)) (product_of (fraction_of f) (sum_over_entries es (unit_at p)))
entry_worth f p [] = same-sym _ _ (product-zero (fraction_of f))
entry_worth f p (e ∷ es) = go (e.point == p) (entry_worth f p es)
  where
    go : (b : Bool) → SameNumber (amount (entry_terms f es p)) (product_of (fraction_of f) (sum_over_entries es (unit_at p)))
        → SameNumber (amount (map (λ entry. plus_product f entry.weight) (cond b (e ∷ filter (λ entry. entry.point == p) es) (filter (λ entry. entry.point == p) es))))
        (product_of (fraction_of f) (sum_of (product_of (fraction_of e.weight) (cond b (whole (pos 1)) (whole (pos 0)))) (sum_over_entries es (unit_at p))))
    go true h = same-trans _ _ _ (same-sum _ _ _ _ (same-product _ _ _ _ (same-refl (fraction_of f)) (same-sym _ _ (product-one (fraction_of e.weight)))) h)
        (same-sym _ _ (product-sum (fraction_of f) (product_of (fraction_of e.weight) (whole (pos 1))) (sum_over_entries es (unit_at p))))
    go false h = same-trans _ _ _ h (same-product _ _ _ _ (same-refl (fraction_of f)) (no_more (fraction_of e.weight) _ _ (same-refl (sum_over_entries es (unit_at p)))))

binding_worth : (equations : List Equation) (p : ℕ) (ms : List Line) → SameNumber (amount (binding_terms equations ms p)) (total ms (λ i. sum_over_entries (equation_at equations i).entries (unit_at p)))
binding_worth equations p [] = same-refl (whole (pos 0))
binding_worth equations p (m ∷ ms) = same-trans _ _ _ (amount-append (entry_terms m.1 (equation_at equations m.0).entries p) (binding_terms equations ms p)) (same-sum _ _ _ _ (entry_worth m.1 p (equation_at equations m.0).entries) (binding_worth equations p ms))

low_worth : (bounds : List Bound) (p : ℕ) (ms : List Line) → SameNumber (amount (end_terms Low bounds ms p)) (total ms (λ k. unit_at p (point_at bounds k)))
low_worth bounds p [] = same-refl (whole (pos 0))
low_worth bounds p (m ∷ ms) = go (point_at bounds m.0 == p) (low_worth bounds p ms)
  where
    go : (b : Bool) → SameNumber (amount (end_terms Low bounds ms p)) (total ms (λ k. unit_at p (point_at bounds k)))
        → SameNumber (amount (map (λ m. plus m.1) (cond b (m ∷ filter (λ m. point_at bounds m.0 == p) ms) (filter (λ m. point_at bounds m.0 == p) ms))))
        (sum_of (product_of (fraction_of m.1) (cond b (whole (pos 1)) (whole (pos 0)))) (total ms (λ k. unit_at p (point_at bounds k))))
    go true h = same-sum _ _ _ _ (same-sym _ _ (product-one (fraction_of m.1))) h
    go false h = no_more (fraction_of m.1) _ _ h

high_worth : (bounds : List Bound) (p : ℕ) (ms : List Line) → SameNumber (amount (end_terms High bounds ms p)) (neg_of (total ms (λ k. unit_at p (point_at bounds k))))
high_worth bounds p [] = same-refl (whole (pos 0))
high_worth bounds p (m ∷ ms) = go (point_at bounds m.0 == p) (high_worth bounds p ms)
  where
    go : (b : Bool) → SameNumber (amount (end_terms High bounds ms p)) (neg_of (total ms (λ k. unit_at p (point_at bounds k))))
        → SameNumber (amount (map (λ m. minus m.1) (cond b (m ∷ filter (λ m. point_at bounds m.0 == p) ms) (filter (λ m. point_at bounds m.0 == p) ms))))
        (neg_of (sum_of (product_of (fraction_of m.1) (cond b (whole (pos 1)) (whole (pos 0)))) (total ms (λ k. unit_at p (point_at bounds k)))))
    go true h = same-trans _ _ _ (same-sum _ _ _ _ (same-neg _ _ (same-sym _ _ (product-one (fraction_of m.1)))) h) (same-sym _ _ (neg-sum (product_of (fraction_of m.1) (whole (pos 1))) (total ms (λ k. unit_at p (point_at bounds k)))))
    go false h = no_less (fraction_of m.1) _ _ h

pub coefficient_worth : (s : Constraints) (r : Multipliers) (p : ℕ) → SameNumber (amount (coefficient_terms s r p)) (coefficient s r p)
coefficient_worth s r p = same-trans _ _ _ (amount-append (binding_terms s.equations r.bindings p) (end_terms Low s.bounds r.lows p ++ end_terms High s.bounds r.highs p))
    (same-sum _ _ _ _ (binding_worth s.equations p r.bindings)
    (same-trans _ _ _ (amount-append (end_terms Low s.bounds r.lows p) (end_terms High s.bounds r.highs p)) (same-sum _ _ _ _ (low_worth s.bounds p r.lows) (high_worth s.bounds p r.highs))))

-- the terms of the constant are the constant
low_values_worth : (s : Constraints) (ms : List Line) → SameNumber (amount (value_terms Low s.bounds ms)) (neg_of (total ms (low_at s)))
low_values_worth s [] = same-refl (whole (pos 0))
low_values_worth s (m ∷ ms) = go (range_at s.bounds m.0) (low_values_worth s ms)
  where
    go : (o : Option (Interval Ratio)) → SameNumber (amount (value_terms Low s.bounds ms)) (neg_of (total ms (low_at s)))
        → SameNumber (amount (cons_option (option_map (λ interval. minus_product m.1 (value_of interval.low)) o) (value_terms Low s.bounds ms)))
        (neg_of (sum_of (product_of (fraction_of m.1) (option_map_or (λ interval. fraction_of (value_of interval.low)) o (whole (pos 0)))) (total ms (low_at s))))
    go None h = no_less (fraction_of m.1) _ _ h
    go (Some i) h = same-trans _ _ _ (same-sum _ _ _ _ (same-refl (neg_of (product_of (fraction_of m.1) (fraction_of (value_of i.low))))) h) (same-sym _ _ (neg-sum (product_of (fraction_of m.1) (fraction_of (value_of i.low))) (total ms (low_at s))))

high_values_worth : (s : Constraints) (ms : List Line) → SameNumber (amount (value_terms High s.bounds ms)) (total ms (high_at s))
high_values_worth s [] = same-refl (whole (pos 0))
high_values_worth s (m ∷ ms) = go (range_at s.bounds m.0) (high_values_worth s ms)
  where
    go : (o : Option (Interval Ratio)) → SameNumber (amount (value_terms High s.bounds ms)) (total ms (high_at s))
        → SameNumber (amount (cons_option (option_map (λ interval. plus_product m.1 (value_of interval.high)) o) (value_terms High s.bounds ms)))
        (sum_of (product_of (fraction_of m.1) (option_map_or (λ interval. fraction_of (value_of interval.high)) o (whole (pos 0)))) (total ms (high_at s)))
    go None h = no_more (fraction_of m.1) _ _ h
    go (Some i) h = same-sum _ _ _ _ (same-refl (product_of (fraction_of m.1) (fraction_of (value_of i.high)))) h

pub constant_worth : (s : Constraints) (r : Multipliers) → SameNumber (amount (constant_terms s r)) (constant s r)
constant_worth s r = same-trans _ _ _ (amount-append (value_terms Low s.bounds r.lows) (value_terms High s.bounds r.highs))
    (same-trans _ _ _ (same-sum _ _ _ _ (low_values_worth s r.lows) (high_values_worth s r.highs)) (sum-comm (neg_of (total r.lows (low_at s))) (total r.highs (high_at s))))
