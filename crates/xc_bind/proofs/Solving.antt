-- What a solution of the system says of the report's own numbers.
use Rattle.std.proofs.Common.{◌≡◌, ◌+◌, ◌-◌, ◌*◌, ◌^◌, ◌<◌, ◌≤◌, ◌∙◌, ℕ, ℤ, pos, neg_ℤ, ◌+ℤ◌, ◌*ℤ◌, zero, suc, List, [], ◌∷◌, length, map, Option, Some, None, slice_get, arith, refl, sym, ap, subst}
use Rattle.std.proofs.Math.Nat.{mul-pos}
use Rattle.std.proofs.lemmas.Int.{ints}
use Rattle.std.proofs.lemmas.List.Elements.{recursion_from_All}
use Rattle.std.proofs.lemmas.Nat.{pow-add}
use Rattle.std.proofs.lemmas.Option.{slice_get_within}
use Rattle.std.specs.List.{AllByRecursion, AllZip}
use Rattle.xc_bind.specs.Equation.{AddsUp, most_places, weighted_sum, whole_weight}
use Rattle.xc_bind.specs.Placed.{IsPlaced, IsInside}
use Rattle.xc_bind.specs.Solved.{MayStandFor, FactsAdmit, AreValuesOver, BindingsHold, SolutionsAdmit}
use Rattle.xc_bind.specs.Systems.{AreEntries, IsEquationOf, IsTermEntry}
use Rattle.xc_bind.specs.declared.types.Binding.{Binding}
use Rattle.xc_bind.specs.declared.types.Term.{Term}
use Rattle.xc_decimal.specs.Shortest.{Shortest, decimal_number, ten_positive}
use Rattle.xc_interval.specs.declared.interval.Interval.{Interval}
use Rattle.xc_interval.specs.declared.mode.Mode.{Mode}
use Rattle.xc_model.proofs.Integers.{neg-mul, mul_assoc, mul_comm}
use Rattle.xc_model.proofs.Numbers.{same-refl, same-trans, same-product}
use Rattle.xc_model.proofs.NumbersOver.{number_same, same_number, neg_number, sum_number, equal_number, zero_over}
use Rattle.xc_model.proofs.Over.{ratio, same_factor}
use Rattle.xc_model.specs.Fraction.{Fraction, IsNumberOver, SameNumber, whole, neg_of, product_of}
use Rattle.xc_model.specs.Ratio.{Ratio, fraction_of}
use Rattle.xc_points.specs.Gathered.{AreEnds, AreEndsOf}
use Rattle.xc_points.specs.declared.types.Point.{Point}
use Rattle.xc_report.specs.declared.reports.Fact.{Fact}
use Rattle.xc_system.specs.Solutions.{Assignment, Solves, Admits as Lets, Holds, IsZero, sum_over_entries}
use Rattle.xc_system.specs.declared.types.Bound.{Bound}
use Rattle.xc_system.specs.declared.types.Entry.{Entry}
use Rattle.xc_system.specs.declared.types.Equation.{Equation}

-- a fact stands with its interval
end_at : (mode : Mode) (facts : List Fact) (ends : List (Option (Interval Ratio))) (f : ℕ) (fact : Fact) (e : Option (Interval Ratio)) → AreEnds mode facts ends → slice_get facts f ≡ Some fact → slice_get ends f ≡ Some e → AreEndsOf mode fact e
end_at mode [] [] f fact e are at end = absurd (none at)
  where
    none : slice_get [] f ≡ Some fact → ⊥
    none h = cc
end_at mode [] (x ∷ es) f fact e are at end = absurd are
end_at mode (x ∷ facts) [] f fact e are at end = absurd are
end_at mode (x ∷ facts) (y ∷ es) zero fact e are at end = subst (λ (o : Option (Interval Ratio)). AreEndsOf mode fact o) (same end) (subst (λ (g : Fact). AreEndsOf mode g y) (same_fact at) are.0)
  where
    same : Some y ≡ Some e → y ≡ e
    same h = cc

    same_fact : Some x ≡ Some fact → x ≡ fact
    same_fact h = cc
end_at mode (x ∷ facts) (y ∷ es) (suc f) fact e are at end = end_at mode facts es f fact e are.1 at end

-- where there is an interval there is a fact, and the other way
fact_for : (mode : Mode) (facts : List Fact) (ends : List (Option (Interval Ratio))) (f : ℕ) → AreEnds mode facts ends → f < length ends → (fact : Fact) × (slice_get facts f ≡ Some fact)
fact_for mode facts [] f are h = absurd (omega arith)
fact_for mode [] (e ∷ es) f are h = absurd are
fact_for mode (x ∷ facts) (e ∷ es) zero are h = (x, refl)
fact_for mode (x ∷ facts) (e ∷ es) (suc f) are h = fact_for mode facts es f are.1 (omega arith)

item_at : {X : Type 0} (xs : List X) (p : ℕ) → p < length xs → (x : X) × (slice_get xs p ≡ Some x)
item_at [] p h = absurd (omega arith)
item_at (x ∷ xs) zero h = (x, refl)
item_at (x ∷ xs) (suc p) h = item_at xs p (omega arith)

-- an interval lets a value pass exactly where the fact may stand for it
lets_stands : (mode : Mode) (fact : Fact) (bound : Bound) (x : Fraction) → AreEndsOf mode fact bound.range → Lets bound x → MayStandFor mode fact x
lets_stands mode fact bound x are h = by bound.range are h
  where
    by : (o : Option (Interval Ratio)) → AreEndsOf mode fact o → Lets (record { point = bound.point; range = o }) x → MayStandFor mode fact x
    by None a l = absurd l
    by (Some i) a l = record { narrow = a.narrow; admits = (a.numbers x.num x.den x.positive).1 l }

stands_lets : (mode : Mode) (fact : Fact) (bound : Bound) (x : Fraction) → AreEndsOf mode fact bound.range → MayStandFor mode fact x → Lets bound x
stands_lets mode fact bound x are m = by bound.range are
  where
    by : (o : Option (Interval Ratio)) → AreEndsOf mode fact o → Lets (record { point = bound.point; range = o }) x
    by None a = absurd (m.narrow a)
    by (Some i) a = (a.numbers x.num x.den x.positive).0 m.admits

-- the product of two numbers, each over its denominator
product_number : (x y : Fraction) (a b : ℤ) (d e : ℕ) → IsNumberOver x a d → IsNumberOver y b e → IsNumberOver (product_of x y) (a *ℤ b) (d * e)
product_number x y a b d e h i = record {
  positive = mul-pos h.positive i.positive;
  cross = (same-product x y (ratio a d h.positive) (ratio b e i.positive) (number_same x a d h) (number_same y b e i)).cross;
}

-- the same number over the same denominator
number_of_same : (x y : Fraction) (n : ℤ) (d : ℕ) → SameNumber x y → IsNumberOver y n d → IsNumberOver x n d
number_of_same x y n d s h = same_number x n d h.positive (same-trans x y (ratio n d h.positive) s (number_same y n d h))

-- a weight over 10 ^ m
weight_number : (m : ℕ) (w : Shortest) → w.places ≤ m → IsNumberOver (decimal_number w) (whole_weight m w) (10 ^ m)
weight_number m w h =
    let split : (m - w.places) + w.places ≡ m = omega arith in
    let power : 10 ^ m ≡ 10 ^ (m - w.places) * 10 ^ w.places = ap (λ k. 10 ^ k) (sym split) ∙ pow-add 10 (m - w.places) w.places in
    record { positive = ten_positive m; cross = ap (λ k. w.digits *ℤ pos k) power ∙ sym (mul_assoc w.digits (pos (10 ^ (m - w.places))) (pos (10 ^ w.places))) }

one_number : (m : ℕ) → IsNumberOver (whole (pos 1)) (pos (10 ^ m)) (10 ^ m)
one_number m = record { positive = ten_positive m; cross = mul_comm (pos 1) (pos (10 ^ m)) }

neg_sum : (a b : ℤ) → neg_ℤ a +ℤ neg_ℤ b ≡ neg_ℤ (a +ℤ b)
neg_sum a b = omega (arith, ints)

module _ (points : List Point) (z : Assignment) (n : ℕ → ℤ) (q : ℕ) (positive : 0 < q) (values : AreValuesOver points z n q) where
  -- the terms' part of an equation
  terms_number : (m : ℕ) (terms : List Term) (es : List Entry) → most_places terms ≤ m → AllByRecursion (IsInside points) terms → AllZip IsTermEntry terms es
      → IsNumberOver (sum_over_entries es z) (neg_ℤ (weighted_sum m terms (map (λ term. n term.point) terms))) (10 ^ m * q)
  terms_number m [] [] h inside a = zero_over (whole (pos 0)) (10 ^ m * q) (mul-pos (ten_positive m) positive) (same-refl (whole (pos 0)))
  terms_number m [] (e ∷ es) h inside a = absurd a
  terms_number m (t ∷ ts) [] h inside a = absurd a
  terms_number m (t ∷ ts) (e ∷ es) h inside a =
      let w = whole_weight m t.weight in
      let rest = weighted_sum m ts (map (λ term. n term.point) ts) in
      let weight : IsNumberOver (fraction_of e.weight) (neg_ℤ w) (10 ^ m) = number_of_same (fraction_of e.weight) (neg_of (decimal_number t.weight)) (neg_ℤ w) (10 ^ m) a.0.weighs (neg_number (decimal_number t.weight) w (10 ^ m) (weight_number m t.weight (omega arith))) in
      let value : IsNumberOver (z e.point) (n t.point) q = subst (λ (p : ℕ). IsNumberOver (z p) (n t.point) q) (sym a.0.at) (values t.point inside.0) in
      let own : IsNumberOver (product_of (fraction_of e.weight) (z e.point)) (neg_ℤ (w *ℤ n t.point)) (10 ^ m * q) =
      subst (λ (k : ℤ). IsNumberOver (product_of (fraction_of e.weight) (z e.point)) k (10 ^ m * q)) (neg-mul w (n t.point)) (product_number (fraction_of e.weight) (z e.point) (neg_ℤ w) (n t.point) (10 ^ m) q weight value) in
      subst (λ (k : ℤ). IsNumberOver (sum_over_entries (e ∷ es) z) k (10 ^ m * q)) (neg_sum (w *ℤ n t.point) rest)
      (sum_number (product_of (fraction_of e.weight) (z e.point)) (sum_over_entries es z) (neg_ℤ (w *ℤ n t.point)) (neg_ℤ rest) (10 ^ m * q) own (terms_number m ts es (omega arith) inside.1 a.1))

  -- a number is 0 exactly where its numerator is
  zero_number : (x : Fraction) (k : ℤ) (d : ℕ) → IsNumberOver x k d → IsZero x → k ≡ pos 0
  zero_number x k d h zero_x = equal_number x x k (pos 0) d h (zero_over x d h.positive (record { cross = omega (arith, ints, zero_x) })) (same-refl x)

  number_zero : (x : Fraction) (k : ℤ) (d : ℕ) → IsNumberOver x k d → k ≡ pos 0 → IsZero x
  number_zero x k d h e =
      let none : pos 0 *ℤ pos x.den ≡ pos 0 *ℤ pos d = omega (arith, ints) in
      same_factor d x.num (pos 0) h.positive (h.cross ∙ ap (λ (y : ℤ). y *ℤ pos x.den) e ∙ none)

  -- an equation of a binding
  equation_number : (b : Binding) (es : List Entry) → IsPlaced points b → AreEntries b es
      → IsNumberOver (sum_over_entries es z) (pos (10 ^ most_places b.terms) *ℤ n b.total +ℤ neg_ℤ (weighted_sum (most_places b.terms) b.terms (map (λ term. n term.point) b.terms))) (10 ^ most_places b.terms * q)
  equation_number b [] placed a = absurd a
  equation_number b (e ∷ es) placed a =
      let m = most_places b.terms in
      let weight : IsNumberOver (fraction_of e.weight) (pos (10 ^ m)) (10 ^ m) = number_of_same (fraction_of e.weight) (whole (pos 1)) (pos (10 ^ m)) (10 ^ m) a.0.weighs (one_number m) in
      let value : IsNumberOver (z e.point) (n b.total) q = subst (λ (p : ℕ). IsNumberOver (z p) (n b.total) q) (sym a.0.at) (values b.total placed.total) in
      sum_number (product_of (fraction_of e.weight) (z e.point)) (sum_over_entries es z) (pos (10 ^ m) *ℤ n b.total) (neg_ℤ (weighted_sum m b.terms (map (λ term. n term.point) b.terms))) (10 ^ m * q)
      (product_number (fraction_of e.weight) (z e.point) (pos (10 ^ m)) (n b.total) (10 ^ m) q weight value)
      (terms_number m b.terms es (omega arith) (recursion_from_All (IsInside points) b.terms placed.terms) a.1)

  less_none : (a b : ℤ) → a +ℤ neg_ℤ b ≡ pos 0 → a ≡ b
  less_none a b e = omega (arith, ints, e)

  none_less : (a b : ℤ) → a ≡ b → a +ℤ neg_ℤ b ≡ pos 0
  none_less a b e = omega (arith, ints, e)

  holds_adds : (b : Binding) (equation : Equation) → IsPlaced points b → IsEquationOf b equation → Holds equation z → AddsUp b (n b.total) (map (λ term. n term.point) b.terms)
  holds_adds b equation placed a h = less_none (pos (10 ^ most_places b.terms) *ℤ n b.total) (weighted_sum (most_places b.terms) b.terms (map (λ term. n term.point) b.terms)) (zero_number (sum_over_entries equation.entries z) _ _ (equation_number b equation.entries placed a) h)

  adds_holds : (b : Binding) (equation : Equation) → IsPlaced points b → IsEquationOf b equation → AddsUp b (n b.total) (map (λ term. n term.point) b.terms) → Holds equation z
  adds_holds b equation placed a h = number_zero (sum_over_entries equation.entries z) _ _ (equation_number b equation.entries placed a) (none_less (pos (10 ^ most_places b.terms) *ℤ n b.total) (weighted_sum (most_places b.terms) b.terms (map (λ term. n term.point) b.terms)) h)

-- what goes together stands at the same places
zipped_left : {A B : Type 0} (R : A → B → Type 0) (xs : List A) (ys : List B) (i : ℕ) (x : A) → AllZip R xs ys → slice_get xs i ≡ Some x → (y : B) × (slice_get ys i ≡ Some y) × R x y
zipped_left R [] ys i x a e = absurd (none e)
  where
    none : slice_get [] i ≡ Some x → ⊥
    none h = cc
zipped_left R (w ∷ xs) [] i x a e = absurd a
zipped_left R (w ∷ xs) (y ∷ ys) zero x a e = (y, refl, subst (λ (v : _). R v y) (same e) a.0)
  where
    same : Some w ≡ Some x → w ≡ x
    same h = cc
zipped_left R (w ∷ xs) (y ∷ ys) (suc i) x a e = zipped_left R xs ys i x a.1 e

zipped_right : {A B : Type 0} (R : A → B → Type 0) (xs : List A) (ys : List B) (i : ℕ) (y : B) → AllZip R xs ys → slice_get ys i ≡ Some y → (x : A) × (slice_get xs i ≡ Some x) × R x y
zipped_right R xs [] i y a e = absurd (none e)
  where
    none : slice_get [] i ≡ Some y → ⊥
    none h = cc
zipped_right R [] (v ∷ ys) i y a e = absurd a
zipped_right R (x ∷ xs) (v ∷ ys) zero y a e = (x, refl, subst (λ (u : _). R x u) (same e) a.0)
  where
    same : Some v ≡ Some y → v ≡ y
    same h = cc
zipped_right R (x ∷ xs) (v ∷ ys) (suc i) y a e = zipped_right R xs ys i y a.1 e

placed_at : (points : List Point) (bs : List Binding) (i : ℕ) (b : Binding) → AllByRecursion (IsPlaced points) bs → slice_get bs i ≡ Some b → IsPlaced points b
placed_at points [] i b a e = absurd (none e)
  where
    none : slice_get [] i ≡ Some b → ⊥
    none h = cc
placed_at points (x ∷ bs) zero b a e = subst (IsPlaced points) (same e) a.0
  where
    same : Some x ≡ Some b → x ≡ b
    same h = cc
placed_at points (x ∷ bs) (suc i) b a e = placed_at points bs i b a.1 e

pub solutions_admit : SolutionsAdmit
solutions_admit mode facts gathered bindings s z n q kept are placed system positive values = (there, back)
  where
    all_placed : AllByRecursion (IsPlaced gathered.points) bindings
    all_placed = recursion_from_All (IsPlaced gathered.points) bindings placed

    admit : Solves s z → FactsAdmit mode facts gathered.points z
    admit solves k point at f has fact fact_at = by (item_at s.bounds f (subst (λ (m : ℕ). f < m) (sym system.facts) (kept.within k point at f has)))
      where
        by : ((bound : Bound) × (slice_get s.bounds f ≡ Some bound)) → MayStandFor mode fact (z k)
        by (bound, bound_at) =
            let b = system.bounds f bound bound_at in
            let same : bound.point ≡ k = kept.apart bound.point k b.point point b.there at f b.has has in
            subst (λ (p : ℕ). MayStandFor mode fact (z p)) same (lets_stands mode fact bound (z bound.point) (end_at mode facts gathered.ends f fact bound.range are.ends fact_at b.range) (solves.admitted f bound bound_at))

    hold : Solves s z → BindingsHold bindings n
    hold solves i binding at = by (zipped_left IsEquationOf bindings s.equations i binding system.equations at)
      where
        by : ((equation : Equation) × (slice_get s.equations i ≡ Some equation) × IsEquationOf binding equation) → AddsUp binding (n binding.total) (map (λ term. n term.point) binding.terms)
        by (equation, equation_at, of) = holds_adds gathered.points z n q positive values binding equation (placed_at gathered.points bindings i binding all_placed at) of (solves.met i equation equation_at)

    there : Solves s z → FactsAdmit mode facts gathered.points z × BindingsHold bindings n
    there solves = (admit solves, hold solves)

    back : FactsAdmit mode facts gathered.points z × BindingsHold bindings n → Solves s z
    back (admits, holds) = record { admitted = admitted; met = met }
      where
        admitted : (k : ℕ) (bound : Bound) → slice_get s.bounds k ≡ Some bound → Lets bound (z bound.point)
        admitted f bound bound_at = by (fact_for mode facts gathered.ends f are.ends (slice_get_within gathered.ends f bound.range (system.bounds f bound bound_at).range))
          where
            by : ((fact : Fact) × (slice_get facts f ≡ Some fact)) → Lets bound (z bound.point)
            by (fact, fact_at) =
                let b = system.bounds f bound bound_at in
                stands_lets mode fact bound (z bound.point) (end_at mode facts gathered.ends f fact bound.range are.ends fact_at b.range) (admits bound.point b.point b.there f b.has fact fact_at)

        met : (i : ℕ) (equation : Equation) → slice_get s.equations i ≡ Some equation → Holds equation z
        met i equation at = by (zipped_right IsEquationOf bindings s.equations i equation system.equations at)
          where
            by : ((binding : Binding) × (slice_get bindings i ≡ Some binding) × IsEquationOf binding equation) → Holds equation z
            by (binding, binding_at, of) = adds_holds gathered.points z n q positive values binding equation (placed_at gathered.points bindings i binding all_placed binding_at) of (holds i binding binding_at)
