-- What is shown of each component is shown of the system.
use Rattle.std.proofs.Common.{◌≡◌, ◌≢◌, ℕ, ◌*◌, ◌<◌, Bool, cond, List, [], ◌∷◌, length, map, ℤ, pos, ◌+ℤ◌, ◌*ℤ◌, ◌⊎◌, inl, inr, refl, sym, ap, ap₂, subst, ◌∙◌, arith, Some, slice_get}
use Rattle.std.proofs.lemmas.Bool.{ne_eqb}
use Rattle.std.proofs.lemmas.Int.{ints}
use Rattle.std.proofs.lemmas.List.Elements.{recursion_from_All}
use Rattle.std.proofs.lemmas.Option.{slice_get_within, get_or_from_slice_get}
use Rattle.std.specs.List.{AllByRecursion}
use Rattle.std.specs.Prelude.{All}
use Rattle.xc_model.specs.Fraction.{Fraction, whole, sum_of, difference_of, neg_of, product_of}
use Rattle.xc_model.specs.Ratio.{Ratio, fraction_of}
use Rattle.xc_system.proofs.Links.{is_in, has_within, closed, owned}
use Rattle.xc_system.specs.Components.{HasPoint, IsComponent, Holding}
use Rattle.xc_system.specs.Kept.{Multipliers}
use Rattle.xc_system.specs.Laws.{JoinedSolve, PartsSolved, PartContradicts}
use Rattle.xc_lists.specs.Members.{IsIn}
use Rattle.xc_system.specs.Refutations.{IsKnownIn, coefficient, total, unit_at}
use Rattle.xc_system.specs.Solutions.{Assignment, IsZero, Admits, Holds, sum_over_entries}
use Rattle.xc_system.specs.Systems.{Constraints, IsSystem, point_at, equation_at, points_of}
use Rattle.xc_system.specs.declared.types.Bound.{Bound}
use Rattle.xc_system.specs.declared.types.Entry.{Entry}
use Rattle.xc_system.specs.declared.types.Equation.{Equation}

-- values that agree at the points of an equation
weighed_alike : (es : List Entry) (y z : Assignment) → ((p : ℕ) → IsIn p (map (λ e. e.point) es) → y p ≡ z p) → sum_over_entries es y ≡ sum_over_entries es z
weighed_alike [] y z h = refl
weighed_alike (e ∷ es) y z h = ap₂ sum_of (ap (product_of (fraction_of e.weight)) (h e.point (inl refl))) (weighed_alike es y z (λ p i. h p (inr i)))

-- every point of an equation is one of the system's
pub point_within : (s : Constraints) (i p : ℕ) → IsSystem s → HasPoint s.equations i p → p < s.points
point_within s i p ok h = by (equation_at s.equations i).entries (recursion_from_All (λ entry. entry.point < s.points) (equation_at s.equations i).entries (ok.equations i (record { entries = [] }) (has_within s.equations i p h))) h
  where
    by : (es : List Entry) → AllByRecursion (λ entry. entry.point < s.points) es → IsIn p (map (λ e. e.point) es) → p < s.points
    by [] a h = absurd h
    by (e ∷ es) a (inl q) = subst (λ (n : ℕ). n < s.points) (sym q) a.0
    by (e ∷ es) a (inr i) = by es a.1 i

pub joined_solve : JoinedSolve
joined_solve s cs each z ok are joins solve = record { admitted = admitted; met = λ i equation there. met i equation there (equation.entries) refl }
  where
    admitted : (k : ℕ) (bound : Bound) → slice_get s.bounds k ≡ Some bound → Admits bound (z bound.point)
    admitted k bound there = go (are.all bound.point (subst (λ (b : Bound). b.point < s.points) (get_or_from_slice_get s.bounds k bound bound there) (ok.bounds k bound (slice_get_within s.bounds k bound there))))
      where
        go : ((j : ℕ) × Holding cs bound.point j) → Admits bound (z bound.point)
        go (j, h) = subst (Admits bound) (sym (joins j bound.point h.component h.there h.has)) ((solve j h.component h.there).admitted k bound there h.has)

    met : (i : ℕ) (equation : Equation) → slice_get s.equations i ≡ Some equation → (es : List Entry) → equation.entries ≡ es → Holds equation z
    met i equation there [] none = ap (λ (es : List Entry). (sum_over_entries es z).num) none
    met i equation there (e ∷ es) some = go (are.all e.point (point_within s i e.point ok has))
      where
        same : equation_at s.equations i ≡ equation
        same = get_or_from_slice_get s.equations i equation (record { entries = [] }) there

        has : HasPoint s.equations i e.point
        has = subst (λ (q : Equation). IsIn e.point (points_of q)) (sym same) (subst (λ (xs : List Entry). IsIn e.point (map (λ x. x.point) xs)) (sym some) (inl refl))

        go : ((j : ℕ) × Holding cs e.point j) → Holds equation z
        go (j, h) = subst IsZero (sym (weighed_alike equation.entries z (each j) (λ p at. joins j p h.component h.there (inside p at)))) ((solve j h.component h.there).met i equation there ((is.equations i).1 (e.point, has, h.has)))
          where
            is : IsComponent s h.component
            is = are.each j h.component h.there

            inside : (p : ℕ) → IsIn p (points_of equation) → IsIn p h.component.points
            inside p at = let there : HasPoint s.equations i p = subst (λ (q : Equation). IsIn p (points_of q)) (sym same) at in closed s h.component is i e.point p (point_within s i p ok there) h.has has there

pub parts_solved : PartsSolved
parts_solved s c z h = record { admitted = λ k bound there own. h.admitted k bound there; met = λ i equation there own. h.met i equation there }

-- sums of nothing
zero_sum : (x y : Fraction) → IsZero x → IsZero y → IsZero (sum_of x y)
zero_sum x y a b = ap₂ (λ (m n : ℤ). m *ℤ pos y.den +ℤ n *ℤ pos x.den) a b ∙ omega (arith, ints)

zero_product : (x y : Fraction) → IsZero y → IsZero (product_of x y)
zero_product x y b = ap (λ (n : ℤ). x.num *ℤ n) b ∙ omega (arith, ints)

zero_neg : (x : Fraction) → IsZero x → IsZero (neg_of x)
zero_neg x a = omega (arith, ints)

unit_elsewhere : (j p : ℕ) → p ≢ j → IsZero (unit_at j p)
unit_elsewhere j p other = ap (λ (b : Bool). (cond b (whole (pos 1)) (whole (pos 0))).num) (ne_eqb p j other)

weighed_none : (j : ℕ) (es : List Entry) → ((p : ℕ) → IsIn p (map (λ e. e.point) es) → p ≢ j) → IsZero (sum_over_entries es (unit_at j))
weighed_none j [] h = refl
weighed_none j (e ∷ es) h = zero_sum (product_of (fraction_of e.weight) (unit_at j e.point)) (sum_over_entries es (unit_at j)) (zero_product (fraction_of e.weight) (unit_at j e.point) (unit_elsewhere j e.point (h e.point (inl refl)))) (weighed_none j es (λ p i. h p (inr i)))

total_none : (ms : List (ℕ × Ratio)) (of : ℕ → Fraction) → AllByRecursion (λ m. IsZero (of m.0)) ms → IsZero (total ms of)
total_none [] of a = refl
total_none (m ∷ ms) of a = zero_sum (product_of (fraction_of m.1) (of m.0)) (total ms of) (zero_product (fraction_of m.1) (of m.0) a.0) (total_none ms of a.1)

all_zero : (P : ℕ × Ratio → Type 0) (of : ℕ → Fraction) (ms : List (ℕ × Ratio)) → ((m : ℕ × Ratio) → P m → IsZero (of m.0)) → AllByRecursion P ms → AllByRecursion (λ m. IsZero (of m.0)) ms
all_zero P of [] h a = tt
all_zero P of (m ∷ ms) h a = (h m a.0, all_zero P of ms h a.1)

-- a point counts as nothing where it counts as nothing in each of the three
no_coefficient : (s : Constraints) (r : Multipliers) (j : ℕ) → IsZero (total r.bindings (λ i. sum_over_entries (equation_at s.equations i).entries (unit_at j)))
    → IsZero (total r.lows (λ k. unit_at j (point_at s.bounds k))) → IsZero (total r.highs (λ k. unit_at j (point_at s.bounds k))) → IsZero (coefficient s r j)
no_coefficient s r j a b c =
    zero_sum (total r.bindings (λ i. sum_over_entries (equation_at s.equations i).entries (unit_at j))) (difference_of (total r.lows (λ k. unit_at j (point_at s.bounds k))) (total r.highs (λ k. unit_at j (point_at s.bounds k)))) a
    (zero_sum (total r.lows (λ k. unit_at j (point_at s.bounds k))) (neg_of (total r.highs (λ k. unit_at j (point_at s.bounds k)))) b (zero_neg (total r.highs (λ k. unit_at j (point_at s.bounds k))) c))

pub part_contradicts : PartContradicts
part_contradicts s c r ok is h = record {
  kept = h.kept;
  bindings = λ k d l. within _ ((is.equations _).0 (h.bindings k d l));
  lows = λ k d l. (h.lows k d l).0;
  highs = λ k d l. (h.highs k d l).0;
  cancels = λ j l. cancels j (is_in j c.points);
  short = h.short;
}
  where
    within : (i : ℕ) → ((p : ℕ) × HasPoint s.equations i p × IsIn p c.points) → i < length s.equations
    within i (p, has, at) = has_within s.equations i p has

    elsewhere : (j p : ℕ) → (IsIn j c.points → ⊥) → IsIn p c.points → p ≢ j
    elsewhere j p out at e = out (subst (λ (q : ℕ). IsIn q c.points) e at)

    ended : (j : ℕ) → (IsIn j c.points → ⊥) → (ms : List (ℕ × Ratio)) → All (λ m. IsKnownIn s c m.0) ms → IsZero (total ms (λ k. unit_at j (point_at s.bounds k)))
    ended j out ms known =
        total_none ms (λ k. unit_at j (point_at s.bounds k))
        (all_zero (λ m. IsKnownIn s c m.0) (λ k. unit_at j (point_at s.bounds k)) ms (λ m own. unit_elsewhere j (point_at s.bounds m.0) (elsewhere j (point_at s.bounds m.0) out own.1)) (recursion_from_All (λ m. IsKnownIn s c m.0) ms known))

    cancels : (j : ℕ) → (IsIn j c.points ⊎ (IsIn j c.points → ⊥)) → IsZero (coefficient s r j)
    cancels j (inl at) = h.cancels j at
    cancels j (inr out) =
        no_coefficient s r j
        (total_none r.bindings (λ i. sum_over_entries (equation_at s.equations i).entries (unit_at j)) (all_zero (λ m. IsIn m.0 c.equations) (λ i. sum_over_entries (equation_at s.equations i).entries (unit_at j)) r.bindings
        (λ m own. weighed_none j (equation_at s.equations m.0).entries (λ p has. elsewhere j p out (owned s c is m.0 p (point_within s m.0 p ok has) own has)))
        (recursion_from_All (λ m. IsIn m.0 c.equations) r.bindings h.bindings)))
        (ended j out r.lows h.lows)
        (ended j out r.highs h.highs)
