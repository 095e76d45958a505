-- All that can be said of a system is of one kind.
use Rattle.std.proofs.Common.{◌≡◌, ◌<◌, ◌≤◌, ◌⊎◌, ℕ, zero, suc, List, [], ◌∷◌, length, get_or, Option, Some, None, inl, inr, refl, sym, ap, ap₂, subst, ◌∙◌, arith}
use Rattle.std.proofs.lemmas.Bool.Decides.{nat_tests}
use Rattle.std.proofs.lemmas.Option.{same_Some, slice_get_cases, slice_get_within, slice_get-get_or}
use Rattle.std.specs.List.{AllByRecursion}
use Rattle.std.specs.List.Sorted.{IsStrictlySortedBy}
use Rattle.std.specs.Option.{option_map_or}
use Rattle.std.specs.Ordering.{nat_cmp}
use Rattle.std.specs.Prelude.{IsSomeAnd, IfSome, slice_get}
use Rattle.std.specs.declared.cmp.Ordering.TheVariants.{Less}
use Rattle.xc_interval.specs.Intervals.{numbers_of, HasNumber}
use Rattle.xc_joint.specs.Answers.{ArePartsOf, HasNoCauses, IsPart, IsRefuted}
use Rattle.xc_joint.specs.Kinds.{HasOneKind}
use Rattle.xc_joint.specs.declared.types.Joint.TheVariants.{Settled, TooWide}
use Rattle.xc_joint.specs.declared.types.Part.{Part}
use Rattle.xc_joint.specs.declared.types.Part.TheVariants.{Values, Wide}
use Rattle.xc_lists.proofs.Members.{first_least}
use Rattle.xc_system.specs.Components.{AreComponents, IsComponent, IsLinked, least_of}
use Rattle.xc_system.specs.Kept.{Multipliers}
use Rattle.xc_system.specs.Laws.{ExcludesPassing, ExcludesSolutions, HasWithin, LinksAreEquivalences, PartContradicts, SolvingMaySolve}
use Rattle.xc_lists.specs.Members.{IsIn}
use Rattle.xc_system.specs.Refutations.{AdmitsAt, IsContradictionOf}
use Rattle.xc_system.specs.Solutions.{Assignment, Holds, Solves, SolvesPart}
use Rattle.xc_system.specs.Systems.{Constraints, IsSystem, equation_at}
use Rattle.xc_system.specs.declared.types.Bound.{Bound}
use Rattle.xc_system.specs.declared.types.Certificate.TheVariants.{Feasible, Infeasible}
use Rattle.xc_system.specs.declared.types.Component.{Component}
use Rattle.xc_verify.specs.Feasible.{assignment_of}

-- lists that ascend

below : (x y : ℕ) → nat_cmp x y ≡ Less → x < y
below x y e = grind (arith, nat_tests)

-- what stands behind the first is greater
pub behind : (x z : ℕ) (xs : List ℕ) → AllByRecursion (λ y. nat_cmp x y ≡ Less) xs → IsIn z xs → x < z
behind x z [] a h = absurd h
behind x z (y ∷ ys) a (inl e) = subst (λ (w : ℕ). x < w) (sym e) (below x y a.0)
behind x z (y ∷ ys) a (inr h) = behind x z ys a.1 h

-- lists that ascend and have the same numbers are the same
sorted_same : (xs ys : List ℕ) → IsStrictlySortedBy nat_cmp xs → IsStrictlySortedBy nat_cmp ys → ((x : ℕ) → IsIn x xs → IsIn x ys) → ((x : ℕ) → IsIn x ys → IsIn x xs) → xs ≡ ys
unfolding IsStrictlySortedBy
sorted_same [] [] s t f g = refl
sorted_same [] (y ∷ ys) s t f g = absurd (g y (inl refl))
sorted_same (x ∷ xs) [] s t f g = absurd (f x (inl refl))
sorted_same (x ∷ xs) (y ∷ ys) s t f g = ap₂ (λ (z : ℕ) (zs : List ℕ). z ∷ zs) same (sorted_same xs ys s.1 t.1 there back)
  where
    left : x ≤ y
    left = first_least (x ∷ xs) y s (g y (inl refl))

    right : y ≤ x
    right = first_least (y ∷ ys) x t (f x (inl refl))

    same : x ≡ y
    same = omega (arith, left, right)

    there : (z : ℕ) → IsIn z xs → IsIn z ys
    there z h = go (f z (inr h))
      where
        go : (z ≡ y) ⊎ IsIn z ys → IsIn z ys
        go (inl e) = absurd (omega (arith, e, same, behind x z xs s.0 h))
        go (inr k) = k

    back : (z : ℕ) → IsIn z ys → IsIn z xs
    back z h = go (g z (inr h))
      where
        go : (z ≡ x) ⊎ IsIn z xs → IsIn z xs
        go (inl e) = absurd (omega (arith, e, same, behind y z ys t.0 h))
        go (inr k) = k

-- components

abbrev made : List ℕ → List ℕ → Component
made ps es = record { points = ps; equations = es }

module _ (links : LinksAreEquivalences) (s : Constraints) where
  -- a component with the first point of another is that one
  pub same_component : (c d : Component) → IsComponent s c → IsComponent s d → IsIn (least_of c) d.points → c ≡ d
  same_component c d ic id h = ap₂ (λ (ps es : List ℕ). made ps es) points equations
    where
      of_d : (least_of c < s.points) × IsLinked s.equations (least_of d) (least_of c)
      of_d = (id.points (least_of c)).0 h

      of_c : IsIn (least_of d) c.points
      of_c = (ic.points (least_of d)).1 (id.least, (links s.equations).symmetric (least_of d) (least_of c) of_d.1)

      least : least_of c ≡ least_of d
      least = omega (arith, first_least c.points (least_of d) ic.points_ascend of_c, first_least d.points (least_of c) id.points_ascend h)

      points : c.points ≡ d.points
      points = sorted_same c.points d.points ic.points_ascend id.points_ascend
          (λ p k. let t = (ic.points p).0 k in (id.points p).1 (t.0, subst (λ (m : ℕ). IsLinked s.equations m p) least t.1))
          (λ p k. let t = (id.points p).0 k in (ic.points p).1 (t.0, subst (λ (m : ℕ). IsLinked s.equations m p) (sym least) t.1))

      equations : c.equations ≡ d.equations
      equations = sorted_same c.equations d.equations ic.equations_ascend id.equations_ascend
          (λ i k. let t = (ic.equations i).0 k in (id.equations i).1 (t.0, t.1, subst (λ (ps : List ℕ). IsIn t.0 ps) points t.2))
          (λ i k. let t = (id.equations i).0 k in (ic.equations i).1 (t.0, t.1, subst (λ (ps : List ℕ). IsIn t.0 ps) (sym points) t.2))

  -- every component stands among the components
  pub placed_at : (cs : List Component) → AreComponents s cs → (c : Component) → IsComponent s c → (k : ℕ) × (slice_get cs k ≡ Some c)
  placed_at cs are c ic =
      let held = are.all (least_of c) ic.least in
      (held.0, held.1.there ∙ ap (λ (d : Component). Some d) (sym (same_component c held.1.component ic (are.each held.0 held.1.component held.1.there) held.1.has)))

  -- at the same place of two lists of them
  step : (cs ds : List Component) → AreComponents s cs → AreComponents s ds → (k j : ℕ) (c d : Component) → slice_get cs j ≡ Some c → slice_get ds (suc k) ≡ Some c → slice_get ds k ≡ Some d → ((i : ℕ) → slice_get cs i ≡ Some d → k ≤ i) → suc k ≤ j
  step cs ds a b k j c d at there before earlier = go (placed_at cs a d (b.each k d before))
    where
      less : least_of d < least_of c
      less = b.numbered k (suc k) d c before there (omega arith)

      go : ((i : ℕ) × (slice_get cs i ≡ Some d)) → suc k ≤ j
      go (i, here) = by_order (order i j)
        where
          order : (m n : ℕ) → (m < n) ⊎ ((m ≡ n) ⊎ (n < m))
          order m n = grind arith

          by_order : (i < j) ⊎ ((i ≡ j) ⊎ (j < i)) → suc k ≤ j
          by_order (inl l) = omega (arith, l, earlier i here)
          by_order (inr (inl e)) = absurd (omega (arith, less, ap least_of (same_Some c d (sym at ∙ ap (λ (m : ℕ). slice_get cs m) (sym e) ∙ here))))
          by_order (inr (inr l)) = absurd (omega (arith, less, a.numbered j i c d at here l))

  no_later : (cs ds : List Component) → AreComponents s cs → AreComponents s ds → (k j : ℕ) (c : Component) → slice_get cs j ≡ Some c → slice_get ds k ≡ Some c → k ≤ j
  no_later cs ds a b zero j c at there = omega arith
  no_later cs ds a b (suc k) j c at there =
      let before : slice_get ds k ≡ Some (get_or ds k c) = slice_get-get_or ds k c (omega (arith, slice_get_within ds (suc k) c there)) in
      step cs ds a b k j c (get_or ds k c) at there before (λ i here. no_later cs ds a b k i (get_or ds k c) here before)

-- solutions

may : {X : Type 0} (P : X → Type 0) (o : Option X) → IsSomeAnd o P → IfSome o P
may P None h = tt
may P (Some x) h = h

-- what solves a component is not contradicted there
not_contradicted : HasWithin → ExcludesPassing → PartContradicts → (s : Constraints) (c : Component) (r : Multipliers) (z : Assignment) → IsSystem s → IsComponent s c → IsContradictionOf s c r → SolvesPart s c z → ⊥
not_contradicted within excludes part s c r z ok ic h solves = excludes s r z ok (part s c r ok ic h) (record {
  lows = λ i d l. admits _ (h.lows i d l).1;
  highs = λ i d l. admits _ (h.highs i d l).1;
  bindings = λ i d l. holds _ (h.bindings i d l);
})
  where
    admits : (k : ℕ) → IsIn (option_map_or (λ bound. bound.point) (slice_get s.bounds k) 0) c.points → AdmitsAt s z k
    admits k own bound there = may (λ interval. HasNumber (numbers_of interval) (z bound.point)) bound.range
        (solves.admitted k bound there (subst (λ (o : Option Bound). IsIn (option_map_or (λ b. b.point) o 0) c.points) there own))

    holds : (i : ℕ) → IsIn i c.equations → Holds (equation_at s.equations i) z
    holds i own =
        let has = (ic.equations i).0 own in
        solves.met i (equation_at s.equations i) (slice_get-get_or s.equations i (record { entries = [] }) (within s.equations i has.0 has.1)) own

-- kinds

-- where no component has a cause, it has no parts of which one is
uncaused_not_parts : (s : Constraints) (parts : List Part) → HasNoCauses s → ArePartsOf s parts → ⊥
uncaused_not_parts s parts none h = go (slice_get_cases h.components h.some.0).1
  where
    go : ((c : Component) × (h.some.0 < length h.components) × (slice_get h.components h.some.0 ≡ Some c) × (get_or h.components h.some.0 c ≡ c)) ⊎ ((length h.components ≤ h.some.0) × (slice_get h.components h.some.0 ≡ None)) → ⊥
    go (inl (c, l, there, at)) = none c (h.are.each h.some.0 c there) h.some.1 (h.part h.some.0 c (Wide h.some.1) there h.some.2)
    go (inr (past, none)) = absurd (omega (arith, past, h.each, slice_get_within parts h.some.0 (Wide h.some.1) h.some.2))

-- where a component is contradicted, it has no part
refuted_not_parts : LinksAreEquivalences → HasWithin → ExcludesPassing → PartContradicts → (s : Constraints) (r : Multipliers) (parts : List Part) → IsSystem s → IsRefuted s r → ArePartsOf s parts → ⊥
refuted_not_parts links within excludes joins s r parts ok h g = go (placed_at links s g.components g.are h.component own)
  where
    own : IsComponent s h.component
    own = h.are.each h.k h.component h.there

    by : (part : Part) → IsPart s h.component part → ⊥
    by (Values values) k = not_contradicted within excludes joins s h.component r _ ok own h.contradicts k.0.solve
    by (Wide cause) k = h.uncaused cause k

    go : ((i : ℕ) × (slice_get g.components i ≡ Some h.component)) → ⊥
    go (i, there) = at (slice_get_cases parts i).1
      where
        at : ((p : Part) × (i < length parts) × (slice_get parts i ≡ Some p) × (get_or parts i p ≡ p)) ⊎ ((length parts ≤ i) × (slice_get parts i ≡ None)) → ⊥
        at (inl (p, l, here, same)) = by p (g.part i h.component p there here)
        at (inr (past, none)) = omega (arith, past, g.each, slice_get_within g.components i h.component there)

-- where values solve the system, no component is contradicted
solved_not_refuted : ExcludesSolutions → SolvingMaySolve → PartContradicts → (s : Constraints) (z : Assignment) (r : Multipliers) → IsSystem s → Solves s z → IsRefuted s r → ⊥
solved_not_refuted excludes may_solve joins s z r ok solves h = excludes s r z ok (joins s h.component r ok (h.are.each h.k h.component h.there) h.contradicts) (may_solve s z solves)

module _ (links : LinksAreEquivalences) (within : HasWithin) (passing : ExcludesPassing) (solutions : ExcludesSolutions) (may_solve : SolvingMaySolve) (joins : PartContradicts) where
  pub one_kind : HasOneKind
  one_kind s (Settled (Feasible v)) (Settled (Feasible w)) ok h g = refl
  one_kind s (Settled (Feasible v)) (Settled (Infeasible r)) ok h g = absurd (solved_not_refuted solutions may_solve joins s (assignment_of v) r ok h.0.1 g.0)
  one_kind s (Settled (Feasible v)) (TooWide ps) ok h g = absurd (uncaused_not_parts s ps h.2 g)
  one_kind s (Settled (Infeasible r)) (Settled (Feasible v)) ok h g = absurd (solved_not_refuted solutions may_solve joins s (assignment_of v) r ok g.0.1 h.0)
  one_kind s (Settled (Infeasible r)) (Settled (Infeasible q)) ok h g = refl
  one_kind s (Settled (Infeasible r)) (TooWide ps) ok h g = absurd (refuted_not_parts links within passing joins s r ps ok h.0 g)
  one_kind s (TooWide ps) (Settled (Feasible v)) ok h g = absurd (uncaused_not_parts s ps g.2 h)
  one_kind s (TooWide ps) (Settled (Infeasible r)) ok h g = absurd (refuted_not_parts links within passing joins s r ps ok g.0 h)
  one_kind s (TooWide ps) (TooWide qs) ok h g = refl
