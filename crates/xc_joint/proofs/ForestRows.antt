-- The rows of the forest of a component: each has a point once, and there is no cycle.
use Rattle.std.proofs.Common.{◌≡◌, ℕ, zero, suc, ◌+◌, ◌-◌, ◌<◌, Bool, List, [], ◌∷◌, length, map, get_or, inl, inr, refl, sym, ap, subst, ◌∙◌, arith}
use Rattle.std.specs.List.Sorted.{IsStrictlySortedBy}
use Rattle.std.specs.Ordering.{nat_cmp}
use Rattle.std.specs.Prelude.{All}
use Rattle.xc_forest.specs.Forests.{AreRows, HasNoCycle, row_at, points_of as row_points, IsNext as IsNextTo, IsThin as IsThinTo, IsPointOf}
use Rattle.xc_lists.specs.Members.{IsIn as IsInRow, IsOnce as IsOnceIn}
use Rattle.xc_model.proofs.Integers.{lt_or_le}
use Rattle.xc_joint.specs.Lists.{AreEach}
use Rattle.xc_joint.specs.Steps.OneForest.{IsRowOf, IsSignedPlace}
use Rattle.xc_joint.proofs.Each.{each_at, each_length, other_default}
use Rattle.xc_joint.proofs.Searched.{rises}
use Rattle.xc_joint.proofs.Sizes.{place_of}
use Rattle.xc_lists.proofs.Members.{is_in_at}
use Rattle.xc_system.specs.Components.{IsComponent, HasPoint}
use Rattle.xc_system.specs.Laws.{OwnsPoints, PointsWithin}
use Rattle.xc_system.specs.Forests.{IsForest, IsNext, IsOf, IsThin, Vertex, a_point, an_equation}
use Rattle.xc_lists.specs.Members.{IsIn, IsOnce}
use Rattle.xc_system.specs.Systems.{Constraints, IsSystem, equation_at, points_of}
use Rattle.xc_system.specs.declared.types.Component.{Component}
use Rattle.xc_system.specs.declared.types.Entry.{Entry}

-- ---- one row

inside_row : (points : List ℕ) (entries : List Entry) (row : List (ℕ × Bool)) (p : ℕ) → AreEach (IsSignedPlace points) entries row → IsInRow p (row_points row) → p < length points
inside_row points [] [] p h i = absurd i
inside_row points [] (r ∷ row) p h i = absurd h
inside_row points (e ∷ entries) [] p h i = absurd h
inside_row points (e ∷ entries) (r ∷ row) p h (inl is) = subst (λ q. q < length points) (sym is) h.0.inside
inside_row points (e ∷ entries) (r ∷ row) p h (inr i) = inside_row points entries row p h.1 i

pub in_entries : (points : List ℕ) (entries : List Entry) (row : List (ℕ × Bool)) (p : ℕ) → AreEach (IsSignedPlace points) entries row → IsInRow p (row_points row) → IsIn (get_or points p 0) (map (λ entry. entry.point) entries)
in_entries points [] [] p h i = absurd i
in_entries points [] (r ∷ row) p h i = absurd h
in_entries points (e ∷ entries) [] p h i = absurd h
in_entries points (e ∷ entries) (r ∷ row) p h (inl is) = inl (ap (λ q. get_or points q 0) is ∙ h.0.there)
in_entries points (e ∷ entries) (r ∷ row) p h (inr i) = inr (in_entries points entries row p h.1 i)

once_in : (points : List ℕ) (entries : List Entry) (row : List (ℕ × Bool)) → AreEach (IsSignedPlace points) entries row → IsOnce (map (λ entry. entry.point) entries) → IsOnceIn (row_points row)
once_in points [] [] h o = tt
once_in points [] (r ∷ row) h o = absurd h
once_in points (e ∷ entries) [] h o = absurd h
once_in points (e ∷ entries) (r ∷ row) h o = (λ i. o.0 (subst (λ q. IsIn q (map (λ entry. entry.point) entries)) h.0.there (in_entries points entries row r.0 h.1 i)), once_in points entries row h.1 o.1)

-- ---- where a number of an ascending list stands
pub same_place : (xs : List ℕ) (i j : ℕ) → IsStrictlySortedBy nat_cmp xs → i < length xs → j < length xs → get_or xs i 0 ≡ get_or xs j 0 → i ≡ j
same_place xs i j up l k same = elim (lt_or_le i j) [
  | inl less ↦ let h = rises xs up i j less k in absurd (omega (arith, h, same))
  | inr least ↦ elim (lt_or_le j i) [
    | inl more ↦ let h = rises xs up j i more l in absurd (omega (arith, h, same))
    | inr most ↦ omega (arith, least, most)
  ]
]

-- ---- all rows

entry_in : (entries : List Entry) (k : ℕ) (d : Entry) → k < length entries → IsIn (get_or entries k d).point (map (λ entry. entry.point) entries)
entry_in [] k d l = absurd (omega (arith, l))
entry_in (e ∷ es) zero d l = inl refl
entry_in (e ∷ es) (suc k) d l = inr (entry_in es k d (omega (arith, l)))

-- the points of a component's equations are its own
pub own_points : OwnsPoints → PointsWithin → (s : Constraints) (c : Component) → IsSystem s → IsComponent s c → All (λ i. All (λ entry. IsIn entry.point c.points) (equation_at s.equations i).entries) c.equations
own_points owns within s c system is j d l k e m =
    let i : ℕ = get_or c.equations j d in
    let there : IsIn (get_or c.equations j d) c.equations = subst (λ x. IsIn x c.equations) (other_default c.equations j 0 d l) (is_in_at c.equations j l) in
    let has : HasPoint s.equations (get_or c.equations j d) (get_or (equation_at s.equations (get_or c.equations j d)).entries k e).point = entry_in (equation_at s.equations (get_or c.equations j d)).entries k e m in
    owns s c is (get_or c.equations j d) _ (within s (get_or c.equations j d) _ system has) there has

module _ (s : Constraints) (c : Component) (rows : List (List (ℕ × Bool))) (is : IsComponent s c) (each : AreEach (IsRowOf s c.points) c.equations rows) where
  abbrev n : ℕ
  n = length c.points

  -- row i is that of this equation
  of_equation : (i : ℕ) → i < length rows → AreEach (IsSignedPlace c.points) (equation_at s.equations (get_or c.equations i 0)).entries (row_at rows i)
  of_equation i l = each_at (IsRowOf s c.points) c.equations rows i 0 [] each (omega (arith, l, each_length (IsRowOf s c.points) c.equations rows each))

  pub are_rows : All (λ i. IsOnce (points_of (equation_at s.equations i))) c.equations → AreRows (length c.points) rows
  are_rows once i l = (
    λ p there. inside_row c.points _ (row_at rows i) p (of_equation i l) there,
    once_in c.points _ (row_at rows i) (of_equation i l) (once i 0 (omega (arith, l, each_length (IsRowOf s c.points) c.equations rows each))),
  )

  -- ---- no cycle

  -- the vertex of the graph that stands for a point or an equation
  number : (v : Vertex) → IsOf c v → ℕ
  number (a_point p) o = (place_of p c.points o).0
  number (an_equation i) o = length c.points + (place_of i c.equations o).0

  one_number : (v : Vertex) (o o' : IsOf c v) → number v o ≡ number v o'
  unfolding number
  one_number (a_point p) o o' = let a = place_of p c.points o in let b = place_of p c.points o' in same_place c.points a.0 b.0 is.points_ascend a.1 b.1 (a.2 ∙ sym b.2)
  one_number (an_equation i) o o' = let a = place_of i c.equations o in let b = place_of i c.equations o' in ap (λ k. length c.points + k) (same_place c.equations a.0 b.0 is.equations_ascend a.1 b.1 (a.2 ∙ sym b.2))

  -- a row that has the place of a point is that of an equation that has the point
  row_has : (p i : ℕ) (o : IsOf c (a_point p)) (o' : IsOf c (an_equation i)) → IsPointOf (length c.points) rows (number (a_point p) o) (number (an_equation i) o') → HasPoint s.equations i p
  unfolding number
  row_has p i o o' h =
      let a = place_of p c.points o in
      let b = place_of i c.equations o' in
      let at_row : h.0 ≡ b.0 = omega (arith, h.1) in
      let has = in_entries c.points _ (row_at rows h.0) a.0 (of_equation h.0 h.2) h.3 in
      let has' = subst (λ q. IsIn q (points_of (equation_at s.equations (get_or c.equations h.0 0)))) a.2 has in
      subst (λ k. IsIn p (points_of (equation_at s.equations k))) (ap (λ k. get_or c.equations k 0) at_row ∙ b.2) has'

  -- the place of a point is no row
  no_row : (p i : ℕ) (o : IsOf c (a_point p)) → number (a_point p) o ≡ length c.points + i → ⊥
  unfolding number
  no_row p i o e = let a = place_of p c.points o in omega (arith, e, a.1)

  -- an equation is no point
  no_point : (i u : ℕ) (o : IsOf c (an_equation i)) (v : ℕ) → IsPointOf (length c.points) rows (number (an_equation i) o) v → ⊥
  unfolding number
  no_point i u o v h = let few = inside_row c.points _ (row_at rows h.0) _ (of_equation h.0 h.2) h.3 in omega (arith, few)

  next_of : (v u : Vertex) (o : IsOf c v) (o' : IsOf c u) → IsNextTo (length c.points) rows (number v o) (number u o') → IsNext s.equations v u
  next_of (a_point p) (a_point q) o o' (inl h) = no_row q h.0 o' h.1
  next_of (a_point p) (a_point q) o o' (inr h) = no_row p h.0 o h.1
  next_of (a_point p) (an_equation i) o o' (inl h) = row_has p i o o' h
  next_of (a_point p) (an_equation i) o o' (inr h) = absurd (no_point i i o' _ h)
  next_of (an_equation i) (a_point p) o o' (inl h) = absurd (no_point i i o _ h)
  next_of (an_equation i) (a_point p) o o' (inr h) = row_has p i o' o h
  next_of (an_equation i) (an_equation j) o o' (inl h) = no_point i i o _ h
  next_of (an_equation i) (an_equation j) o o' (inr h) = no_point j j o' _ h

  abbrev AreOf : List Vertex → Type 0
  AreOf vs = (v : Vertex) → IsIn v vs → IsOf c v

  numbers : (vs : List Vertex) → AreOf vs → List ℕ
  numbers [] own = []
  numbers (v ∷ vs) own = number v (own v (inl refl)) ∷ numbers vs (λ w i. own w (inr i))

  in_numbers : (vs : List Vertex) (own : AreOf vs) (v : Vertex) (o : IsOf c v) → IsIn v vs → IsInRow (number v o) (numbers vs own)
  unfolding numbers
  in_numbers [] own v o i = absurd i
  in_numbers (w ∷ vs) own v o (inl e) = inl (subst (λ x. (o' : IsOf c x) → number v o ≡ number x o') e (one_number v o) (own w (inl refl)))
  in_numbers (w ∷ vs) own v o (inr i) = inr (in_numbers vs (λ x j. own x (inr j)) v o i)

  record Standing (vs : List Vertex) (u : ℕ) : Type 0 where
    vertex : Vertex
    there : IsIn vertex vs
    own : IsOf c vertex
    at : u ≡ number vertex own

  from_numbers : (vs : List Vertex) (own : AreOf vs) (u : ℕ) → IsInRow u (numbers vs own) → Standing vs u
  unfolding numbers
  from_numbers [] own u i = absurd i
  from_numbers (v ∷ vs) own u (inl e) = record { vertex = v; there = inl refl; own = own v (inl refl); at = e }
  from_numbers (v ∷ vs) own u (inr i) = let r = from_numbers vs (λ w j. own w (inr j)) u i in record { vertex = r.vertex; there = inr r.there; own = r.own; at = r.at }

  thin_numbers : (vs : List Vertex) (own : AreOf vs) → IsThin s.equations vs → IsThinTo (length c.points) rows (numbers vs own)
  unfolding numbers
  thin_numbers [] own h = tt
  thin_numbers (v ∷ vs) own h = (one, thin_numbers vs (λ w i. own w (inr i)) h.1)
    where
      one : (u w : ℕ) → IsInRow u (numbers vs (λ w i. own w (inr i))) → IsInRow w (numbers vs (λ w i. own w (inr i))) → IsNextTo (length c.points) rows (number v (own v (inl refl))) u → IsNextTo (length c.points) rows (number v (own v (inl refl))) w → u ≡ w
      one u w i j a b =
          let x = from_numbers vs (λ w i. own w (inr i)) u i in
          let y = from_numbers vs (λ w i. own w (inr i)) w j in
          let o = own v (inl refl) in
          let next_x = next_of v x.vertex o x.own (subst (IsNextTo (length c.points) rows (number v o)) x.at a) in
          let next_y = next_of v y.vertex o y.own (subst (IsNextTo (length c.points) rows (number v o)) y.at b) in
          let same : x.vertex ≡ y.vertex = h.0 x.vertex y.vertex x.there y.there next_x next_y in
          x.at ∙ subst (λ z. (o' : IsOf c z) → number x.vertex x.own ≡ number z o') same (one_number x.vertex x.own) y.own ∙ sym y.at

  module _ (f : IsForest s c) where
    own_order : AreOf f.order
    own_order v i = (f.all v).0 i

    point_listed : (v : ℕ) → v < length c.points → IsInRow v (numbers f.order own_order)
    unfolding number
    point_listed v l =
        let o = is_in_at c.points v l in
        let a = place_of (get_or c.points v 0) c.points o in
        let at : a.0 ≡ v = same_place c.points a.0 v is.points_ascend a.1 l a.2 in
        subst (λ k. IsInRow k (numbers f.order own_order)) at (in_numbers f.order own_order (a_point (get_or c.points v 0)) o ((f.all (a_point (get_or c.points v 0))).1 o))

    row_listed : (i : ℕ) → i < length c.equations → IsInRow (length c.points + i) (numbers f.order own_order)
    unfolding number
    row_listed i l =
        let o = is_in_at c.equations i l in
        let a = place_of (get_or c.equations i 0) c.equations o in
        let at : a.0 ≡ i = same_place c.equations a.0 i is.equations_ascend a.1 l a.2 in
        subst (λ k. IsInRow (length c.points + k) (numbers f.order own_order)) at (in_numbers f.order own_order (an_equation (get_or c.equations i 0)) o ((f.all (an_equation (get_or c.equations i 0))).1 o))

    pub no_cycle : HasNoCycle (length c.points) rows
    no_cycle = record {
      listing = numbers f.order own_order;
      listed = λ v l. elim (lt_or_le v (length c.points)) [
        | inl less ↦ point_listed v less
        | inr more ↦
            let rest : length c.points + (v - length c.points) ≡ v = omega (arith, more) in
            subst (λ k. IsInRow k (numbers f.order own_order)) rest (row_listed (v - length c.points) (omega (arith, more, l, each_length (IsRowOf s c.points) c.equations rows each)))
      ];
      thin = thin_numbers f.order own_order f.thin;
    }
