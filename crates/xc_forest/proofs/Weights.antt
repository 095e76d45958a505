-- The weights of vertices in one another.
use Rattle.std.proofs.Common.{◌≡◌, ℕ, ◌+◌, ◌-◌, ◌<◌, ◌≤◌, Bool, true, false, cond, List, [], ◌∷◌, length, pos, inl, inr, refl, sym, arith, ap, ◌∙◌, subst}
use Rattle.std.proofs.lemmas.Int.{ints}
use Rattle.std.proofs.lemmas.Bool.{eq-eqb, ne_eqb}
use Rattle.std.proofs.lemmas.Bool.Decides.{nat_tests}
use Rattle.xc_forest.specs.Forests.{points_of, row_at, row_sum, unit_at, number_with_sign, AreRows, IsPointOf, IsNext}
use Rattle.xc_lists.specs.Members.{IsIn, IsOnce}
use Rattle.xc_forest.specs.Steps.Edges.{Edge, edges_from, IsEdgeIn, Joins}
use Rattle.xc_forest.specs.Steps.Links.{is_row_of, weigh_of}
use Rattle.xc_forest.specs.Steps.Vertices.{weight}
use Rattle.xc_forest.proofs.EdgeLists.{entry_of_point, point_of_entry, edge_of_row, IsOfRow, row_of_edge}

turn_zero : (b : Bool) → number_with_sign b (pos 0) ≡ pos 0
turn_zero false = refl
turn_zero true = refl

turn_one : (b : Bool) → number_with_sign b (pos 1) ≡ weight b
turn_one false = refl
turn_one true = refl

pub weight_none : (row : List (ℕ × Bool)) (p : ℕ) → ¬ IsIn p (points_of row) → row_sum row (unit_at p) ≡ pos 0
weight_none [] p h = refl
weight_none (e ∷ row) p h =
    let i : row_sum row (unit_at p) ≡ pos 0 = weight_none row p (λ k. h (inr k)) in
    rw (ne_eqb e.0 p (λ q. h (inl (sym q))), turn_zero e.1) (omega (arith, ints))

pub weight_some : (row : List (ℕ × Bool)) (p : ℕ) (b : Bool) → IsOnce (points_of row) → IsIn ((p, b)) row → row_sum row (unit_at p) ≡ weight b
weight_some [] p b d h = absurd h
weight_some (e ∷ row) p b d (inl k) =
    let at_p : p ≡ e.0 = ap (λ (x : ℕ × Bool). x.0) k in
    let at_b : b ≡ e.1 = ap (λ (x : ℕ × Bool). x.1) k in
    let i : row_sum row (unit_at p) ≡ pos 0 = weight_none row p (λ j. d.0 (subst (λ (x : ℕ). IsIn x (points_of row)) at_p j)) in
    rw (eq-eqb e.0 p (sym at_p), i, turn_one e.1, at_b) (omega (arith, ints))
weight_some (e ∷ row) p b d (inr k) =
    rw (ne_eqb e.0 p (λ q. d.0 (subst (λ (x : ℕ). IsIn x (points_of row)) (sym q) (point_of_entry row p b k))), turn_zero e.1) (omega (arith, ints, weight_some row p b d.1 k))

pub row_true : (n v : ℕ) → n ≤ v → is_row_of n v ≡ true
row_true n v h = grind (arith, nat_tests)

pub row_false : (n v : ℕ) → v < n → is_row_of n v ≡ false
row_false n v h = grind (arith, nat_tests)

pub row_number : (n i : ℕ) → (n + i) - n ≡ i
row_number n i = omega arith

module _ (n : ℕ) (rows : List (List (ℕ × Bool))) (good : AreRows n rows) where
  -- an edge between two vertices, as a point of a row
  pub next_of_edge : (e : Edge) (x y : ℕ) → IsEdgeIn e (edges_from n rows) → Joins e x y → IsNext n rows x y
  next_of_edge e x y i j = go (row_of_edge n rows e i) j
    where
      go : IsOfRow n rows e → Joins e x y → IsNext n rows x y
      go r (inl j) = inl (r.number, sym j.1 ∙ r.row, r.there, subst (λ (p : ℕ). IsIn p (points_of (row_at rows r.number))) j.0 (point_of_entry (row_at rows r.number) e.point e.minus r.entry))
      go r (inr j) = inr (r.number, sym j.0 ∙ r.row, r.there, subst (λ (p : ℕ). IsIn p (points_of (row_at rows r.number))) j.1 (point_of_entry (row_at rows r.number) e.point e.minus r.entry))

  -- and a point of a row as an edge
  pub edge_of_point : (p v : ℕ) → IsPointOf n rows p v → (e : Edge) × IsEdgeIn e (edges_from n rows) × (e.point ≡ p) × (e.row ≡ v)
  edge_of_point p v k =
      let b = entry_of_point (row_at rows k.0) p k.3 in
      (record { point = p; row = n + k.0; minus = b.0 }, edge_of_row n k.0 rows p b.0 k.2 b.1, refl, sym k.1)

  -- the weight that an edge gives
  pub weigh_edge : (e : Edge) → IsEdgeIn e (edges_from n rows) → weigh_of n rows e.row e.point ≡ weight e.minus
  weigh_edge e i = go (row_of_edge n rows e i)
    where
      go : IsOfRow n rows e → weigh_of n rows e.row e.point ≡ weight e.minus
      go r =
          let p : e.point < n = (good r.number r.there).0 e.point (point_of_entry (row_at rows r.number) e.point e.minus r.entry) in
          rw (r.row, row_true n (n + r.number) (omega arith), row_false n e.point p, row_number n r.number) (weight_some (row_at rows r.number) e.point e.minus (good r.number r.there).1 r.entry)

  pub weigh_none : (p v : ℕ) → v < n + length rows → ¬ IsPointOf n rows p v → weigh_of n rows v p ≡ pos 0
  weigh_none p v l k = go (is_row_of n v) refl (is_row_of n p)
    where
      above : is_row_of n v ≡ true → n ≤ v
      above e = grind (arith, nat_tests)

      go : (s : Bool) → is_row_of n v ≡ s → (t : Bool) → cond s (cond t (pos 0) (row_sum (row_at rows (v - n)) (unit_at p))) (pos 0) ≡ pos 0
      go false e t = refl
      go true e true = refl
      go true e false = weight_none (row_at rows (v - n)) p (λ j. let a : n ≤ v = above e in k (v - n, omega arith, omega arith, j))
