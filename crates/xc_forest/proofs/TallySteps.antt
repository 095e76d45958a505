-- Tallies while edges are counted.
use Rattle.std.proofs.Common.{◌≡◌, ℕ, zero, suc, false, ◌+◌, ◌<◌, ◌^◌, List, [], ◌∷◌, ◌++◌, length, get_or, set, drop, ◌⊎◌, inl, inr, refl, sym, ap, ◌∙◌, arith, subst, Bool, drop-cons, add-one}
use Rattle.std.proofs.lemmas.Bool.{cases_eq}
use Rattle.std.proofs.lemmas.List.{get_or_read, get_or-set_same, get_or-set_other, length-set}
use Rattle.xc_forest.specs.declared.tallies.Tally.{Tally}
use Rattle.xc_forest.specs.Forests.{points_of, row_at, AreRows}
use Rattle.xc_lists.specs.Members.{IsIn}
use Rattle.xc_forest.specs.Steps.Counted.{tally_with_edge, tally_at, bit, HasRoomAt}
use Rattle.xc_forest.specs.Steps.Edges.{Edge, edges_from, edges_of_row, Joins, AreTalliesWith, IsTallyWith, AreFew, AreTallies}
use Rattle.xc_forest.proofs.LastEdges.{one_at, one_away}

module _ (es left : List Edge) (e : Edge) (x : ℕ) (t : Tally) (w : IsTallyWith es (e ∷ left) x t) where
  counted_at : (y : ℕ) → Joins e x y → ¬ (x ≡ y) → IsTallyWith es left x (tally_with_edge t y e.minus)
  counted_at y j m =
      let o = one_at e x y j m in
      record {
        degree = omega (arith, w.degree, o.0);
        others = omega (arith, w.others, o.1);
        minuses = omega (arith, w.minuses, o.2);
      }

  counted_off : ¬ (e.point ≡ x) → ¬ (e.row ≡ x) → IsTallyWith es left x t
  counted_off a b =
      let o = one_away e x a b in
      record {
        degree = omega (arith, w.degree, o.0);
        others = omega (arith, w.others, o.1);
        minuses = omega (arith, w.minuses, o.2);
      }

  room_at : (y : ℕ) → Joins e x y → ¬ (x ≡ y) → AreFew es → (t.degree + 1 < 2 ^ 64) × (t.others + y < 2 ^ 128) × (t.minuses + bit e.minus < 2 ^ 64)
  room_at y j m f =
      let o = one_at e x y j m in
      (omega (arith, w.degree, o.0, f.degree x), omega (arith, w.others, o.1, f.others x), omega (arith, w.minuses, o.2, f.minuses x))

-- an edge is counted at both ends
pub with_edge : (es left : List Edge) (ts : List Tally) (e : Edge) (first second : Tally) → AreTalliesWith es (e ∷ left) ts → ¬ (e.point ≡ e.row) → e.point < length ts → e.row < length ts
    → first ≡ tally_with_edge (tally_at ts e.point) e.row e.minus → second ≡ tally_with_edge (tally_at (set ts e.point first) e.row) e.point e.minus
    → AreTalliesWith es left (set (set ts e.point first) e.row second)
with_edge es left ts e first second h apart point row is_first is_second x d l = go (cases_eq x e.row) (cases_eq x e.point)
  where
    other : tally_at (set ts e.point first) e.row ≡ tally_at ts e.row
    other = get_or-set_other ts e.point e.row first (record { degree = 0; others = 0; minuses = 0 }) (λ q. apart (sym q))

    long : x < length ts
    long = omega (arith, length-set (set ts e.point first) e.row second, length-set ts e.point first)

    go : ((x ≡ e.row) ⊎ (x ≡ e.row → ⊥)) → ((x ≡ e.point) ⊎ (x ≡ e.point → ⊥)) → IsTallyWith es left x (get_or (set (set ts e.point first) e.row second) x d)
    go (inl q) p = rw (q, get_or-set_same (set ts e.point first) e.row second d (omega (arith, row, length-set ts e.point first)), is_second, other) (counted_at es left e e.row (tally_at ts e.row) (h e.row _ row) e.point (inr (refl, refl)) (λ f. apart (sym f)))
    go (inr q) (inl p) = rw (get_or-set_other (set ts e.point first) e.row x second d q, p, get_or-set_same ts e.point first d point, is_first) (counted_at es left e e.point (tally_at ts e.point) (h e.point _ point) e.row (inl (refl, refl)) apart)
    go (inr q) (inr p) = rw (get_or-set_other (set ts e.point first) e.row x second d q, get_or-set_other ts e.point x first d p) (counted_off es left e x (get_or ts x d) (h x d long) (λ f. p (sym f)) (λ f. q (sym f)))

pub room_at_point : (es left : List Edge) (ts : List Tally) (e : Edge) → AreFew es → AreTalliesWith es (e ∷ left) ts → ¬ (e.point ≡ e.row) → e.point < length ts → HasRoomAt ts e.point e.row e.minus
room_at_point es left ts e f h apart l = let r = room_at es left e e.point (tally_at ts e.point) (h e.point _ l) e.row (inl (refl, refl)) apart f in record { degree = r.0; others = r.1; minuses = r.2 }

pub room_at_row : (es left : List Edge) (ts : List Tally) (e : Edge) (first : Tally) → AreFew es → AreTalliesWith es (e ∷ left) ts → ¬ (e.point ≡ e.row) → e.row < length ts → HasRoomAt (set ts e.point first) e.row e.point e.minus
room_at_row es left ts e first f h apart l =
    let r = room_at es left e e.row (tally_at ts e.row) (h e.row _ l) e.point (inr (refl, refl)) (λ q. apart (sym q)) f in
    let other : tally_at (set ts e.point first) e.row ≡ tally_at ts e.row = get_or-set_other ts e.point e.row first (record { degree = 0; others = 0; minuses = 0 }) (λ q. apart (sym q)) in
    record { degree = rw other r.0; others = rw other r.1; minuses = rw other r.2 }

-- the edges of the rows from i on are those of row i and of the rows behind it
pub edges_at : (v i : ℕ) (rows : List (List (ℕ × Bool))) → i < length rows → edges_from v (drop i rows) ≡ edges_of_row v (row_at rows i) ++ edges_from (v + 1) (drop (i + 1) rows)
edges_at v i rows l = ap (λ (rs : List (List (ℕ × Bool))). edges_from v rs) (drop-cons rows i [] l) ∙ ap (λ (k : ℕ). edges_of_row v (row_at rows i) ++ edges_from (v + 1) (drop k rows)) (sym (add-one i))

pub tallies_done : (es : List Edge) (ts : List Tally) → AreTalliesWith es [] ts → AreTallies es ts
tallies_done es ts h x d l = let w = h x d l in record { degree = omega (arith, w.degree); others = omega (arith, w.others); minuses = omega (arith, w.minuses) }

pub tallies_begun : (es : List Edge) (ts : List Tally) → AreTallies [] ts → AreTalliesWith es es ts
tallies_begun es ts h x d l = let w = h x d l in record { degree = omega (arith, w.degree); others = omega (arith, w.others); minuses = omega (arith, w.minuses) }

point_at : (row : List (ℕ × Bool)) (j : ℕ) → j < length row → IsIn (get_or row j ((0, false))).0 (points_of row)
point_at [] j l = absurd (omega arith)
point_at (entry ∷ row) zero l = inl refl
point_at (entry ∷ row) (suc j) l = inr (point_at row j (omega arith))

-- the edge of entry j of a row
abbrev pub edge_at : ℕ → List (ℕ × Bool) → ℕ → Edge
edge_at v row j = record { point = (get_or row j ((0, false))).0; row = v; minus = (get_or row j ((0, false))).1 }

module _ (n : ℕ) (rows : List (List (ℕ × Bool))) (good : AreRows n rows) (i : ℕ) (l : i < length rows) (row found : List (ℕ × Bool)) (is : row ≡ found) (there : found ≡ get_or rows i found) (j : ℕ) (m : j < length row) where
  row_is : row ≡ row_at rows i
  row_is = is ∙ get_or_read rows i found l there []

  pub point_below : (get_or row j ((0, false))).0 < n
  point_below = (good i l).0 (get_or row j ((0, false))).0 (subst (λ (r : List (ℕ × Bool)). IsIn (get_or row j ((0, false))).0 (points_of r)) row_is (point_at row j m))

  pub next_edge : (rest : List Edge) → edges_of_row (n + i) (drop j row) ++ rest ≡ edge_at (n + i) row j ∷ (edges_of_row (n + i) (drop (j + 1) row) ++ rest)
  next_edge rest =
      ap (λ (r : List (ℕ × Bool)). edges_of_row (n + i) r ++ rest) (drop-cons row j ((0, false)) m)
      ∙ ap (λ (k : ℕ). edge_at (n + i) row j ∷ (edges_of_row (n + i) (drop k row) ++ rest)) (sym (add-one j))

  pub apart : ¬ ((get_or row j ((0, false))).0 ≡ n + i)
  apart e = let k = point_below in absurd (omega arith)
