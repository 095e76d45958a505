-- The edges of rows.
use Rattle.std.proofs.Common.{◌≡◌, ℕ, zero, suc, ◌+◌, ◌<◌, ◌≤◌, List, [], ◌∷◌, ◌++◌, length, ◌⊎◌, inl, inr, ap, arith, subst, Bool}
use Rattle.xc_forest.specs.Forests.{points_of, row_at, AreRows}
use Rattle.xc_lists.specs.Members.{IsIn}
use Rattle.xc_forest.specs.Steps.Edges.{Edge, edges_of_row, edges_from, IsEdgeIn, degree, others, minuses, pairs, AreProper}

-- ---- lists

pub in_append_left : (e : Edge) (es fs : List Edge) → IsEdgeIn e es → IsEdgeIn e (es ++ fs)
in_append_left e [] fs i = absurd i
in_append_left e (x ∷ es) fs (inl q) = inl q
in_append_left e (x ∷ es) fs (inr i) = inr (in_append_left e es fs i)

pub in_append_right : (e : Edge) (es fs : List Edge) → IsEdgeIn e fs → IsEdgeIn e (es ++ fs)
in_append_right e [] fs i = i
in_append_right e (x ∷ es) fs i = inr (in_append_right e es fs i)

pub from_append : (e : Edge) (es fs : List Edge) → IsEdgeIn e (es ++ fs) → IsEdgeIn e es ⊎ IsEdgeIn e fs
from_append e [] fs i = inr i
from_append e (x ∷ es) fs (inl q) = inl (inl q)
from_append e (x ∷ es) fs (inr i) = elim (from_append e es fs i) [ inl j ↦ inl (inr j) | inr j ↦ inr j ]

pub degree_append : (es fs : List Edge) (x : ℕ) → degree (es ++ fs) x ≡ degree es x + degree fs x
degree_append [] fs x = omega arith
degree_append (e ∷ es) fs x = omega (arith, degree_append es fs x)

pub others_append : (es fs : List Edge) (x : ℕ) → others (es ++ fs) x ≡ others es x + others fs x
others_append [] fs x = omega arith
others_append (e ∷ es) fs x = omega (arith, others_append es fs x)

pub minuses_append : (es fs : List Edge) (x : ℕ) → minuses (es ++ fs) x ≡ minuses es x + minuses fs x
minuses_append [] fs x = omega arith
minuses_append (e ∷ es) fs x = omega (arith, minuses_append es fs x)

pub pairs_append : (es fs : List Edge) (x y : ℕ) → pairs (es ++ fs) x y ≡ pairs es x y + pairs fs x y
pairs_append [] fs x y = omega arith
pairs_append (e ∷ es) fs x y = omega (arith, pairs_append es fs x y)

-- ---- points of rows

pub entry_of_point : (row : List (ℕ × Bool)) (p : ℕ) → IsIn p (points_of row) → (b : Bool) × IsIn ((p, b)) row
entry_of_point [] p i = absurd i
entry_of_point (entry ∷ row) p (inl q) = (entry.1, inl (λ i. (q i, entry.1)))
entry_of_point (entry ∷ row) p (inr i) = let r = entry_of_point row p i in (r.0, inr r.1)

pub point_of_entry : (row : List (ℕ × Bool)) (p : ℕ) (b : Bool) → IsIn ((p, b)) row → IsIn p (points_of row)
point_of_entry [] p b i = absurd i
point_of_entry (entry ∷ row) p b (inl q) = inl (ap (λ (e : ℕ × Bool). e.0) q)
point_of_entry (entry ∷ row) p b (inr i) = inr (point_of_entry row p b i)

-- ---- edges of a row

pub edge_of_entry : (v : ℕ) (row : List (ℕ × Bool)) (p : ℕ) (b : Bool) → IsIn ((p, b)) row → IsEdgeIn (record { point = p; row = v; minus = b }) (edges_of_row v row)
edge_of_entry v [] p b i = absurd i
edge_of_entry v (entry ∷ row) p b (inl q) = inl (ap (λ (e : ℕ × Bool). record { point = e.0; row = v; minus = e.1 }) q)
edge_of_entry v (entry ∷ row) p b (inr i) = inr (edge_of_entry v row p b i)

pub entry_of_edge : (v : ℕ) (row : List (ℕ × Bool)) (e : Edge) → IsEdgeIn e (edges_of_row v row) → (e.row ≡ v) × IsIn ((e.point, e.minus)) row
entry_of_edge v [] e i = absurd i
entry_of_edge v (entry ∷ row) e (inl q) = (ap (λ (x : Edge). x.row) q, inl (ap (λ (x : Edge). (x.point, x.minus)) q))
entry_of_edge v (entry ∷ row) e (inr i) = let r = entry_of_edge v row e i in (r.0, inr r.1)

pub edge_of_row : (v i : ℕ) (rows : List (List (ℕ × Bool))) (p : ℕ) (b : Bool) → i < length rows → IsIn ((p, b)) (row_at rows i) → IsEdgeIn (record { point = p; row = v + i; minus = b }) (edges_from v rows)
edge_of_row v i [] p b l k = absurd (omega arith)
edge_of_row v zero (row ∷ rows) p b l k = in_append_left _ (edges_of_row v row) (edges_from (v + 1) rows) (subst (λ (w : ℕ). IsEdgeIn (record { point = p; row = w; minus = b }) (edges_of_row v row)) (omega arith) (edge_of_entry v row p b k))
edge_of_row v (suc i) (row ∷ rows) p b l k = in_append_right _ (edges_of_row v row) (edges_from (v + 1) rows) (subst (λ (w : ℕ). IsEdgeIn (record { point = p; row = w; minus = b }) (edges_from (v + 1) rows)) (omega arith) (edge_of_row (v + 1) i rows p b (omega arith) k))

-- which row has an edge
pub record IsOfRow (v : ℕ) (rows : List (List (ℕ × Bool))) (e : Edge) : Type 0 where
  pub number : ℕ
  pub row : e.row ≡ v + number
  pub there : number < length rows
  pub entry : IsIn ((e.point, e.minus)) (row_at rows number)

pub row_of_edge : (v : ℕ) (rows : List (List (ℕ × Bool))) (e : Edge) → IsEdgeIn e (edges_from v rows) → IsOfRow v rows e
row_of_edge v [] e i = absurd i
row_of_edge v (row ∷ rows) e i = elim (from_append e (edges_of_row v row) (edges_from (v + 1) rows) i) [
  | inl j ↦ let r = entry_of_edge v row e j in record { number = 0; row = omega (arith, r.0); there = omega arith; entry = r.1 }
  | inr j ↦ let r = row_of_edge (v + 1) rows e j in record { number = suc r.number; row = omega (arith, r.row); there = omega (arith, r.there); entry = r.entry }
]

module _ (n : ℕ) (rows : List (List (ℕ × Bool))) (good : AreRows n rows) where
  -- the ends of an edge
  pub edge_ends : (e : Edge) → IsEdgeIn e (edges_from n rows) → (e.point < n) × (n ≤ e.row) × (e.row < n + length rows)
  edge_ends e i =
      let r = row_of_edge n rows e i in
      let l : e.point < n = (good r.number r.there).0 e.point (point_of_entry (row_at rows r.number) e.point e.minus r.entry) in
      (l, omega (arith, r.row), omega (arith, r.row, r.there))

  pub are_proper : AreProper (edges_from n rows)
  are_proper e i q = let r = edge_ends e i in omega (arith, r.0, r.1)

  pub ends_within : (count : ℕ) → count ≡ n + length rows → (e : Edge) → IsEdgeIn e (edges_from n rows) → (e.point < count) × (e.row < count)
  ends_within count is e i = let r = edge_ends e i in (omega (arith, r.0), omega (arith, r.2))
