-- Edges between points and rows, and what each vertex has of them while vertices are taken away one by one.
use Rattle.std.specs.Prelude.{◌≡◌, ℕ, ◌+◌, ◌<◌, ◌≤◌, ◌^◌, ◌⊎◌, ◌==◌, if◌then◌else◌, Bool, List, [], ◌∷◌, ◌++◌, length, slice_index_or}
use Rattle.xc_forest.specs.declared.tallies.Tally.{Tally}

-- a point of a row, which is a vertex too; true for a minus sign
pub record Edge : Type 0 where
  pub point : ℕ
  pub row : ℕ
  pub minus : Bool

-- the edges of a row, which is this vertex
abbrev pub edges_of_row : ℕ → List (ℕ × Bool) → List Edge
edges_of_row v [] = []
edges_of_row v (entry ∷ row) = record { point = entry.0; row = v; minus = entry.1 } ∷ edges_of_row v row

-- the edges of rows, the first of which is this vertex
abbrev pub edges_from : ℕ → List (List (ℕ × Bool)) → List Edge
edges_from v [] = []
edges_from v (row ∷ rows) = edges_of_row v row ++ edges_from (v + 1) rows

-- the edge is one of these
abbrev pub IsEdgeIn : Edge → List Edge → Type 0
IsEdgeIn e [] = ⊥
IsEdgeIn e (x ∷ xs) = (e ≡ x) ⊎ IsEdgeIn e xs

-- how many edges end at x
abbrev pub degree : List Edge → ℕ → ℕ
degree [] x = 0
degree (e ∷ es) x = ((if e.point == x then 1 else 0) + (if e.row == x then 1 else 0)) + degree es x

-- the sum of their other ends
abbrev pub others : List Edge → ℕ → ℕ
others [] x = 0
others (e ∷ es) x = ((if e.point == x then e.row else 0) + (if e.row == x then e.point else 0)) + others es x

-- how many of them have a minus sign
abbrev pub minuses : List Edge → ℕ → ℕ
minuses [] x = 0
minuses (e ∷ es) x = (if e.minus then ((if e.point == x then 1 else 0) + (if e.row == x then 1 else 0)) else 0) + minuses es x

-- the tally is that of x: of the edges that end there
pub record IsTally (es : List Edge) (x : ℕ) (t : Tally) : Type 0 where
  pub degree : t.degree ≡ degree es x
  pub others : t.others ≡ others es x
  pub minuses : t.minuses ≡ minuses es x

-- e joins x and y
abbrev pub Joins : Edge → ℕ → ℕ → Type 0
Joins e x y = ((e.point ≡ x) × (e.row ≡ y)) ⊎ ((e.row ≡ x) × (e.point ≡ y))

-- how many edges join x and y
abbrev pub pairs : List Edge → ℕ → ℕ → ℕ
pairs [] x y = 0
pairs (e ∷ es) x y = ((if e.point == x then (if e.row == y then 1 else 0) else 0) + (if e.row == x then (if e.point == y then 1 else 0) else 0)) + pairs es x y

-- no edge joins a vertex with itself
abbrev pub AreProper : List Edge → Type 0
AreProper es = (e : Edge) → IsEdgeIn e es → ¬ (e.point ≡ e.row)

-- entry j of an order; 0 where there is none
abbrev pub at : List ℕ → ℕ → ℕ
at order j = slice_index_or order j 0

-- v is among the first k
abbrev pub IsGone : List ℕ → ℕ → ℕ → Type 0
IsGone order k v = (j : ℕ) × (j < k) × (at order j ≡ v)

-- the first k of the order are taken away, and the edges `left` are those that none of them had; whatever has at most one of these stands in the order
pub record IsPeeling (edges : List Edge) (n : ℕ) (order : List ℕ) (k : ℕ) (left : List Edge) : Type 0 where
  pub from : (e : Edge) → IsEdgeIn e left → IsEdgeIn e edges
  pub alive : (e : Edge) → IsEdgeIn e left → (¬ IsGone order k e.point) × (¬ IsGone order k e.row)
  pub kept : (e : Edge) → IsEdgeIn e edges → ¬ IsGone order k e.point → ¬ IsGone order k e.row → IsEdgeIn e left
  pub once : (i j : ℕ) → i < length order → j < length order → at order i ≡ at order j → i ≡ j
  pub below : (j : ℕ) → j < length order → at order j < n
  pub queued : (v : ℕ) → v < n → degree left v ≤ 1 → IsGone order (length order) v
  pub simple : (x y : ℕ) → pairs left x y ≤ 1
  pub few : (j : ℕ) → k ≤ j → j < length order → degree left (at order j) ≤ 1

-- each vertex has its tally of these edges
abbrev pub AreTallies : List Edge → List Tally → Type 0
AreTallies es ts = (x : ℕ) (d : Tally) → x < length ts → IsTally es x (slice_index_or ts x d)

-- the first k of the order are taken away, and each vertex has its tally of the edges left
pub record IsPeeled (edges : List Edge) (order : List ℕ) (k : ℕ) (ts : List Tally) : Type 0 where
  pub left : List Edge
  pub peeling : IsPeeling edges (length ts) order k left
  pub tallies : AreTallies left ts

-- what the tallies have and what the edges left bring is what all edges bring
pub record IsTallyWith (es left : List Edge) (x : ℕ) (t : Tally) : Type 0 where
  pub degree : t.degree + degree left x ≡ degree es x
  pub others : t.others + others left x ≡ others es x
  pub minuses : t.minuses + minuses left x ≡ minuses es x

-- so of each vertex
abbrev pub AreTalliesWith : List Edge → List Edge → List Tally → Type 0
AreTalliesWith es left ts = (x : ℕ) (d : Tally) → x < length ts → IsTallyWith es left x (slice_index_or ts x d)

-- the numbers of edges are small enough for tallies
pub record AreFew (es : List Edge) : Type 0 where
  pub degree : (x : ℕ) → degree es x < 2 ^ 64
  pub others : (x : ℕ) → others es x < 2 ^ 128
  pub minuses : (x : ℕ) → minuses es x < 2 ^ 64
