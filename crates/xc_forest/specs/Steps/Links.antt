-- The order in which vertices are taken away, each with its last neighbour.
use Rattle.std.specs.Prelude.{◌≡◌, ℕ, ◌+◌, ◌-◌, ◌<◌, ◌≤◌, ◌⊎◌, slice_index_or, Bool, true, false, List, [], ◌∷◌, map, length, nat_le, if◌then◌else◌, ℤ, pos, refl}
use Rattle.xc_forest.specs.Forests.{row_at, row_sum, unit_at}
use Rattle.xc_lists.specs.Members.{IsIn, IsOnce}
use Rattle.xc_forest.specs.Steps.Edges.{Edge, IsEdgeIn, Joins, at, IsGone}
use Rattle.xc_forest.specs.Steps.Vertices.{Graph, IsLeafPoint, IsLeafRow, IsAlone}
use Rattle.xc_forest.specs.declared.links.Link.{Link}
use Rattle.xc_forest.specs.declared.tallies.Tally.{Tally}
use Rattle.xc_forest.specs.declared.types.Forest.{Forest}

-- vertex v is a row
abbrev pub is_row_of : ℕ → ℕ → Bool
is_row_of n v = nat_le n v

-- the weight of a vertex in another, where one is a row of these and the other a point
abbrev pub weigh_of : ℕ → List (List (ℕ × Bool)) → ℕ → ℕ → ℤ
weigh_of n rows r v = if is_row_of n r then (if is_row_of n v then pos 0 else row_sum (row_at rows (r - n)) (unit_at v)) else pos 0

-- the graph of n points and these rows
unfoldable pub graph_of : ℕ → List (List (ℕ × Bool)) → Graph
graph_of n rows = record {
  is_row = is_row_of n;
  weigh = weigh_of n rows;
  rows = λ r v e. rw e refl;
  points = λ r v e. rw e (both (is_row_of n r));
}
  where
    both : (b : Bool) → (if b then pos 0 else pos 0) ≡ pos 0
    both true = refl
    both false = refl

-- the vertices in the order of their links
abbrev pub vertices : List Link → List ℕ
vertices links = map (λ link. link.vertex) links

-- alone: it is next to none of these; else it is a point or a row that is next to one of them
abbrev pub IsLinkBy : Bool → Graph → List ℕ → Link → Type 0
IsLinkBy true g vs link = IsAlone g vs link.vertex
IsLinkBy false g vs link = IsLeafPoint g vs link.vertex link.next link.minus ⊎ IsLeafRow g vs link.vertex link.next link.minus

-- link k
abbrev pub link_at : List Link → ℕ → Link
link_at links k = slice_index_or links k (record { vertex = 0; next = 0; minus = false; is_alone = false })

-- the link tells what the vertex is next to among these
abbrev pub IsLinkTo : Graph → List ℕ → Link → Type 0
IsLinkTo g vs link = IsLinkBy link.is_alone g vs link

-- each link tells so among those behind it
abbrev pub AreLinks : Graph → List Link → Type 0
AreLinks g [] = Unit {0}
AreLinks g (link ∷ links) = IsLinkTo g (vertices links) link × AreLinks g links

-- links of all n vertices, each once
pub record IsListing (g : Graph) (n : ℕ) (links : List Link) : Type 0 where
  pub once : IsOnce (vertices links)
  pub known : (v : ℕ) → IsIn v (vertices links) → v < n
  pub all : (v : ℕ) → v < n → IsIn v (vertices links)
  pub each : AreLinks g links

-- links of all points and rows of a forest, each once
abbrev pub IsListingOf : {E : Type 0} → Forest E → List Link → Type 0
IsListingOf forest links = IsListing (graph_of (length forest.ranges) forest.rows) (length forest.ranges + length forest.rows) links

-- link j tells the last neighbour of vertex j of the order: whatever else it is next to is gone by then
pub record IsLinkAt (edges : List Edge) (order : List ℕ) (j : ℕ) (link : Link) : Type 0 where
  pub vertex : link.vertex ≡ at order j
  pub next : (e : Edge) (y : ℕ) → IsEdgeIn e edges → Joins e (at order j) y → IsGone order j y ⊎ ((link.is_alone ≡ false) × (y ≡ link.next))
  pub some : link.is_alone ≡ false → (e : Edge) × IsEdgeIn e edges × Joins e (at order j) link.next × (e.minus ≡ link.minus) × (¬ IsGone order j link.next)

-- the vertices of the links are the first of the order
pub record AreLinksOf (edges : List Edge) (order : List ℕ) (links : List Link) : Type 0 where
  pub few : length links ≤ length order
  pub each : (j : ℕ) (d : Link) → j < length links → IsLinkAt edges order j (slice_index_or links j d)

-- the vertices below n with one edge at most, each once
pub record AreLeaves (ts : List Tally) (n : ℕ) (order : List ℕ) : Type 0 where
  pub once : (i j : ℕ) → i < length order → j < length order → at order i ≡ at order j → i ≡ j
  pub below : (j : ℕ) → j < length order → at order j < n
  pub few : (j : ℕ) (d : Tally) → j < length order → (slice_index_or ts (at order j) d).degree ≤ 1
  pub all : (v : ℕ) (d : Tally) → v < n → (slice_index_or ts v d).degree ≤ 1 → IsGone order (length order) v
