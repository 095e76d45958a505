-- What was done to a forest while its vertices were taken away one by one, so that it can be undone.
use Rattle.std.specs.Prelude.{◌≡◌, ◌≢◌, ℕ, ◌+◌, ◌<◌, Bool, true, false, List, [], ◌∷◌, ◌++◌, reverse, drop, length, ℤ, pos, negsuc, if◌then◌else◌, ◌==◌}
use Rattle.xc_forest.specs.Forests.{IsUnit, multiplier_at, ranges_of}
use Rattle.xc_lists.specs.Members.{IsIn}
use Rattle.xc_forest.specs.Steps.Links.{graph_of, vertices}
use Rattle.xc_forest.specs.Steps.Scaled.{AreBoundsOver, AreValuesOver, AreSpansOver, scale_of, first_spans}
use Rattle.xc_forest.specs.Steps.Vertices.{Graph, Span, IsLeafPoint, IsLeafRow, IsAlone, IsMeet, IsWithin, IsNonempty, row_without_point, span_with_sign, no_parts, AreVertexValues, Refutes}
use Rattle.xc_forest.specs.declared.links.Link.{Link}
use Rattle.xc_forest.specs.declared.spans.Bounds.{Bounds}
use Rattle.xc_forest.specs.declared.types.Forest.{Forest}
use Rattle.xc_forest.specs.declared.undos.Clash.{Clash}
use Rattle.xc_forest.specs.declared.undos.Undo.{Undo}
use Rattle.xc_forest.specs.declared.undos.Undo.TheVariants as undo
use Rattle.xc_model.specs.Parts.{Parts, WholeParts, ArePartsOver}

-- the value that a vertex without neighbours takes: a point its low end, and a row 0
abbrev pub IsLoneValue : Bool → Span → WholeParts → Type 0
IsLoneValue false a x = x ≡ a.low
IsLoneValue true a x = (x ≡ no_parts) × IsWithin a x

-- the vertices vs with spans a are what is left of ws with spans o, once vertices were taken away as these tell, the last of them first
pub data IsTrail {E : Type 0} (parts : E → Parts) (d : ℕ) (g : Graph) (ws : List ℕ) (o : ℕ → Span) : List (Undo E) → List ℕ → (ℕ → Span) → Type 0 where
  start : IsTrail parts d g ws o [] ws o
  took_point : (p r : ℕ) (b : Bool) (x y : Bounds E) (us : List (Undo E)) (vs : List ℕ) (a n : ℕ → Span)
      → IsTrail parts d g ws o us (p ∷ vs) a → IsLeafPoint g vs p r b → AreBoundsOver parts d x (a r) → AreBoundsOver parts d y (a p)
      → n r ≡ row_without_point b (a r) (a p) → ((v : ℕ) → IsIn v vs → v ≢ r → n v ≡ a v) → IsNonempty (a r) → IsNonempty (a p)
      → IsTrail parts d g ws o (undo.Point p r b x y ∷ us) vs n
  took_row : (r p : ℕ) (b lo hi : Bool) (us : List (Undo E)) (vs : List ℕ) (a n : ℕ → Span)
      → IsTrail parts d g ws o us (r ∷ vs) a → IsLeafRow g vs r p b
      → IsMeet lo hi (a p) (span_with_sign b (a r)) (n p) → ((v : ℕ) → IsIn v vs → v ≢ p → n v ≡ a v)
      → IsTrail parts d g ws o (undo.Row r p b lo hi ∷ us) vs n
  took_alone : (w : ℕ) (e : E) (x : WholeParts) (us : List (Undo E)) (vs : List ℕ) (a : ℕ → Span)
      → IsTrail parts d g ws o us (w ∷ vs) a → IsAlone g vs w → ArePartsOver (parts e) x d → IsLoneValue (g.is_row w) (a w) x → IsNonempty (a w)
      → IsTrail parts d g ws o (undo.Alone w e ∷ us) vs a

-- one more step behind these: a point that was left in one row
abbrev pub with_point : {E : Type 0} → List (Undo E) → ℕ → ℕ → Bool → Bounds E → Bounds E → List (Undo E)
with_point undos p r b x y = undos ++ undo.Point p r b x y ∷ []

-- a row that had one point left
abbrev pub with_row : {E : Type 0} → List (Undo E) → ℕ → ℕ → Bool → Bool → Bool → List (Undo E)
with_row undos r p b lo hi = undos ++ undo.Row r p b lo hi ∷ []

-- a vertex without neighbours
abbrev pub with_alone : {E : Type 0} → List (Undo E) → ℕ → E → List (Undo E)
with_alone undos w e = undos ++ undo.Alone w e ∷ []

-- the multiplier of a point whose span does not meet that of its row: the test tells that the low end of what they have in common is the
-- row's
abbrev pub point_clash : Bool → ℤ
point_clash true = negsuc 0
point_clash false = pos 1

-- and that of the row, which has the point with a minus sign where the second test says so
abbrev pub row_clash : Bool → Bool → ℤ
row_clash true false = pos 1
row_clash true true = negsuc 0
row_clash false false = negsuc 0
row_clash false true = pos 1

module _ {E : Type 0} (parts : E → Parts) (forest : Forest E) (links : List Link) where
  -- a trail from the whole forest, the last step last
  abbrev pub IsTrailOf : List (Undo E) → List ℕ → (ℕ → Span) → Type 0
  IsTrailOf undos vs a = IsTrail parts (scale_of (ranges_of parts forest.ranges)) (graph_of (length forest.ranges) forest.rows) (vertices links) (first_spans (ranges_of parts forest.ranges)) (reverse undos) vs a

  -- nothing is left
  pub record AreAllTaken (undos : List (Undo E)) : Type 0 where
    pub now : ℕ → Span
    pub trail : IsTrailOf undos [] now

  -- the first k vertices are taken away, and the spans of the others hold some value each
  pub record IsNarrowed (k : ℕ) (spans : List (Bounds E)) (undos : List (Undo E)) : Type 0 where
    pub now : ℕ → Span
    pub trail : IsTrailOf undos (vertices (drop k links)) now
    pub hold : AreSpansOver parts (scale_of (ranges_of parts forest.ranges)) spans now
    pub some : (v : ℕ) → IsIn v (vertices (drop k links)) → IsNonempty (now v)
    pub each : length spans ≡ length forest.ranges + length forest.rows

  -- values of the vertices that are left once this much is undone
  pub record AreSettled (undos : List (Undo E)) (values : List E) : Type 0 where
    pub left : List ℕ
    pub now : ℕ → Span
    pub value : ℕ → WholeParts
    pub trail : IsTrailOf undos left now
    pub settles : AreVertexValues (graph_of (length forest.ranges) forest.rows) left now value
    pub hold : AreValuesOver parts (scale_of (ranges_of parts forest.ranges)) values value
    pub each : length values ≡ length forest.ranges + length forest.rows

  -- multipliers of them that refute
  pub record AreRefuted (undos : List (Undo E)) (multipliers : List ℤ) : Type 0 where
    pub left : List ℕ
    pub now : ℕ → Span
    pub trail : IsTrailOf undos left now
    pub refutes : Refutes (graph_of (length forest.ranges) forest.rows) left now (multiplier_at multipliers)
    pub each : length multipliers ≡ length forest.ranges + length forest.rows

  -- the two multipliers of a clash refute what is left
  pub record IsClash (undos : List (Undo E)) (clash : Clash) : Type 0 where
    pub left : List ℕ
    pub now : ℕ → Span
    pub trail : IsTrailOf undos left now
    pub refutes : Refutes (graph_of (length forest.ranges) forest.rows) left now (λ v. if v == clash.row then clash.row_by else (if v == clash.point then clash.point_by else pos 0))
    pub row : clash.row < length forest.ranges + length forest.rows
    pub point : clash.point < length forest.ranges + length forest.rows
    pub row_unit : IsUnit clash.row_by
    pub point_unit : IsUnit clash.point_by
