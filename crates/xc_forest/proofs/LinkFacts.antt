-- The order in which all vertices of a forest are taken away, with the last neighbour of each.
use Rattle.std.proofs.Common.{◌≡◌, ℕ, zero, suc, ◌+◌, ◌<◌, ◌≤◌, Bool, true, false, List, [], ◌∷◌, length, drop, get_or, pos, ◌⊎◌, inl, inr, refl, sym, arith, ap, ◌∙◌, eqb, subst}
use Rattle.std.proofs.lemmas.Bool.{cases_eq, false≢true, eq-eqb, ne_eqb}
use Rattle.xc_model.proofs.Integers.{lt_or_le}
use Rattle.xc_forest.specs.Forests.{AreRows, IsThin, HasNoCycle}
use Rattle.xc_lists.specs.Members.{IsIn}
use Rattle.xc_forest.specs.declared.links.Link.{Link}
use Rattle.xc_forest.specs.declared.tallies.Tally.{Tally}
use Rattle.xc_forest.specs.Steps.Edges.{Edge, edges_from, IsEdgeIn, degree, Joins, AreProper, at, IsGone, IsPeeling, IsPeeled}
use Rattle.xc_forest.specs.Steps.Links.{graph_of, weigh_of, IsLinkBy, IsLinkTo, IsLinkAt}
use Rattle.xc_forest.specs.Steps.Vertices.{IsLeafPoint, IsLeafRow}
use Rattle.xc_forest.proofs.AllGone.{IsEdgeThin, is_gone, all_gone}
use Rattle.xc_forest.proofs.EdgeLists.{edge_ends, are_proper}
use Rattle.xc_forest.proofs.LastEdges.{away, IsLast}
use Rattle.xc_forest.specs.Steps.Counted.{bit}
use Rattle.xc_lists.proofs.Members.{is_in_at}
use Rattle.xc_lists.proofs.Onces.{behind}
use Rattle.xc_forest.proofs.Peelings.{IsTurn, tally_at, IsLonger}
use Rattle.xc_forest.proofs.Weights.{next_of_edge, edge_of_point, weigh_edge, weigh_none, row_true, row_false}

-- ---- one turn

-- an edge joins a vertex with one other alone
one_other : (e : Edge) (x y z : ℕ) → ¬ (e.point ≡ e.row) → Joins e x y → Joins e x z → y ≡ z
one_other e x y z p (inl j) (inl k) = sym j.1 ∙ k.1
one_other e x y z p (inr j) (inr k) = sym j.1 ∙ k.1
one_other e x y z p (inl j) (inr k) = absurd (p (j.0 ∙ sym k.0))
one_other e x y z p (inr j) (inl k) = absurd (p (k.0 ∙ sym j.0))

no_end : (e : Edge) (x y : ℕ) → (e.point ≡ x → ⊥) → (e.row ≡ x → ⊥) → ¬ Joins e x y
no_end e x y a b (inl j) = a j.0
no_end e x y a b (inr j) = b j.0

module _ (edges : List Edge) (n : ℕ) (order : List ℕ) (k : ℕ) (left : List Edge) (h : IsPeeling edges n order k left) (known : k < length order) where
  fresh : ¬ IsGone order k (at order k)
  fresh g = absurd (omega (arith, g.1, h.once g.0 k (let l : g.0 < k = g.1 in omega arith) known g.2))

  -- an edge of the vertex whose other end is not gone is one of those left
  still : (e : Edge) (y : ℕ) → IsEdgeIn e edges → Joins e (at order k) y → ¬ IsGone order k y → IsEdgeIn e left
  still e y i (inl j) g = h.kept e i (λ f. fresh (subst (λ (v : ℕ). IsGone order k v) j.0 f)) (λ f. g (subst (λ (v : ℕ). IsGone order k v) j.1 f))
  still e y i (inr j) g = h.kept e i (λ f. g (subst (λ (v : ℕ). IsGone order k v) j.1 f)) (λ f. fresh (subst (λ (v : ℕ). IsGone order k v) j.0 f))

  pub alone_link : (link : Link) → link.vertex ≡ at order k → link.is_alone ≡ true → degree left (at order k) ≡ 0 → IsLinkAt edges order k link
  alone_link link e a z = record {
    vertex = e;
    next = λ f y i j. elim (is_gone order k y) [ inl g ↦ inl g | inr g ↦ absurd (let o = away left (at order k) z f (still f y i j g) in no_end f (at order k) y o.0 o.1 j) ];
    some = λ q. absurd (false≢true (sym q ∙ a));
  }

  pub last_link : (link : Link) (b : ℕ) (e : Edge) (rest : List Edge) → AreProper edges → link.vertex ≡ at order k → link.is_alone ≡ false → IsLast left (at order k) link.next b e rest → e.minus ≡ link.minus → IsLinkAt edges order k link
  last_link link b e rest p q a last m = record {
    vertex = q;
    next = λ f y i j. elim (is_gone order k y) [ inl g ↦ inl g | inr g ↦ inr (a, other f y i j (last.taken.split f (still f y i j g))) ];
    some = λ _. (e, h.from e last.taken.taken, last.joins, m, next_fresh last.joins);
  }
    where
      other : (f : Edge) (y : ℕ) → IsEdgeIn f edges → Joins f (at order k) y → ((f ≡ e) ⊎ IsEdgeIn f rest) → y ≡ link.next
      other f y i j (inl s) = one_other e (at order k) y link.next (p e (h.from e last.taken.taken)) (subst (λ (g : Edge). Joins g (at order k) y) s j) last.joins
      other f y i j (inr s) = let o = away rest (at order k) last.own f s in absurd (no_end f (at order k) y o.0 o.1 j)

      next_fresh : Joins e (at order k) link.next → ¬ IsGone order k link.next
      next_fresh (inl j) g = (h.alive e last.taken.taken).1 (subst (λ (v : ℕ). IsGone order k v) (sym j.1) g)
      next_fresh (inr j) g = (h.alive e last.taken.taken).0 (subst (λ (v : ℕ). IsGone order k v) (sym j.1) g)

-- the tally of a vertex with one edge tells its sign
pub sign_of : (b : Bool) (m : ℕ) → bit b ≡ m → b ≡ eqb m 1
sign_of true m e = sym (eq-eqb m 1 (sym e))
sign_of false m e = sym (ne_eqb m 1 (λ f. absurd (omega arith)))

pub turn_link : (edges : List Edge) (order : List ℕ) (k : ℕ) (ts : List Tally) (p : IsPeeled edges order k ts) (v : ℕ) → AreProper edges → k < length order → v ≡ at order k → IsTurn edges order k ts p v
    → IsLinkAt edges order k (record { vertex = v; next = (tally_at ts v).others; minus = eqb (tally_at ts v).minuses 1; is_alone = false })
turn_link edges order k ts p v proper l q t = last_link edges (length ts) order k p.left p.peeling l _ (tally_at ts v).minuses t.edge t.rest proper q refl t.last (sign_of t.edge.minus (tally_at ts v).minuses t.last.minus)

-- ---- longer orders

pub link_longer : (edges : List Edge) (old new : List ℕ) (j : ℕ) (link : Link) → IsLonger old new → j < length old → IsLinkAt edges old j link → IsLinkAt edges new j link
link_longer edges old new j link h l k = record {
  vertex = k.vertex ∙ sym (h.same j l);
  next = λ e y i o. elim (k.next e y i (subst (λ (v : ℕ). Joins e v y) (h.same j l) o)) [ inl g ↦ inl (there y g) | inr q ↦ inr q ];
  some = λ a. let s = k.some a in (s.0, s.1, subst (λ (v : ℕ). Joins s.0 v link.next) (sym (h.same j l)) s.2, s.3, λ g. s.4 (back link.next g));
}
  where
    there : (y : ℕ) → IsGone old j y → IsGone new j y
    there y g = (g.0, g.1, h.same g.0 (let m : g.0 < j = g.1 in omega arith) ∙ g.2)

    back : (y : ℕ) → IsGone new j y → IsGone old j y
    back y g = (g.0, g.1, sym (h.same g.0 (let m : g.0 < j = g.1 in omega arith)) ∙ g.2)

-- ---- the whole order

module _ (n : ℕ) (rows : List (List (ℕ × Bool))) (good : AreRows n rows) where
  edges : List Edge
  edges = edges_from n rows

  total : ℕ
  total = n + length rows

  ends_below : (e : Edge) → IsEdgeIn e (edges_from n rows) → (e.point < n + length rows) × (e.row < n + length rows)
  ends_below e i = let r = edge_ends n rows good e i in (omega (arith, r.0), r.2)

  edge_thin : (vs : List ℕ) → IsThin n rows vs → IsEdgeThin (edges_from n rows) vs
  edge_thin [] t = tt
  edge_thin (v ∷ vs) t = ((λ e f u w i j a b k l. t.0 u w a b (next_of_edge n rows good e v u i k) (next_of_edge n rows good f v w j l)), edge_thin vs t.1)

  module _ (order : List ℕ) (left : List Edge) (h : IsPeeling (edges_from n rows) (n + length rows) order (length order) left) (acyclic : HasNoCycle n rows) where
    pub each_gone : (v : ℕ) → v < n + length rows → IsGone order (length order) v
    each_gone v l = all_gone (edges_from n rows) (n + length rows) order left (are_proper n rows good) ends_below h acyclic.listing (edge_thin acyclic.listing acyclic.thin) (λ x m k. absurd (k (acyclic.listed x m))) v l

    -- ---- what is behind a place of the order
    behind_fresh : (k q : ℕ) → k < length order → IsIn q (drop (k + 1) order) → ¬ IsGone order (k + 1) q
    behind_fresh k q l i g =
        let b = behind order (k + 1) q i in
        let e : g.0 ≡ b.0 = h.once g.0 b.0 (let m : g.0 < k + 1 = g.1 in omega arith) b.2 (g.2 ∙ sym b.3) in
        absurd (omega (arith, g.1, b.1))

    behind_known : (k q : ℕ) → IsIn q (drop k order) → q < n + length rows
    behind_known k q i = let b = behind order k q i in subst (λ (v : ℕ). v < n + length rows) b.3 (h.below b.0 b.2)

    is_behind : (k y : ℕ) → y < n + length rows → ¬ IsGone order k y → ¬ (y ≡ at order k) → IsIn y (drop (k + 1) order)
    is_behind k y l g m = let a = each_gone y l in later order (k + 1) a.0 (let c = a.2 in after a.0 c) a.1 a.2
      where
        after : (j : ℕ) → at order j ≡ y → k + 1 ≤ j
        after j e = go (lt_or_le j (k + 1))
          where
            go : ((j < k + 1) ⊎ (k + 1 ≤ j)) → k + 1 ≤ j
            go (inr o) = o
            go (inl o) = elim (cases_eq j k) [ inl q ↦ absurd (m (sym e ∙ ap (λ (i : ℕ). at order i) q)) | inr q ↦ absurd (g (j, omega arith, e)) ]

        later : (xs : List ℕ) (i j : ℕ) → i ≤ j → j < length xs → get_or xs j 0 ≡ y → IsIn y (drop i xs)
        later xs zero j o p e = subst (λ (v : ℕ). IsIn v xs) e (is_in_at xs j p)
        later [] (suc i) j o p e = absurd (omega arith)
        later (x ∷ xs) (suc i) zero o p e = absurd (omega arith)
        later (x ∷ xs) (suc i) (suc j) o p e = later xs i j (omega arith) (omega arith) e

    -- ---- one link
    module _ (k : ℕ) (link : Link) (l : k < length order) (o : IsLinkAt (edges_from n rows) order k link) where
      vs : List ℕ
      vs = drop (k + 1) order

      own_known : at order k < n + length rows
      own_known = h.below k l

      not_behind : ¬ IsIn (at order k) (drop (k + 1) order)
      not_behind i = behind_fresh k (at order k) l i (k, omega arith, refl)

      -- a neighbour behind it is the last one
      only : (e : Edge) (q : ℕ) → IsEdgeIn e (edges_from n rows) → Joins e (at order k) q → IsIn q (drop (k + 1) order) → (link.is_alone ≡ false) × (q ≡ link.next)
      only e q i j b = elim (o.next e q i j) [ inl g ↦ absurd (behind_fresh k q l b (g.0, (let m : g.0 < k = g.1 in omega arith), g.2)) | inr r ↦ r ]

      no_row : (q : ℕ) → IsIn q (drop (k + 1) order) → ((link.is_alone ≡ false) × (q ≡ link.next) → ⊥) → weigh_of n rows q (at order k) ≡ pos 0
      no_row q b m = weigh_none n rows good (at order k) q (behind_known (k + 1) q b) (λ w. let e = edge_of_point n rows good (at order k) q w in m (only e.0 q e.1 (inl (e.2, e.3)) b))

      no_point : (q : ℕ) → IsIn q (drop (k + 1) order) → ((link.is_alone ≡ false) × (q ≡ link.next) → ⊥) → weigh_of n rows (at order k) q ≡ pos 0
      no_point q b m = weigh_none n rows good q (at order k) own_known (λ w. let e = edge_of_point n rows good q (at order k) w in m (only e.0 q e.1 (inr (e.3, e.2)) b))

      pub link_to : IsLinkTo (graph_of n rows) (drop (k + 1) order) link
      unfolding graph_of
      link_to = go link.is_alone refl
        where
          go : (b : Bool) → link.is_alone ≡ b → IsLinkBy b (graph_of n rows) (drop (k + 1) order) link
          go true a = rw o.vertex (record {
            fresh = not_behind;
            above = λ q i. no_row q i (λ r. false≢true (sym r.0 ∙ a));
            below = λ q i. no_point q i (λ r. false≢true (sym r.0 ∙ a));
          })
          go false a = rw o.vertex (at_edge (o.some a))
            where
              next_behind : (e : Edge) → IsEdgeIn e (edges_from n rows) → Joins e (at order k) link.next → ¬ IsGone order k link.next → IsIn link.next (drop (k + 1) order)
              next_behind e i j g = is_behind k link.next (below j) g (apart j)
                where
                  below : Joins e (at order k) link.next → link.next < n + length rows
                  below (inl j) = subst (λ (v : ℕ). v < n + length rows) j.1 (ends_below e i).1
                  below (inr j) = subst (λ (v : ℕ). v < n + length rows) j.1 (ends_below e i).0

                  apart : Joins e (at order k) link.next → ¬ (link.next ≡ at order k)
                  apart (inl j) q = are_proper n rows good e i (j.0 ∙ sym q ∙ sym j.1)
                  apart (inr j) q = are_proper n rows good e i (j.1 ∙ q ∙ sym j.0)

              at_edge : ((e : Edge) × IsEdgeIn e (edges_from n rows) × Joins e (at order k) link.next × (e.minus ≡ link.minus) × (¬ IsGone order k link.next)) → IsLeafPoint (graph_of n rows) (drop (k + 1) order) (at order k) link.next link.minus ⊎ IsLeafRow (graph_of n rows) (drop (k + 1) order) (at order k) link.next link.minus
              at_edge s = by s.2
                where
                  by : Joins s.0 (at order k) link.next → IsLeafPoint (graph_of n rows) (drop (k + 1) order) (at order k) link.next link.minus ⊎ IsLeafRow (graph_of n rows) (drop (k + 1) order) (at order k) link.next link.minus
                  by (inl j) = inl (record {
                    point = row_false n (at order k) (subst (λ (v : ℕ). v < n) j.0 (edge_ends n rows good s.0 s.1).0);
                    row = row_true n link.next (subst (λ (v : ℕ). n ≤ v) j.1 (edge_ends n rows good s.0 s.1).1);
                    left = next_behind s.0 s.1 s.2 s.4;
                    fresh = not_behind;
                    weight = rw (← j.0, ← j.1, ← s.3) (weigh_edge n rows good s.0 s.1);
                    others = λ q i m. no_row q i (λ r. m r.1);
                  })
                  by (inr j) = inr (record {
                    row = row_true n (at order k) (subst (λ (v : ℕ). n ≤ v) j.0 (edge_ends n rows good s.0 s.1).1);
                    point = row_false n link.next (subst (λ (v : ℕ). v < n) j.1 (edge_ends n rows good s.0 s.1).0);
                    left = next_behind s.0 s.1 s.2 s.4;
                    fresh = not_behind;
                    weight = rw (← j.0, ← j.1, ← s.3) (weigh_edge n rows good s.0 s.1);
                    others = λ q i m. no_point q i (λ r. m r.1);
                  })
