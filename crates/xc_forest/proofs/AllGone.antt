-- Where a thin listing exists, every vertex is taken away.
use Rattle.std.proofs.Common.{◌≡◌, ℕ, zero, suc, ◌<◌, ◌≤◌, List, [], ◌∷◌, length, ◌⊎◌, inl, inr, sym, ◌∙◌, arith, subst}
use Rattle.std.proofs.lemmas.Bool.{cases_eq}
use Rattle.xc_lists.specs.Members.{IsIn}
use Rattle.xc_forest.specs.Steps.Edges.{Edge, IsEdgeIn, degree, Joins, AreProper, at, IsGone, IsPeeling}
use Rattle.xc_forest.proofs.LastEdges.{proper_from, AreTwo, two_edges}

-- each of these vertices stands next to at most one later one, by these edges
abbrev pub IsEdgeThin : List Edge → List ℕ → Type 0
IsEdgeThin edges [] = Unit {0}
IsEdgeThin edges (v ∷ vs) = ((e f : Edge) (u w : ℕ) → IsEdgeIn e edges → IsEdgeIn f edges → IsIn u vs → IsIn w vs → Joins e v u → Joins f v w → u ≡ w) × IsEdgeThin edges vs

pub is_gone : (order : List ℕ) (k v : ℕ) → IsGone order k v ⊎ (IsGone order k v → ⊥)
is_gone order zero v = inr (λ h. omega (arith, h.1))
is_gone order (suc k) v = go (cases_eq (at order k) v) (is_gone order k v)
  where
    go : ((at order k ≡ v) ⊎ (at order k ≡ v → ⊥)) → (IsGone order k v ⊎ (IsGone order k v → ⊥)) → IsGone order (suc k) v ⊎ (IsGone order (suc k) v → ⊥)
    go (inl e) r = inl (k, omega arith, e)
    go (inr n) (inl g) = inl (g.0, (let l : g.0 < k = g.1 in omega arith), g.2)
    go (inr n) (inr m) = inr none
      where
        none : IsGone order (suc k) v → ⊥
        none h = at_last h.0 h.1 h.2 (cases_eq h.0 k)
          where
            at_last : (j : ℕ) → j < suc k → at order j ≡ v → ((j ≡ k) ⊎ (j ≡ k → ⊥)) → ⊥
            at_last j l e (inl q) = n (subst (λ (i : ℕ). at order i ≡ v) q e)
            at_last j l e (inr q) = m (j, omega arith, e)

pub is_in : (p : ℕ) (xs : List ℕ) → IsIn p xs ⊎ (IsIn p xs → ⊥)
is_in p [] = inr (λ h. h)
is_in p (x ∷ xs) = go (cases_eq p x) (is_in p xs)
  where
    go : ((p ≡ x) ⊎ (p ≡ x → ⊥)) → (IsIn p xs ⊎ (IsIn p xs → ⊥)) → IsIn p (x ∷ xs) ⊎ (IsIn p (x ∷ xs) → ⊥)
    go (inl e) k = inl (inl e)
    go (inr e) (inl k) = inl (inr k)
    go (inr e) (inr k) = inr (λ h. elim h [ inl q ↦ e q | inr q ↦ k q ])

module _ (edges : List Edge) (n : ℕ) (order : List ℕ) (left : List Edge) (proper : AreProper edges) (ends : (e : Edge) → IsEdgeIn e edges → (e.point < n) × (e.row < n)) (h : IsPeeling edges n order (length order) left) where
  end_below : (e : Edge) (x y : ℕ) → IsEdgeIn e left → Joins e x y → y < n
  end_below e x y i (inl j) = subst (λ (v : ℕ). v < n) j.1 (ends e (h.from e i)).1
  end_below e x y i (inr j) = subst (λ (v : ℕ). v < n) j.1 (ends e (h.from e i)).0

  end_alive : (e : Edge) (x y : ℕ) → IsEdgeIn e left → Joins e x y → IsGone order (length order) y → ⊥
  end_alive e x y i (inl j) g = (h.alive e i).1 (subst (λ (v : ℕ). IsGone order (length order) v) (sym j.1) g)
  end_alive e x y i (inr j) g = (h.alive e i).0 (subst (λ (v : ℕ). IsGone order (length order) v) (sym j.1) g)

  end_apart : (e : Edge) (x y : ℕ) → IsEdgeIn e left → Joins e x y → y ≡ x → ⊥
  end_apart e x y i (inl j) q = proper e (h.from e i) (j.0 ∙ (sym q ∙ sym j.1))
  end_apart e x y i (inr j) q = proper e (h.from e i) (j.1 ∙ (q ∙ sym j.0))

  pub all_gone : (vs : List ℕ) → IsEdgeThin edges vs → ((x : ℕ) → x < n → (IsIn x vs → ⊥) → IsGone order (length order) x) → (x : ℕ) → x < n → IsGone order (length order) x
  all_gone [] t o x l = o x l (λ i. i)
  all_gone (v ∷ vs) t o x l = all_gone vs t.1 (λ y m k. others y m k (cases_eq y v)) x l
    where
      later : (e : Edge) (y : ℕ) → IsEdgeIn e left → Joins e v y → IsIn y vs
      later e y i j = go (is_in y (v ∷ vs))
        where
          go : (IsIn y (v ∷ vs) ⊎ (IsIn y (v ∷ vs) → ⊥)) → IsIn y vs
          go (inr k) = absurd (end_alive e v y i j (o y (end_below e v y i j) k))
          go (inl (inl q)) = absurd (end_apart e v y i j q)
          go (inl (inr k)) = k

      own : v < n → (IsGone order (length order) v ⊎ (IsGone order (length order) v → ⊥)) → IsGone order (length order) v
      own m (inl g) = g
      own m (inr g) = absurd (clash (two_edges left v (proper_from left edges h.from proper) h.simple (many (λ (k : degree left v ≤ 1). g (h.queued v m k)))))
        where
          many : (degree left v ≤ 1 → ⊥) → 2 ≤ degree left v
          many k = grind arith

          clash : AreTwo left v → ⊥
          clash w = w.apart (t.0 w.first w.second w.first_end w.second_end (h.from w.first w.first_in) (h.from w.second w.second_in) (later w.first w.first_end w.first_in w.first_joins) (later w.second w.second_end w.second_in w.second_joins) w.first_joins w.second_joins)

      others : (y : ℕ) → y < n → (IsIn y vs → ⊥) → ((y ≡ v) ⊎ (y ≡ v → ⊥)) → IsGone order (length order) y
      others y m k (inl q) = own_at y m q
        where
          own_at : (y : ℕ) → y < n → y ≡ v → IsGone order (length order) y
          own_at y m q = subst (λ (z : ℕ). IsGone order (length order) z) (sym q) (own (subst (λ (z : ℕ). z < n) q m) (is_gone order (length order) v))
      others y m k (inr q) = o y m (λ i. elim i [ inl e ↦ q e | inr j ↦ k j ])
