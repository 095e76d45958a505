-- One vertex is taken away.
use Rattle.std.proofs.Common.{◌≡◌, ℕ, ◌+◌, ◌<◌, ◌≤◌, List, [], ◌∷◌, ◌++◌, length, get_or, set, ◌-◌, ◌⊎◌, inl, inr, refl, sym, ap, ◌∙◌, arith, subst}
use Rattle.std.proofs.lemmas.Bool.{cases_eq}
use Rattle.std.proofs.lemmas.List.{get_or_append_left, get_or_push, length_push, get_or-set_same, get_or-set_other, length-set}
use Rattle.xc_model.proofs.Integers.{lt_or_le}
use Rattle.xc_forest.specs.declared.tallies.Tally.{Tally}
use Rattle.xc_forest.specs.Steps.Edges.{Edge, IsEdgeIn, degree, others, minuses, AreProper, at, IsGone, IsPeeling, IsTally, AreTallies, IsPeeled}
use Rattle.xc_forest.proofs.LastEdges.{away, nothing_at, proper_from, last_edge, IsLast}

gone_more : (order : List ℕ) (k v : ℕ) → IsGone order (k + 1) v → IsGone order k v ⊎ (at order k ≡ v)
gone_more order k v h = go (cases_eq h.0 k)
  where
    go : ((h.0 ≡ k) ⊎ (h.0 ≡ k → ⊥)) → IsGone order k v ⊎ (at order k ≡ v)
    go (inl e) = inr (subst (λ (j : ℕ). at order j ≡ v) e h.2)
    go (inr e) = inl (h.0, (let l : h.0 < k + 1 = h.1 in omega arith), h.2)

gone_less : (order : List ℕ) (k v : ℕ) → IsGone order k v → IsGone order (k + 1) v
gone_less order k v h = (h.0, (let l : h.0 < k = h.1 in omega arith), h.2)

pub peel_alone : (edges : List Edge) (n : ℕ) (order : List ℕ) (k : ℕ) (left : List Edge) → IsPeeling edges n order k left → degree left (at order k) ≡ 0 → IsPeeling edges n order (k + 1) left
peel_alone edges n order k left h z = record {
  from = h.from;
  alive = λ e i. ((λ g. off e.point g (h.alive e i).0 (away left (at order k) z e i).0), (λ g. off e.row g (h.alive e i).1 (away left (at order k) z e i).1));
  kept = λ e i a b. h.kept e i (λ g. a (gone_less order k e.point g)) (λ g. b (gone_less order k e.row g));
  once = h.once;
  below = h.below;
  queued = h.queued;
  simple = h.simple;
  few = λ j l. h.few j (omega arith);
}
  where
    off : (v : ℕ) → IsGone order (k + 1) v → (IsGone order k v → ⊥) → (v ≡ at order k → ⊥) → ⊥
    off v g a b = elim (gone_more order k v g) [ inl i ↦ a i | inr e ↦ b (sym e) ]

-- the order as it grows: new vertices come last
pub record IsLonger (old new : List ℕ) : Type 0 where
  pub same : (j : ℕ) → j < length old → at new j ≡ at old j
  pub longer : length old ≤ length new

gone_old : (old new : List ℕ) (k v : ℕ) → IsLonger old new → k ≤ length old → IsGone new k v → IsGone old k v
gone_old old new k v h l g = (g.0, g.1, sym (h.same g.0 (let m : g.0 < k = g.1 in omega arith)) ∙ g.2)

gone_new : (old new : List ℕ) (k v : ℕ) → IsLonger old new → k ≤ length old → IsGone old k v → IsGone new k v
gone_new old new k v h l g = (g.0, g.1, h.same g.0 (let m : g.0 < k = g.1 in omega arith) ∙ g.2)

-- the rest after the last edge of vertex k, over any longer order that is right
module _ (edges : List Edge) (n : ℕ) (order : List ℕ) (k : ℕ) (left : List Edge) (h : IsPeeling edges n order k left) (known : k < length order) (y b : ℕ) (e : Edge) (rest : List Edge) (last : IsLast left (at order k) y b e rest) where
  x_end : (f : Edge) → IsEdgeIn f rest → (f.point ≡ at order k → ⊥) × (f.row ≡ at order k → ⊥)
  x_end f i = away rest (at order k) last.own f i

  rest_alive : (new : List ℕ) → IsLonger order new → (f : Edge) → IsEdgeIn f rest → (IsGone new (k + 1) f.point → ⊥) × (IsGone new (k + 1) f.row → ⊥)
  rest_alive new m f i = (off f.point (h.alive f (last.taken.from f i)).0 (x_end f i).0, off f.row (h.alive f (last.taken.from f i)).1 (x_end f i).1)
    where
      off : (v : ℕ) → (IsGone order k v → ⊥) → (v ≡ at order k → ⊥) → IsGone new (k + 1) v → ⊥
      off v a c g = elim (gone_more order k v (gone_old order new (k + 1) v m (omega arith) g)) [ inl i ↦ a i | inr q ↦ c (sym q) ]

  end_gone : (new : List ℕ) → IsLonger order new → (IsGone new (k + 1) e.point) ⊎ (IsGone new (k + 1) e.row)
  end_gone new m = elim last.joins [ inl j ↦ inl (k, omega arith, m.same k known ∙ sym j.0) | inr j ↦ inr (k, omega arith, m.same k known ∙ sym j.0) ]

  rest_kept : (new : List ℕ) → IsLonger order new → (f : Edge) → IsEdgeIn f edges → (IsGone new (k + 1) f.point → ⊥) → (IsGone new (k + 1) f.row → ⊥) → IsEdgeIn f rest
  rest_kept new m f i a c = go (last.taken.split f (h.kept f i (λ g. a (gone_new order new (k + 1) f.point m (omega arith) (gone_less order k f.point g))) (λ g. c (gone_new order new (k + 1) f.row m (omega arith) (gone_less order k f.row g)))))
    where
      clash : f ≡ e → (IsGone new (k + 1) e.point ⊎ IsGone new (k + 1) e.row) → IsEdgeIn f rest
      clash q (inl g) = absurd (a (rw q g))
      clash q (inr g) = absurd (c (rw q g))

      go : ((f ≡ e) ⊎ IsEdgeIn f rest) → IsEdgeIn f rest
      go (inr j) = j
      go (inl q) = clash q (end_gone new m)

  -- what rest has of each vertex
  cases : (w : ℕ) → ((w ≡ at order k) × (degree rest w ≡ 0)) ⊎ (((w ≡ y) × (degree left w ≡ 1 + degree rest w)) ⊎ ((w ≡ y → ⊥) × (degree rest w ≡ degree left w)))
  cases w = go (cases_eq w (at order k)) (cases_eq w y)
    where
      go : ((w ≡ at order k) ⊎ (w ≡ at order k → ⊥)) → ((w ≡ y) ⊎ (w ≡ y → ⊥)) → ((w ≡ at order k) × (degree rest w ≡ 0)) ⊎ (((w ≡ y) × (degree left w ≡ 1 + degree rest w)) ⊎ ((w ≡ y → ⊥) × (degree rest w ≡ degree left w)))
      go (inl q) r = inl (q, rw q last.own)
      go (inr q) (inl r) = inr (inl (r, rw r last.next_degree))
      go (inr q) (inr r) = inr (inr (r, last.kept_degree w q r))

  -- y is not left with one edge, and the order stays
  pub peel_more : (degree rest y ≡ 1 → ⊥) → IsPeeling edges n order (k + 1) rest
  peel_more none = record {
    from = λ f i. h.from f (last.taken.from f i);
    alive = rest_alive order (record { same = λ j l. refl; longer = omega arith });
    kept = rest_kept order (record { same = λ j l. refl; longer = omega arith });
    once = h.once;
    below = h.below;
    queued = λ w l m. queued w l m (cases w);
    simple = λ a c. omega (arith, h.simple a c, last.taken.all_pairs a c);
    few = λ j l m. few j l m (cases (at order j));
  }
    where
      queued : (w : ℕ) → w < n → degree rest w ≤ 1 → (((w ≡ at order k) × (degree rest w ≡ 0)) ⊎ (((w ≡ y) × (degree left w ≡ 1 + degree rest w)) ⊎ ((w ≡ y → ⊥) × (degree rest w ≡ degree left w)))) → IsGone order (length order) w
      queued w l m (inl q) = (k, known, sym q.0)
      queued w l m (inr (inl q)) = let o : degree rest w ≡ 1 → ⊥ = subst (λ (v : ℕ). degree rest v ≡ 1 → ⊥) (sym q.0) none in h.queued w l (small w m o q.1)
        where
          small : (w : ℕ) → degree rest w ≤ 1 → (degree rest w ≡ 1 → ⊥) → degree left w ≡ 1 + degree rest w → degree left w ≤ 1
          small w m o q = grind arith
      queued w l m (inr (inr q)) = h.queued w l (omega (arith, q.1))

      few : (j : ℕ) → k + 1 ≤ j → j < length order → (((at order j ≡ at order k) × (degree rest (at order j) ≡ 0)) ⊎ (((at order j ≡ y) × (degree left (at order j) ≡ 1 + degree rest (at order j))) ⊎ ((at order j ≡ y → ⊥) × (degree rest (at order j) ≡ degree left (at order j))))) → degree rest (at order j) ≤ 1
      few j l m (inl q) = omega (arith, q.1)
      few j l m (inr (inl q)) = omega (arith, q.1, h.few j (omega arith) m)
      few j l m (inr (inr q)) = omega (arith, q.1, h.few j (omega arith) m)

  -- y is left with one edge, and comes last
  pub peel_push : y < n → degree rest y ≡ 1 → IsPeeling edges n (order ++ y ∷ []) (k + 1) rest
  peel_push yn one = record {
    from = λ f i. h.from f (last.taken.from f i);
    alive = rest_alive (order ++ y ∷ []) longer;
    kept = rest_kept (order ++ y ∷ []) longer;
    once = λ i j l m q. once i j (omega (arith, length_push order y)) (omega (arith, length_push order y)) q (cases_eq i (length order)) (cases_eq j (length order));
    below = λ j l. below j (omega (arith, length_push order y)) (cases_eq j (length order));
    queued = λ w l m. queued w l m (cases w);
    simple = λ a c. omega (arith, h.simple a c, last.taken.all_pairs a c);
    few = λ j l m. few j l (omega (arith, length_push order y)) (cases_eq j (length order));
  }
    where
      longer : IsLonger order (order ++ y ∷ [])
      longer = record { same = λ j l. get_or_append_left order (y ∷ []) 0 j l; longer = omega (arith, length_push order y) }

      new_at : get_or (order ++ y ∷ []) (length order) 0 ≡ y
      new_at = get_or_push order y 0 (length order) refl

      old_at : (j : ℕ) → j < length order → get_or (order ++ y ∷ []) j 0 ≡ at order j
      old_at j l = get_or_append_left order (y ∷ []) 0 j l

      y_alive : IsGone order k y → ⊥
      y_alive g = elim last.joins [ inl j ↦ (h.alive e last.taken.taken).1 (subst (λ (v : ℕ). IsGone order k v) (sym j.1) g) | inr j ↦ (h.alive e last.taken.taken).0 (subst (λ (v : ℕ). IsGone order k v) (sym j.1) g) ]

      y_new : (j : ℕ) → j < length order → at order j ≡ y → ⊥
      y_new j l q = go (lt_or_le j k)
        where
          go : ((j < k) ⊎ (k ≤ j)) → ⊥
          go (inl m) = y_alive (j, m, q)
          go (inr m) = let f : degree left y ≤ 1 = subst (λ (v : ℕ). degree left v ≤ 1) q (h.few j m l) in omega (arith, f, last.next_degree, one)

      once : (i j : ℕ) → i < length order + 1 → j < length order + 1 → get_or (order ++ y ∷ []) i 0 ≡ get_or (order ++ y ∷ []) j 0 → ((i ≡ length order) ⊎ (i ≡ length order → ⊥)) → ((j ≡ length order) ⊎ (j ≡ length order → ⊥)) → i ≡ j
      once i j l m q (inl a) (inl c) = a ∙ sym c
      once i j l m q (inl a) (inr c) = absurd (y_new j (omega arith) (sym (old_at j (omega arith)) ∙ (sym q ∙ (ap (λ (t : ℕ). get_or (order ++ y ∷ []) t 0) a ∙ new_at))))
      once i j l m q (inr a) (inl c) = absurd (y_new i (omega arith) (sym (old_at i (omega arith)) ∙ (q ∙ (ap (λ (t : ℕ). get_or (order ++ y ∷ []) t 0) c ∙ new_at))))
      once i j l m q (inr a) (inr c) = h.once i j (omega arith) (omega arith) (sym (old_at i (omega arith)) ∙ (q ∙ old_at j (omega arith)))

      below : (j : ℕ) → j < length order + 1 → ((j ≡ length order) ⊎ (j ≡ length order → ⊥)) → get_or (order ++ y ∷ []) j 0 < n
      below j l (inl a) = rw (a, new_at) yn
      below j l (inr a) = rw (old_at j (omega arith)) (h.below j (omega arith))

      gone_all : (w : ℕ) → IsGone order (length order) w → IsGone (order ++ y ∷ []) (length (order ++ y ∷ [])) w
      gone_all w g = (g.0, (let l : g.0 < length order = g.1 in omega (arith, length_push order y)), old_at g.0 g.1 ∙ g.2)

      queued : (w : ℕ) → w < n → degree rest w ≤ 1 → (((w ≡ at order k) × (degree rest w ≡ 0)) ⊎ (((w ≡ y) × (degree left w ≡ 1 + degree rest w)) ⊎ ((w ≡ y → ⊥) × (degree rest w ≡ degree left w)))) → IsGone (order ++ y ∷ []) (length (order ++ y ∷ [])) w
      queued w l m (inl q) = gone_all w (k, known, sym q.0)
      queued w l m (inr (inl q)) = (length order, omega (arith, length_push order y), new_at ∙ sym q.0)
      queued w l m (inr (inr q)) = gone_all w (h.queued w l (omega (arith, q.1)))

      few_old : (j : ℕ) → k + 1 ≤ j → j < length order → (((at order j ≡ at order k) × (degree rest (at order j) ≡ 0)) ⊎ (((at order j ≡ y) × (degree left (at order j) ≡ 1 + degree rest (at order j))) ⊎ ((at order j ≡ y → ⊥) × (degree rest (at order j) ≡ degree left (at order j))))) → degree rest (at order j) ≤ 1
      few_old j l m (inl q) = omega (arith, q.1)
      few_old j l m (inr (inl q)) = omega (arith, q.1, h.few j (omega arith) m)
      few_old j l m (inr (inr q)) = omega (arith, q.1, h.few j (omega arith) m)

      few : (j : ℕ) → k + 1 ≤ j → j < length order + 1 → ((j ≡ length order) ⊎ (j ≡ length order → ⊥)) → degree rest (get_or (order ++ y ∷ []) j 0) ≤ 1
      few j l m (inl a) = rw (a, new_at) (omega (arith, one))
      few j l m (inr a) = rw (old_at j (omega arith)) (few_old j l (omega arith) (cases (at order j)))

-- ---- tallies
abbrev pub zero_tally : Tally
zero_tally = record { degree = 0; others = 0; minuses = 0 }

abbrev pub tally_at : List Tally → ℕ → Tally
tally_at ts v = get_or ts v zero_tally

-- the last edge of the vertex whose turn it is
pub record IsTurn (edges : List Edge) (order : List ℕ) (k : ℕ) (ts : List Tally) (p : IsPeeled edges order k ts) (v : ℕ) : Type 0 where
  pub edge : Edge
  pub rest : List Edge
  pub last : IsLast p.left (at order k) (tally_at ts v).others (tally_at ts v).minuses edge rest
  pub known : (tally_at ts v).others < length ts

pub turn_of : (edges : List Edge) (order : List ℕ) (k : ℕ) (ts : List Tally) (p : IsPeeled edges order k ts) (v : ℕ) → AreProper edges → ((e : Edge) → IsEdgeIn e edges → (e.point < length ts) × (e.row < length ts)) → k < length order → v ≡ at order k → ((tally_at ts v).degree ≡ 0 → ⊥) → IsTurn edges order k ts p v
turn_of edges order k ts p v proper ends l q m = go (last_edge p.left (at order k) (tally_at ts v).others (tally_at ts v).minuses (proper_from p.left edges p.peeling.from proper) one (sym other) (sym minus))
  where
    below : v < length ts
    below = rw q (p.peeling.below k l)

    t : IsTally p.left v (tally_at ts v)
    t = p.tallies v zero_tally below

    at_v : degree p.left v ≤ 1
    at_v = subst (λ (x : ℕ). degree p.left x ≤ 1) (sym q) (p.peeling.few k (omega arith) l)

    one_v : degree p.left v ≡ 1
    one_v = omega (arith, at_v, t.degree, λ (z : (tally_at ts v).degree ≡ 0). m z)

    one : degree p.left (at order k) ≡ 1
    one = subst (λ (x : ℕ). degree p.left x ≡ 1) q one_v

    other : (tally_at ts v).others ≡ others p.left (at order k)
    other = subst (λ (x : ℕ). (tally_at ts v).others ≡ others p.left x) q t.others

    minus : (tally_at ts v).minuses ≡ minuses p.left (at order k)
    minus = subst (λ (x : ℕ). (tally_at ts v).minuses ≡ minuses p.left x) q t.minuses

    go : ((e : Edge) × (rest : List Edge) × IsLast p.left (at order k) (tally_at ts v).others (tally_at ts v).minuses e rest) → IsTurn edges order k ts p v
    go (e, rest, last) = record { edge = e; rest = rest; last = last; known = elim last.joins [ inl j ↦ subst (λ (x : ℕ). x < length ts) j.1 (ends e (p.peeling.from e last.taken.taken)).1 | inr j ↦ subst (λ (x : ℕ). x < length ts) j.1 (ends e (p.peeling.from e last.taken.taken)).0 ] }

abbrev pub taken_from : List Tally → ℕ → Tally → List Tally
taken_from ts v r = set (set ts v zero_tally) (tally_at ts v).others record { degree = r.degree - 1; others = r.others - v; minuses = r.minuses - (tally_at ts v).minuses }

module _ (edges : List Edge) (order : List ℕ) (k : ℕ) (ts : List Tally) (p : IsPeeled edges order k ts) (v : ℕ) (l : k < length order) (q : v ≡ at order k) (t : IsTurn edges order k ts p v) where
  other_tally : tally_at (set ts v zero_tally) (tally_at ts v).others ≡ tally_at ts (tally_at ts v).others
  other_tally = get_or-set_other ts v (tally_at ts v).others zero_tally zero_tally (λ e. t.last.apart (sym q ∙ sym e))

  pub tally_of_other : IsTally p.left (tally_at ts v).others (tally_at (set ts v zero_tally) (tally_at ts v).others)
  tally_of_other = rw other_tally (p.tallies (tally_at ts v).others zero_tally t.known)

  pub rest_tallies : AreTallies t.rest (taken_from ts v (tally_at (set ts v zero_tally) (tally_at ts v).others))
  rest_tallies x d j = go (cases_eq x (tally_at ts v).others) (cases_eq x v)
    where
      r : Tally
      r = tally_at (set ts v zero_tally) (tally_at ts v).others

      new : Tally
      new = record { degree = r.degree - 1; others = r.others - v; minuses = r.minuses - (tally_at ts v).minuses }

      long : x < length ts
      long = omega (arith, length-set (set ts v zero_tally) (tally_at ts v).others new, length-set ts v zero_tally)

      own : degree t.rest v ≡ 0
      own = subst (λ (z : ℕ). degree t.rest z ≡ 0) (sym q) t.last.own

      of_other : IsTally t.rest (tally_at ts v).others new
      of_other = record {
        degree = omega (arith, tally_of_other.degree, t.last.next_degree);
        others = omega (arith, tally_of_other.others, t.last.next_others, q);
        minuses = omega (arith, tally_of_other.minuses, t.last.next_minuses);
      }

      of_own : IsTally t.rest v zero_tally
      of_own = let z = nothing_at t.rest v own in record { degree = sym own; others = sym z.0; minuses = sym z.1 }

      go : ((x ≡ (tally_at ts v).others) ⊎ (x ≡ (tally_at ts v).others → ⊥)) → ((x ≡ v) ⊎ (x ≡ v → ⊥)) → IsTally t.rest x (get_or (set (set ts v zero_tally) (tally_at ts v).others new) x d)
      go (inl e) f = rw (e, get_or-set_same (set ts v zero_tally) (tally_at ts v).others new d (omega (arith, t.known, length-set ts v zero_tally))) of_other
      go (inr e) (inl f) = rw (get_or-set_other (set ts v zero_tally) (tally_at ts v).others x new d e, f, get_or-set_same ts v zero_tally d (omega (arith, long, f))) of_own
      go (inr e) (inr f) =
          let s : IsTally p.left x (get_or ts x d) = p.tallies x d long in
          let o : x ≡ at order k → ⊥ = λ a. f (a ∙ sym q) in
          rw (get_or-set_other (set ts v zero_tally) (tally_at ts v).others x new d e, get_or-set_other ts v x zero_tally d f) (record {
            degree = s.degree ∙ sym (t.last.kept_degree x o e);
            others = s.others ∙ sym (t.last.kept_others x o e);
            minuses = s.minuses ∙ sym (t.last.kept_minuses x o e);
          })

  now_length : length (taken_from ts v (tally_at (set ts v zero_tally) (tally_at ts v).others)) ≡ length ts
  now_length = length-set (set ts v zero_tally) (tally_at ts v).others _ ∙ length-set ts v zero_tally

  pub peeled_more : ((tally_at (set ts v zero_tally) (tally_at ts v).others).degree - 1 ≡ 1 → ⊥) → IsPeeled edges order (k + 1) (taken_from ts v (tally_at (set ts v zero_tally) (tally_at ts v).others))
  peeled_more m = record {
    left = t.rest;
    peeling = rw now_length (peel_more edges (length ts) order k p.left p.peeling l (tally_at ts v).others (tally_at ts v).minuses t.edge t.rest t.last (λ e. m (omega (arith, e, tally_of_other.degree, t.last.next_degree))));
    tallies = rest_tallies;
  }

  pub peeled_push : (tally_at (set ts v zero_tally) (tally_at ts v).others).degree - 1 ≡ 1 → IsPeeled edges (order ++ (tally_at ts v).others ∷ []) (k + 1) (taken_from ts v (tally_at (set ts v zero_tally) (tally_at ts v).others))
  peeled_push m = record {
    left = t.rest;
    peeling = rw now_length (peel_push edges (length ts) order k p.left p.peeling l (tally_at ts v).others (tally_at ts v).minuses t.edge t.rest t.last t.known (omega (arith, m, tally_of_other.degree, t.last.next_degree)));
    tallies = rest_tallies;
  }

-- what the subtractions ask
pub record IsRoom (ts : List Tally) (v : ℕ) : Type 0 where
  pub known : (tally_at ts v).others < length (set ts v zero_tally)
  pub same : length (set ts v zero_tally) ≡ length ts
  pub degree : 1 ≤ (tally_at (set ts v zero_tally) (tally_at ts v).others).degree
  pub others : v ≤ (tally_at (set ts v zero_tally) (tally_at ts v).others).others
  pub minuses : (tally_at ts v).minuses ≤ (tally_at (set ts v zero_tally) (tally_at ts v).others).minuses

pub room_of : (edges : List Edge) (order : List ℕ) (k : ℕ) (ts : List Tally) (p : IsPeeled edges order k ts) (v : ℕ) → AreProper edges → ((e : Edge) → IsEdgeIn e edges → (e.point < length ts) × (e.row < length ts)) → k < length order → v ≡ at order k → ((tally_at ts v).degree ≡ 0 → ⊥) → IsRoom ts v
room_of edges order k ts p v proper ends l q m = go (turn_of edges order k ts p v proper ends l q m)
  where
    go : IsTurn edges order k ts p v → IsRoom ts v
    go t =
        let s = tally_of_other edges order k ts p v l q t in
        record {
          known = omega (arith, t.known, length-set ts v zero_tally);
          same = length-set ts v zero_tally;
          degree = omega (arith, s.degree, t.last.next_degree);
          others = omega (arith, s.others, t.last.next_others, q);
          minuses = omega (arith, s.minuses, t.last.next_minuses);
        }
