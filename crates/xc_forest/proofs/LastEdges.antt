-- The last edge of a vertex, read off its tally.
use Rattle.std.proofs.Common.{◌≡◌, ℕ, ◌+◌, ◌<◌, ◌≤◌, List, [], ◌∷◌, ◌⊎◌, inl, inr, refl, sym, ◌∙◌, arith, cond, eqb, subst, Bool, true, false}
use Rattle.std.proofs.lemmas.Bool.{cases_eq, eq-eqb, ne_eqb}
use Rattle.xc_forest.specs.Steps.Counted.{bit}
use Rattle.xc_forest.specs.Steps.Edges.{Edge, IsEdgeIn, degree, others, minuses, pairs, Joins, AreProper}

ends_of : Edge → ℕ → ℕ
ends_of e x = cond (eqb e.point x) 1 0 + cond (eqb e.row x) 1 0

-- no edge at x
pub nothing_at : (es : List Edge) (x : ℕ) → degree es x ≡ 0 → (others es x ≡ 0) × (minuses es x ≡ 0)
nothing_at [] x h = (refl, refl)
nothing_at (e ∷ es) x h = go (cases_eq e.point x) (cases_eq e.row x) (λ k. nothing_at es x k)
  where
    rest : (b : Bool) → cond b (0 + 0) 0 ≡ 0
    rest true = omega arith
    rest false = refl

    go : ((e.point ≡ x) ⊎ (e.point ≡ x → ⊥)) → ((e.row ≡ x) ⊎ (e.row ≡ x → ⊥)) → (degree es x ≡ 0 → (others es x ≡ 0) × (minuses es x ≡ 0)) → (others (e ∷ es) x ≡ 0) × (minuses (e ∷ es) x ≡ 0)
    go (inl a) k i = absurd (omega (arith, rw (eq-eqb e.point x a) at h))
    go (inr a) (inl k) i = absurd (omega (arith, rw (eq-eqb e.row x k) at h))
    go (inr a) (inr k) i =
        let r = i (omega (arith, rw (ne_eqb e.point x a, ne_eqb e.row x k) at h)) in
        (rw (ne_eqb e.point x a, ne_eqb e.row x k, r.0) (omega arith), rw (ne_eqb e.point x a, ne_eqb e.row x k, r.1, rest e.minus) (omega arith))

pub away : (es : List Edge) (x : ℕ) → degree es x ≡ 0 → (e : Edge) → IsEdgeIn e es → (e.point ≡ x → ⊥) × (e.row ≡ x → ⊥)
away [] x h e i = absurd i
away (f ∷ es) x h e i = go (cases_eq f.point x) (cases_eq f.row x) i (λ k. away es x k e)
  where
    go : ((f.point ≡ x) ⊎ (f.point ≡ x → ⊥)) → ((f.row ≡ x) ⊎ (f.row ≡ x → ⊥)) → ((e ≡ f) ⊎ IsEdgeIn e es) → (degree es x ≡ 0 → IsEdgeIn e es → (e.point ≡ x → ⊥) × (e.row ≡ x → ⊥)) → (e.point ≡ x → ⊥) × (e.row ≡ x → ⊥)
    go (inl a) k i r = absurd (omega (arith, rw (eq-eqb f.point x a) at h))
    go (inr a) (inl k) i r = absurd (omega (arith, rw (eq-eqb f.row x k) at h))
    go (inr a) (inr k) (inl q) r = rw q ((a, k))
    go (inr a) (inr k) (inr j) r = r (omega (arith, rw (ne_eqb f.point x a, ne_eqb f.row x k) at h)) j

-- es is e and the rest, as far as vertices can tell
pub record IsTaken (es : List Edge) (e : Edge) (rest : List Edge) : Type 0 where
  pub taken : IsEdgeIn e es
  pub from : (f : Edge) → IsEdgeIn f rest → IsEdgeIn f es
  pub split : (f : Edge) → IsEdgeIn f es → (f ≡ e) ⊎ IsEdgeIn f rest
  pub degrees : (y : ℕ) → degree es y ≡ degree (e ∷ []) y + degree rest y
  pub all_others : (y : ℕ) → others es y ≡ others (e ∷ []) y + others rest y
  pub all_minuses : (y : ℕ) → minuses es y ≡ minuses (e ∷ []) y + minuses rest y
  pub all_pairs : (x y : ℕ) → pairs es x y ≡ pairs (e ∷ []) x y + pairs rest x y

taken_first : (e : Edge) (es : List Edge) → IsTaken (e ∷ es) e es
taken_first e es = record {
  taken = inl refl;
  from = λ f i. inr i;
  split = λ f i. i;
  degrees = λ y. omega arith;
  all_others = λ y. omega arith;
  all_minuses = λ y. omega arith;
  all_pairs = λ x y. omega arith;
}

taken_later : (f e : Edge) (es rest : List Edge) → IsTaken es e rest → IsTaken (f ∷ es) e (f ∷ rest)
taken_later f e es rest h = record {
  taken = inr h.taken;
  from = λ g i. from g i;
  split = λ g i. split g i;
  degrees = λ y. omega (arith, h.degrees y);
  all_others = λ y. omega (arith, h.all_others y);
  all_minuses = λ y. omega (arith, h.all_minuses y);
  all_pairs = λ x y. omega (arith, h.all_pairs x y);
}
  where
    from : (g : Edge) → ((g ≡ f) ⊎ IsEdgeIn g rest) → (g ≡ f) ⊎ IsEdgeIn g es
    from g (inl q) = inl q
    from g (inr i) = inr (h.from g i)

    split : (g : Edge) → ((g ≡ f) ⊎ IsEdgeIn g es) → (g ≡ e) ⊎ ((g ≡ f) ⊎ IsEdgeIn g rest)
    split g (inl q) = inr (inl q)
    split g (inr i) = elim (h.split g i) [ inl q ↦ inl q | inr j ↦ inr (inr j) ]

-- an edge at x
pub edge_at : (es : List Edge) (x : ℕ) → 0 < degree es x → (e : Edge) × (rest : List Edge) × IsTaken es e rest × ((e.point ≡ x) ⊎ (e.row ≡ x))
edge_at [] x h = absurd (omega arith)
edge_at (e ∷ es) x h = go (cases_eq e.point x) (cases_eq e.row x) (λ k. edge_at es x k)
  where
    go : ((e.point ≡ x) ⊎ (e.point ≡ x → ⊥)) → ((e.row ≡ x) ⊎ (e.row ≡ x → ⊥)) → (0 < degree es x → (f : Edge) × (rest : List Edge) × IsTaken es f rest × ((f.point ≡ x) ⊎ (f.row ≡ x))) → (f : Edge) × (rest : List Edge) × IsTaken (e ∷ es) f rest × ((f.point ≡ x) ⊎ (f.row ≡ x))
    go (inl a) k r = (e, es, taken_first e es, inl a)
    go (inr a) (inl k) r = (e, es, taken_first e es, inr k)
    go (inr a) (inr k) r = later (r (omega (arith, rw (ne_eqb e.point x a, ne_eqb e.row x k) at h)))
      where
        later : ((f : Edge) × (rest : List Edge) × IsTaken es f rest × ((f.point ≡ x) ⊎ (f.row ≡ x))) → (f : Edge) × (rest : List Edge) × IsTaken (e ∷ es) f rest × ((f.point ≡ x) ⊎ (f.row ≡ x))
        later (f, rest, t, o) = (f, e ∷ rest, taken_later e f es rest t, o)

-- ---- the tally of one edge
pub one_away : (e : Edge) (y : ℕ) → (e.point ≡ y → ⊥) → (e.row ≡ y → ⊥) → (degree (e ∷ []) y ≡ 0) × (others (e ∷ []) y ≡ 0) × (minuses (e ∷ []) y ≡ 0)
one_away e y a b = (rw (ne_eqb e.point y a, ne_eqb e.row y b) (omega arith), rw (ne_eqb e.point y a, ne_eqb e.row y b) (omega arith), rw (ne_eqb e.point y a, ne_eqb e.row y b) (zero_either e.minus))
  where
    zero_either : (b : Bool) → cond b (0 + 0) 0 + 0 ≡ 0
    zero_either true = omega arith
    zero_either false = omega arith

pub one_at : (e : Edge) (x y : ℕ) → Joins e x y → (x ≡ y → ⊥) → (degree (e ∷ []) x ≡ 1) × (others (e ∷ []) x ≡ y) × (minuses (e ∷ []) x ≡ bit e.minus)
one_at e x y (inl j) m = (rw (eq-eqb e.point x j.0, ne_eqb e.row x apart) (omega arith), rw (eq-eqb e.point x j.0, ne_eqb e.row x apart) (omega (arith, j.1)), rw (eq-eqb e.point x j.0, ne_eqb e.row x apart) (bits e.minus))
  where
    apart : e.row ≡ x → ⊥
    apart q = m (sym q ∙ j.1)

    bits : (b : Bool) → cond b (1 + 0) 0 + 0 ≡ bit b
    bits true = omega arith
    bits false = omega arith
one_at e x y (inr j) m = (rw (ne_eqb e.point x apart, eq-eqb e.row x j.0) (omega arith), rw (ne_eqb e.point x apart, eq-eqb e.row x j.0) (omega (arith, j.1)), rw (ne_eqb e.point x apart, eq-eqb e.row x j.0) (bits e.minus))
  where
    apart : e.point ≡ x → ⊥
    apart q = m (sym q ∙ j.1)

    bits : (b : Bool) → cond b (0 + 1) 0 + 0 ≡ bit b
    bits true = omega arith
    bits false = omega arith

-- ---- the last edge at x, and what its removal leaves
pub record IsLast (es : List Edge) (x y : ℕ) (b : ℕ) (e : Edge) (rest : List Edge) : Type 0 where
  pub taken : IsTaken es e rest
  pub joins : Joins e x y
  pub apart : x ≡ y → ⊥
  pub minus : bit e.minus ≡ b
  pub own : degree rest x ≡ 0
  pub next_degree : degree es y ≡ 1 + degree rest y
  pub next_others : others es y ≡ x + others rest y
  pub next_minuses : minuses es y ≡ b + minuses rest y
  pub kept_degree : (z : ℕ) → (z ≡ x → ⊥) → (z ≡ y → ⊥) → degree rest z ≡ degree es z
  pub kept_others : (z : ℕ) → (z ≡ x → ⊥) → (z ≡ y → ⊥) → others rest z ≡ others es z
  pub kept_minuses : (z : ℕ) → (z ≡ x → ⊥) → (z ≡ y → ⊥) → minuses rest z ≡ minuses es z

pub last_edge : (es : List Edge) (x y b : ℕ) → AreProper es → degree es x ≡ 1 → others es x ≡ y → minuses es x ≡ b → (e : Edge) × (rest : List Edge) × IsLast es x y b e rest
last_edge es x y b p d o m = go (edge_at es x (omega arith))
  where
    go : ((e : Edge) × (rest : List Edge) × IsTaken es e rest × ((e.point ≡ x) ⊎ (e.row ≡ x))) → (e : Edge) × (rest : List Edge) × IsLast es x y b e rest
    go (e, rest, t, w) = (e, rest, at w)
      where
        with : (u : ℕ) → Joins e x u → (x ≡ u → ⊥) → IsLast es x y b e rest
        with u j n =
            let a = one_at e x u j n in
            let d1 : degree rest x ≡ 0 = omega (arith, t.degrees x, a.0) in
            let z = nothing_at rest x d1 in
            let uy : u ≡ y = omega (arith, t.all_others x, a.1, z.0) in
            let k = one_at e y x (flip (subst (λ (v : ℕ). Joins e x v) uy j)) (λ q. n (sym q ∙ sym uy)) in
            let mb : bit e.minus ≡ b = omega (arith, t.all_minuses x, a.2, z.1) in
            record {
              taken = t;
              joins = subst (λ (v : ℕ). Joins e x v) uy j;
              apart = λ q. n (q ∙ sym uy);
              minus = mb;
              own = d1;
              next_degree = omega (arith, t.degrees y, k.0);
              next_others = omega (arith, t.all_others y, k.1);
              next_minuses = omega (arith, t.all_minuses y, k.2);
              kept_degree = λ v f g. omega (arith, t.degrees v, (one_away e v (off_point v (subst (λ (w : ℕ). Joins e x w) uy j) f g) (off_row v (subst (λ (w : ℕ). Joins e x w) uy j) f g)).0);
              kept_others = λ v f g. omega (arith, t.all_others v, (one_away e v (off_point v (subst (λ (w : ℕ). Joins e x w) uy j) f g) (off_row v (subst (λ (w : ℕ). Joins e x w) uy j) f g)).1);
              kept_minuses = λ v f g. omega (arith, t.all_minuses v, (one_away e v (off_point v (subst (λ (w : ℕ). Joins e x w) uy j) f g) (off_row v (subst (λ (w : ℕ). Joins e x w) uy j) f g)).2);
            }
          where
            flip : Joins e x y → Joins e y x
            flip (inl j) = inr (j.1, j.0)
            flip (inr j) = inl (j.1, j.0)

            off_point : (v : ℕ) → Joins e x y → (v ≡ x → ⊥) → (v ≡ y → ⊥) → e.point ≡ v → ⊥
            off_point v (inl j) f g q = f (sym q ∙ j.0)
            off_point v (inr j) f g q = g (sym q ∙ j.1)

            off_row : (v : ℕ) → Joins e x y → (v ≡ x → ⊥) → (v ≡ y → ⊥) → e.row ≡ v → ⊥
            off_row v (inl j) f g q = g (sym q ∙ j.1)
            off_row v (inr j) f g q = f (sym q ∙ j.0)

        at : ((e.point ≡ x) ⊎ (e.row ≡ x)) → IsLast es x y b e rest
        at (inl q) = with e.row (inl (q, refl)) (λ f. p e t.taken (q ∙ f))
        at (inr q) = with e.point (inr (q, refl)) (λ f. p e t.taken (sym f ∙ sym q))

pub proper_from : (es fs : List Edge) → ((e : Edge) → IsEdgeIn e es → IsEdgeIn e fs) → AreProper fs → AreProper es
proper_from es fs h p e i = p e (h e i)

-- ---- two edges
pub one_pair : (e : Edge) (x y : ℕ) → Joins e x y → 1 ≤ pairs (e ∷ []) x y
one_pair e x y (inl j) = rw (eq-eqb e.point x j.0, eq-eqb e.row y j.1) (omega arith)
one_pair e x y (inr j) = rw (eq-eqb e.row x j.0, eq-eqb e.point y j.1) (omega arith)

pub some_pair : (es : List Edge) (e : Edge) (x y : ℕ) → IsEdgeIn e es → Joins e x y → 1 ≤ pairs es x y
some_pair [] e x y i j = absurd i
some_pair (f ∷ es) e x y (inl q) j = let k : 1 ≤ pairs (f ∷ []) x y = one_pair f x y (subst (λ (g : Edge). Joins g x y) q j) in omega arith
some_pair (f ∷ es) e x y (inr i) j = let k : 1 ≤ pairs es x y = some_pair es e x y i j in omega arith

pub other_end : (e : Edge) (x : ℕ) → (e.point ≡ x) ⊎ (e.row ≡ x) → (y : ℕ) × Joins e x y
other_end e x (inl q) = (e.row, inl (q, refl))
other_end e x (inr q) = (e.point, inr (q, refl))

one_degree : (e : Edge) (x : ℕ) → (e.point ≡ e.row → ⊥) → degree (e ∷ []) x ≤ 1
one_degree e x p = go (cases_eq e.point x) (cases_eq e.row x)
  where
    go : ((e.point ≡ x) ⊎ (e.point ≡ x → ⊥)) → ((e.row ≡ x) ⊎ (e.row ≡ x → ⊥)) → degree (e ∷ []) x ≤ 1
    go (inl a) (inl b) = absurd (p (a ∙ sym b))
    go (inl a) (inr b) = rw (eq-eqb e.point x a, ne_eqb e.row x b) (omega arith)
    go (inr a) (inl b) = rw (ne_eqb e.point x a, eq-eqb e.row x b) (omega arith)
    go (inr a) (inr b) = rw (ne_eqb e.point x a, ne_eqb e.row x b) (omega arith)

pub record AreTwo (es : List Edge) (x : ℕ) : Type 0 where
  pub first : Edge
  pub second : Edge
  pub first_in : IsEdgeIn first es
  pub second_in : IsEdgeIn second es
  pub first_end : ℕ
  pub second_end : ℕ
  pub first_joins : Joins first x first_end
  pub second_joins : Joins second x second_end
  pub apart : first_end ≡ second_end → ⊥

pub two_edges : (es : List Edge) (x : ℕ) → AreProper es → ((x y : ℕ) → pairs es x y ≤ 1) → 2 ≤ degree es x → AreTwo es x
two_edges es x p s h = go (edge_at es x (omega arith))
  where
    go : ((e : Edge) × (rest : List Edge) × IsTaken es e rest × ((e.point ≡ x) ⊎ (e.row ≡ x))) → AreTwo es x
    go (e, rest, t, w) = again (edge_at rest x (omega (arith, t.degrees x, one_degree e x (p e t.taken))))
      where
        again : ((f : Edge) × (more : List Edge) × IsTaken rest f more × ((f.point ≡ x) ⊎ (f.row ≡ x))) → AreTwo es x
        again (f, more, u, v) =
            let a = other_end e x w in
            let b = other_end f x v in
            record {
              first = e;
              second = f;
              first_in = t.taken;
              second_in = t.from f u.taken;
              first_end = a.0;
              second_end = b.0;
              first_joins = a.1;
              second_joins = b.1;
              apart = λ q. omega (arith, s x b.0, t.all_pairs x b.0, one_pair e x b.0 (subst (λ (y : ℕ). Joins e x y) q a.1), some_pair rest f x b.0 u.taken b.1);
            }
