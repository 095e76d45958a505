-- How many edges rows have.
use Rattle.std.proofs.Common.{◌≡◌, ℕ, suc, ◌+◌, ◌*◌, ◌^◌, ◌<◌, ◌≤◌, List, [], ◌∷◌, ◌++◌, length, ◌⊎◌, inl, inr, refl, sym, arith, cond, eqb, subst, Bool, true, false}
use Rattle.std.proofs.lemmas.Bool.{cases_eq, eq-eqb, ne_eqb}
use Rattle.std.proofs.lemmas.List.{length-map}
use Rattle.xc_model.proofs.Integers.{lt_or_le}
use Rattle.xc_forest.specs.Forests.{points_of, AreRows}
use Rattle.xc_lists.specs.Members.{IsIn, IsOnce}
use Rattle.xc_forest.specs.Steps.Edges.{edges_of_row, edges_from, degree, others, minuses, pairs, AreFew}
use Rattle.xc_forest.proofs.EdgeLists.{degree_append, others_append, minuses_append, pairs_append}
use Rattle.xc_lists.proofs.Onces.{once_length}

at_most : (b : Bool) (k : ℕ) → cond b k 0 ≤ k
at_most true k = omega arith
at_most false k = omega arith

-- ---- bounds
pub row_degree : (v : ℕ) (row : List (ℕ × Bool)) (x : ℕ) → degree (edges_of_row v row) x ≤ 2 * length row
row_degree v [] x = omega arith
row_degree v (entry ∷ row) x = omega (arith, row_degree v row x, at_most (eqb entry.0 x) 1, at_most (eqb v x) 1)

pub row_minuses : (v : ℕ) (row : List (ℕ × Bool)) (x : ℕ) → minuses (edges_of_row v row) x ≤ 2 * length row
row_minuses v [] x = omega arith
row_minuses v (entry ∷ row) x = omega (arith, row_minuses v row x, at_most entry.1 (cond (eqb entry.0 x) 1 0 + cond (eqb v x) 1 0), at_most (eqb entry.0 x) 1, at_most (eqb v x) 1)

pub row_others : (v : ℕ) (row : List (ℕ × Bool)) (x : ℕ) → v < 2 ^ 32 → ((p : ℕ) → IsIn p (points_of row) → p < 2 ^ 32) → others (edges_of_row v row) x ≤ 2 ^ 33 * length row
row_others v [] x l h = omega arith
row_others v (entry ∷ row) x l h = omega (arith, row_others v row x l (λ p i. h p (inr i)), h entry.0 (inl refl), at_most (eqb entry.0 x) v, at_most (eqb v x) entry.0)

module _ (n : ℕ) (small : n < 2 ^ 31) where
  row_length : (row : List (ℕ × Bool)) → ((p : ℕ) → IsIn p (points_of row) → p < n) → IsOnce (points_of row) → length row ≤ 2 ^ 31
  row_length row h d = omega (arith, once_length (points_of row) n d h, length-map row (λ (e : ℕ × Bool). e.0))

  pub rows_degree : (v : ℕ) (rows : List (List (ℕ × Bool))) (x : ℕ) → AreRows n rows → degree (edges_from v rows) x ≤ 2 ^ 32 * length rows
  rows_degree v [] x h = omega arith
  rows_degree v (row ∷ rows) x h =
      let a = row_length row (h 0 (omega arith)).0 (h 0 (omega arith)).1 in
      omega (arith, degree_append (edges_of_row v row) (edges_from (v + 1) rows) x, row_degree v row x, rows_degree (v + 1) rows x (λ i l. h (suc i) (omega arith)))

  pub rows_minuses : (v : ℕ) (rows : List (List (ℕ × Bool))) (x : ℕ) → AreRows n rows → minuses (edges_from v rows) x ≤ 2 ^ 32 * length rows
  rows_minuses v [] x h = omega arith
  rows_minuses v (row ∷ rows) x h =
      let a = row_length row (h 0 (omega arith)).0 (h 0 (omega arith)).1 in
      omega (arith, minuses_append (edges_of_row v row) (edges_from (v + 1) rows) x, row_minuses v row x, rows_minuses (v + 1) rows x (λ i l. h (suc i) (omega arith)))

  pub rows_others : (v : ℕ) (rows : List (List (ℕ × Bool))) (x : ℕ) → v + length rows ≤ 2 ^ 32 → AreRows n rows → others (edges_from v rows) x ≤ 2 ^ 64 * length rows
  rows_others v [] x l h = omega arith
  rows_others v (row ∷ rows) x l h =
      let a = row_length row (h 0 (omega arith)).0 (h 0 (omega arith)).1 in
      omega (arith, others_append (edges_of_row v row) (edges_from (v + 1) rows) x, row_others v row x (omega arith) (λ p i. let b : p < n = (h 0 (omega arith)).0 p i in omega arith), rows_others (v + 1) rows x (omega arith) (λ i m. h (suc i) (omega arith)))

-- the edges of few rows over few points are few
pub are_few : (n : ℕ) (rows : List (List (ℕ × Bool))) → n < 2 ^ 31 → length rows < 2 ^ 31 → AreRows n rows → AreFew (edges_from n rows)
are_few n rows small few good = record {
  degree = λ x. omega (arith, rows_degree n small n rows x good);
  others = λ x. omega (arith, rows_others n small n rows x (omega arith) good);
  minuses = λ x. omega (arith, rows_minuses n small n rows x good);
}

-- ---- no two edges join the same
pub row_pairs_none : (v : ℕ) (row : List (ℕ × Bool)) (x y : ℕ) → ¬ IsIn x (points_of row) → ¬ IsIn y (points_of row) → pairs (edges_of_row v row) x y ≡ 0
row_pairs_none v [] x y h k = refl
row_pairs_none v (entry ∷ row) x y h k =
    let i = row_pairs_none v row x y (λ j. h (inr j)) (λ j. k (inr j)) in
    rw (ne_eqb entry.0 x (λ e. h (inl (sym e))), ne_eqb entry.0 y (λ e. k (inl (sym e))), either (eqb v x) 0) (omega (arith, i))
  where
    either : (b : Bool) (k : ℕ) → cond b k k ≡ k
    either true k = refl
    either false k = refl

pub row_pairs_off : (v : ℕ) (row : List (ℕ × Bool)) (x y : ℕ) → ¬ (v ≡ x) → ¬ (v ≡ y) → pairs (edges_of_row v row) x y ≡ 0
row_pairs_off v [] x y h k = refl
row_pairs_off v (entry ∷ row) x y h k =
    let i = row_pairs_off v row x y h k in
    rw (ne_eqb v x h, ne_eqb v y k, either (eqb entry.0 x) 0) (omega (arith, i))
  where
    either : (b : Bool) (k : ℕ) → cond b k k ≡ k
    either true k = refl
    either false k = refl

row_pairs_same : (v : ℕ) (row : List (ℕ × Bool)) (x y : ℕ) → pairs (edges_of_row v row) x y ≡ pairs (edges_of_row v row) y x
row_pairs_same v [] x y = refl
row_pairs_same v (entry ∷ row) x y = go (eqb entry.0 x) (eqb v y) (eqb v x) (eqb entry.0 y) (row_pairs_same v row x y)
  where
    go : (a b c d : Bool) → pairs (edges_of_row v row) x y ≡ pairs (edges_of_row v row) y x → (cond a (cond b 1 0) 0 + cond c (cond d 1 0) 0) + pairs (edges_of_row v row) x y ≡ (cond d (cond c 1 0) 0 + cond b (cond a 1 0) 0) + pairs (edges_of_row v row) y x
    go true true true true e = omega arith
    go true true true false e = omega arith
    go true true false true e = omega arith
    go true true false false e = omega arith
    go true false true true e = omega arith
    go true false true false e = omega arith
    go true false false true e = omega arith
    go true false false false e = omega arith
    go false true true true e = omega arith
    go false true true false e = omega arith
    go false true false true e = omega arith
    go false true false false e = omega arith
    go false false true true e = omega arith
    go false false true false e = omega arith
    go false false false true e = omega arith
    go false false false false e = omega arith

-- a point x and the row v
row_pairs_once : (v : ℕ) (row : List (ℕ × Bool)) (x : ℕ) → IsOnce (points_of row) → ((p : ℕ) → IsIn p (points_of row) → p < v) → x < v → pairs (edges_of_row v row) x v ≤ 1
row_pairs_once v [] x d h l = omega arith
row_pairs_once v (entry ∷ row) x d h l = go (cases_eq entry.0 x) (row_pairs_once v row x d.1 (λ p i. h p (inr i)) l)
  where
    off : eqb v x ≡ false
    off = ne_eqb v x (λ e. absurd (omega arith))

    none : ¬ IsIn v (points_of row)
    none i = let k : v < v = h v (inr i) in absurd (omega arith)

    on : eqb v v ≡ true
    on = eq-eqb v v refl

    go : ((entry.0 ≡ x) ⊎ (entry.0 ≡ x → ⊥)) → pairs (edges_of_row v row) x v ≤ 1 → pairs (edges_of_row v (entry ∷ row)) x v ≤ 1
    go (inl e) r = rw (eq-eqb entry.0 x e, off, on, row_pairs_none v row x v (λ i. d.0 (subst (λ (z : ℕ). IsIn z (points_of row)) (sym e) i)) none) (omega arith)
    go (inr e) r = rw (ne_eqb entry.0 x e, off) (omega (arith, r))

module _ (n : ℕ) where
  row_pairs : (v : ℕ) (row : List (ℕ × Bool)) (x y : ℕ) → IsOnce (points_of row) → ((p : ℕ) → IsIn p (points_of row) → p < n) → n ≤ v → pairs (edges_of_row v row) x y ≤ 1
  row_pairs v row x y d h l = go (cases_eq v y) (cases_eq v x) (lt_or_le x v) (lt_or_le y v)
    where
      below : (p : ℕ) → IsIn p (points_of row) → p < v
      below p i = let k : p < n = h p i in omega arith

      absent : (z : ℕ) → v ≤ z → ¬ IsIn z (points_of row)
      absent z m i = let k : z < v = below z i in absurd (omega arith)

      go : ((v ≡ y) ⊎ (v ≡ y → ⊥)) → ((v ≡ x) ⊎ (v ≡ x → ⊥)) → ((x < v) ⊎ (v ≤ x)) → ((y < v) ⊎ (v ≤ y)) → pairs (edges_of_row v row) x y ≤ 1
      go (inl e) f (inl m) k = rw (← e) (row_pairs_once v row x d below m)
      go (inl e) f (inr m) k = let z = row_pairs_none v row x y (absent x m) (absent y (omega arith)) in omega arith
      go (inr e) (inl f) m (inl k) = rw (← f, row_pairs_same v row v y) (row_pairs_once v row y d below k)
      go (inr e) (inl f) m (inr k) = let z = row_pairs_none v row x y (absent x (omega arith)) (absent y k) in omega arith
      go (inr e) (inr f) m k = let z = row_pairs_off v row x y f e in omega arith

  rows_pairs_none : (v : ℕ) (rows : List (List (ℕ × Bool))) (x y : ℕ) → x < v → y < v → pairs (edges_from v rows) x y ≡ 0
  rows_pairs_none v [] x y l m = refl
  rows_pairs_none v (row ∷ rows) x y l m = omega (arith, pairs_append (edges_of_row v row) (edges_from (v + 1) rows) x y, row_pairs_off v row x y (λ e. absurd (omega arith)) (λ e. absurd (omega arith)), rows_pairs_none (v + 1) rows x y (omega arith) (omega arith))

  pub rows_pairs : (v : ℕ) (rows : List (List (ℕ × Bool))) (x y : ℕ) → AreRows n rows → n ≤ v → pairs (edges_from v rows) x y ≤ 1
  rows_pairs v [] x y h l = omega arith
  rows_pairs v (row ∷ rows) x y h l = go (rows_pairs (v + 1) rows x y (λ i m. h (suc i) (omega arith)) (omega arith)) (lt_or_le x (v + 1)) (lt_or_le y (v + 1))
    where
      both : pairs (edges_of_row v row ++ edges_from (v + 1) rows) x y ≡ pairs (edges_of_row v row) x y + pairs (edges_from (v + 1) rows) x y
      both = pairs_append (edges_of_row v row) (edges_from (v + 1) rows) x y

      first : pairs (edges_of_row v row) x y ≤ 1
      first = row_pairs v row x y (h 0 (omega arith)).1 (h 0 (omega arith)).0 l

      absent : (z : ℕ) → v + 1 ≤ z → ¬ IsIn z (points_of row)
      absent z m i = let k : z < n = (h 0 (omega arith)).0 z i in absurd (omega arith)

      go : pairs (edges_from (v + 1) rows) x y ≤ 1 → ((x < v + 1) ⊎ (v + 1 ≤ x)) → ((y < v + 1) ⊎ (v + 1 ≤ y)) → pairs (edges_of_row v row ++ edges_from (v + 1) rows) x y ≤ 1
      go rest (inl a) (inl b) = omega (arith, both, first, rows_pairs_none (v + 1) rows x y a b)
      go rest (inr a) (inr b) = omega (arith, both, rest, row_pairs_none v row x y (absent x a) (absent y b))
      go rest (inr a) (inl b) = omega (arith, both, rest, off_x a (cases_eq v y))
        where
          off_x : v + 1 ≤ x → ((v ≡ y) ⊎ (v ≡ y → ⊥)) → pairs (edges_of_row v row) x y ≡ 0
          off_x a (inr f) = row_pairs_off v row x y (λ e. absurd (omega arith)) f
          off_x a (inl f) = row_pairs_none v row x y (absent x a) (λ i. let k : y < n = (h 0 (omega arith)).0 y i in absurd (omega arith))
      go rest (inl a) (inr b) = omega (arith, both, rest, off_y b (cases_eq v x))
        where
          off_y : v + 1 ≤ y → ((v ≡ x) ⊎ (v ≡ x → ⊥)) → pairs (edges_of_row v row) x y ≡ 0
          off_y b (inr f) = row_pairs_off v row x y f (λ e. absurd (omega arith))
          off_y b (inl f) = row_pairs_none v row x y (λ i. let k : x < n = (h 0 (omega arith)).0 x i in absurd (omega arith)) (absent y b)
