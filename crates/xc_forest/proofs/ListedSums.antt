-- Sums over all vertices of a forest, and over its points and rows.
use Rattle.std.proofs.Common.{◌≢◌, ◌≡◌, ℕ, zero, suc, ◌+◌, ◌<◌, ◌≤◌, Bool, true, false, cond, List, [], ◌∷◌, length, ℤ, pos, ◌+ℤ◌, ◌*ℤ◌, ◌⊎◌, inl, inr, refl, sym, arith, ◌∙◌, eqb, subst, add-zero, add-suc}
use Rattle.std.proofs.lemmas.Int.{ints}
use Rattle.std.proofs.lemmas.Bool.{cases_eq, eq-eqb, ne_eqb, false≢true}
use lib.IntN.{zero-*ℤ}
use Rattle.xc_forest.specs.Forests.{AreRows, row_at, row_sum, unit_at, points_of, number_with_sign, sum_below}
use Rattle.xc_lists.specs.Members.{IsIn, IsOnce}
use Rattle.xc_forest.specs.Steps.Links.{is_row_of, weigh_of}
use Rattle.xc_forest.specs.Steps.Vertices.{sum_over}
use Rattle.xc_forest.proofs.Sums.{sum_same, sum_zero, sum_single}
use Rattle.xc_forest.proofs.Weights.{weight_none, row_true, row_false, row_number}
use Rattle.xc_model.proofs.Integers.{add-mul}

pub same_below : (n : ℕ) (f g : ℕ → ℤ) → ((j : ℕ) → j < n → f j ≡ g j) → sum_below n f ≡ sum_below n g
same_below zero f g h = refl
same_below (suc n) f g h =
    let a : sum_below n f ≡ sum_below n g = same_below n f g (λ j k. h j (omega arith)) in
    let b : f n ≡ g n = h n (omega arith) in
    omega (arith, ints)

-- ---- a list of all numbers below n
without : ℕ → (ℕ → ℤ) → ℕ → ℤ
without q f j = cond (eqb j q) (pos 0) (f j)

without_same : (n q : ℕ) (f : ℕ → ℤ) → n ≤ q → sum_below n (without q f) ≡ sum_below n f
unfolding without
without_same n q f h = same_below n _ _ (λ j k. let e : eqb j q ≡ false = ne_eqb j q (omega arith) in rw e)

sum_at : (n q : ℕ) (f : ℕ → ℤ) → q < n → sum_below n f ≡ f q +ℤ sum_below n (without q f)
unfolding without
sum_at zero q f h = absurd (omega arith)
sum_at (suc n) q f h = go (cases_eq n q) (λ k. sum_at n q f k)
  where
    go : ((n ≡ q) ⊎ (n ≡ q → ⊥)) → (q < n → sum_below n f ≡ f q +ℤ sum_below n (without q f)) → sum_below n f +ℤ f n ≡ f q +ℤ (sum_below n (without q f) +ℤ cond (eqb n q) (pos 0) (f n))
    go (inl e) i = rw (eq-eqb n q e, without_same n q f (omega arith), e) (omega (arith, ints))
    go (inr e) i = rw (ne_eqb n q e) (omega (arith, ints, i (omega arith)))

pub none_below : (n : ℕ) (f : ℕ → ℤ) → ((j : ℕ) → j < n → f j ≡ pos 0) → sum_below n f ≡ pos 0
none_below zero f h = refl
none_below (suc n) f h = let a : sum_below n f ≡ pos 0 = none_below n f (λ j k. h j (omega arith)) in let b : f n ≡ pos 0 = h n (omega arith) in omega (arith, ints)

-- f is 0 but at q
pub single_below : (n q : ℕ) (f : ℕ → ℤ) → q < n → ((j : ℕ) → j < n → j ≢ q → f j ≡ pos 0) → sum_below n f ≡ f q
unfolding without
single_below n q f l h =
    let a : sum_below n f ≡ f q +ℤ sum_below n (without q f) = sum_at n q f l in
    let b : sum_below n (without q f) ≡ pos 0 = none_below n (without q f) (λ j k. rest j k (cases_eq j q)) in
    omega (arith, ints)
  where
    rest : (j : ℕ) → j < n → ((j ≡ q) ⊎ (j ≡ q → ⊥)) → cond (eqb j q) (pos 0) (f j) ≡ pos 0
    rest j k (inl e) = rw (eq-eqb j q e)
    rest j k (inr e) = rw (ne_eqb j q e) (h j k e)

sum_listed : (n : ℕ) (vs : List ℕ) (f : ℕ → ℤ) → IsOnce vs → ((v : ℕ) → IsIn v vs → v < n) → ((v : ℕ) → v < n → ¬ IsIn v vs → f v ≡ pos 0) → sum_below n f ≡ sum_over vs f
unfolding without
sum_listed n [] f d k z = none_below n f (λ j l. z j l (λ h. h))
sum_listed n (v ∷ vs) f d k z =
    let a : sum_below n f ≡ f v +ℤ sum_below n (without v f) = sum_at n v f (k v (inl refl)) in
    let b : sum_below n (without v f) ≡ sum_over vs (without v f) = sum_listed n vs (without v f) d.1 (λ u i. k u (inr i)) (λ u l m. rest u l m (cases_eq u v)) in
    let c : sum_over vs (without v f) ≡ sum_over vs f = sum_same vs _ _ (λ u i. rw (ne_eqb u v (λ e. d.0 (subst (λ (x : ℕ). IsIn x vs) e i)))) in
    omega (arith, ints)
  where
    rest : (u : ℕ) → u < n → ¬ IsIn u vs → ((u ≡ v) ⊎ (u ≡ v → ⊥)) → without v f u ≡ pos 0
    rest u l m (inl e) = rw (eq-eqb u v e)
    rest u l m (inr e) = rw (ne_eqb u v e) (z u l (λ i. elim i [ inl q ↦ e q | inr q ↦ m q ]))

sum_both : (n m : ℕ) (f : ℕ → ℤ) → sum_below (n + m) f ≡ sum_below n f +ℤ sum_below m (λ i. f (n + i))
sum_both n zero f = rw add-zero (omega (arith, ints))
sum_both n (suc m) f = let i : sum_below (n + m) f ≡ sum_below n f +ℤ sum_below m (λ i. f (n + i)) = sum_both n m f in rw add-suc (omega (arith, ints))

-- ---- the sum of a row by weights
sum_plus : (vs : List ℕ) (f g : ℕ → ℤ) → sum_over vs (λ v. f v +ℤ g v) ≡ sum_over vs f +ℤ sum_over vs g
sum_plus [] f g = refl
sum_plus (v ∷ vs) f g = let i : sum_over vs (λ v. f v +ℤ g v) ≡ sum_over vs f +ℤ sum_over vs g = sum_plus vs f g in omega (arith, ints)

pub turn_unit : (b : Bool) (x : ℤ) → number_with_sign b (pos 1) *ℤ x ≡ number_with_sign b x
turn_unit false x = omega (arith, ints)
turn_unit true x = omega (arith, ints)

pub turn_none : (b : Bool) (x : ℤ) → number_with_sign b (pos 0) *ℤ x ≡ pos 0
turn_none false x = zero-*ℤ x
turn_none true x = zero-*ℤ x

pub row_by_weights : (vs : List ℕ) (es : List (ℕ × Bool)) (x : ℕ → ℤ) → IsOnce vs → ((p : ℕ) → IsIn p (points_of es) → IsIn p vs) → row_sum es x ≡ sum_over vs (λ v. row_sum es (unit_at v) *ℤ x v)
row_by_weights vs [] x d h = sym (sum_zero vs _ (λ v i. zero-*ℤ (x v)))
row_by_weights vs (e ∷ es) x d h =
    let i : row_sum es x ≡ sum_over vs (λ v. row_sum es (unit_at v) *ℤ x v) = row_by_weights vs es x d (λ p k. h p (inr k)) in
    let s : sum_over vs (λ v. number_with_sign e.1 (unit_at v e.0) *ℤ x v) ≡ number_with_sign e.1 (unit_at e.0 e.0) *ℤ x e.0 = sum_single vs e.0 (λ v. number_with_sign e.1 (unit_at v e.0) *ℤ x v) d (h e.0 (inl refl)) (λ v k m. rw (ne_eqb e.0 v (λ q. m (sym q))) (turn_none e.1 (x v))) in
    let o : number_with_sign e.1 (unit_at e.0 e.0) *ℤ x e.0 ≡ number_with_sign e.1 (x e.0) = rw (eq-eqb e.0 e.0 refl) (turn_unit e.1 (x e.0)) in
    let p : sum_over vs (λ v. (number_with_sign e.1 (unit_at v e.0) +ℤ row_sum es (unit_at v)) *ℤ x v) ≡ sum_over vs (λ v. number_with_sign e.1 (unit_at v e.0) *ℤ x v) +ℤ sum_over vs (λ v. row_sum es (unit_at v) *ℤ x v) = sum_same vs _ _ (λ v k. add-mul (number_with_sign e.1 (unit_at v e.0)) (row_sum es (unit_at v)) (x v)) ∙ sum_plus vs _ _ in
    omega (arith, ints)

module _ (n m : ℕ) (listing : List ℕ) (once : IsOnce listing) (known : (v : ℕ) → IsIn v listing → v < n + m) (all : (v : ℕ) → v < n + m → IsIn v listing) where
  all_listed : (g : ℕ → ℤ) → sum_over listing g ≡ sum_below n g +ℤ sum_below m (λ i. g (n + i))
  all_listed g = sym (sum_listed (n + m) listing g once known (λ v l k. absurd (k (all v l)))) ∙ sum_both n m g

  pub points_listed : (g : ℕ → ℤ) → ((v : ℕ) → n ≤ v → g v ≡ pos 0) → sum_over listing g ≡ sum_below n g
  points_listed g z =
      let a : sum_over listing g ≡ sum_below n g +ℤ sum_below m (λ i. g (n + i)) = all_listed g in
      let b : sum_below m (λ i. g (n + i)) ≡ pos 0 = none_below m _ (λ i l. z (n + i) (omega arith)) in
      omega (arith, ints)

  pub rows_listed : (g : ℕ → ℤ) → ((v : ℕ) → v < n → g v ≡ pos 0) → sum_over listing g ≡ sum_below m (λ i. g (n + i))
  rows_listed g z =
      let a : sum_over listing g ≡ sum_below n g +ℤ sum_below m (λ i. g (n + i)) = all_listed g in
      let b : sum_below n g ≡ pos 0 = none_below n g z in
      omega (arith, ints)

module _ (n : ℕ) (rows : List (List (ℕ × Bool))) (good : AreRows n rows) where
  pub row_weight : (i v : ℕ) → i < length rows → weigh_of n rows (n + i) v ≡ row_sum (row_at rows i) (unit_at v)
  row_weight i v l = rw (row_true n (n + i) (omega arith), row_number n i) (go (is_row_of n v) refl)
    where
      go : (t : Bool) → is_row_of n v ≡ t → cond (is_row_of n v) (pos 0) (row_sum (row_at rows i) (unit_at v)) ≡ row_sum (row_at rows i) (unit_at v)
      go false e = rw e
      go true e = rw e (sym (weight_none (row_at rows i) v (λ k. false≢true (sym (row_false n v ((good i l).0 v k)) ∙ e))))
