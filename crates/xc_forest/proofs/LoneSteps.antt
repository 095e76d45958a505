-- A vertex without neighbours, and a point whose span misses what its row asks.
use Rattle.std.proofs.Common.{◌≡◌, ◌≢◌, ℕ, Bool, true, false, List, ◌∷◌, ℤ, pos, ◌+ℤ◌, ◌*ℤ◌, ◌⊎◌, inl, inr, refl, sym, arith, ap, ◌∙◌}
use Rattle.std.proofs.lemmas.Int.{ints}
use Rattle.std.proofs.lemmas.Bool.{cases_eq, false≢true}
use Rattle.xc_model.specs.Parts.{WholeParts}
use Rattle.xc_forest.specs.Forests.{Neither, number_with_sign, IsUnit}
use Rattle.xc_lists.specs.Members.{IsIn, IsOnce}
use Rattle.xc_forest.specs.Steps.Vertices.{◌≺◌, sum_over, part, Span, IsWithin, worth, Graph, IsSumWithout, IsEnd, IsLeafRow, IsAlone, AreVertexValues, Refutes, bound}
use Rattle.xc_forest.proofs.Sums.{sum_same, sum_zero, sum_single, apart}
use Rattle.xc_forest.proofs.Points.{put, put_same, put_other}
use Rattle.xc_forest.proofs.PointSteps.{weight_times, no_weight}

-- ---- a signed sum over fewer vertices
pub signed_more : (vs : List ℕ) (a : ℕ → Span) (w v : ℕ) (x : WholeParts) → (IsIn w vs → ⊥) → v ≢ w → IsSumWithout vs a v x → IsSumWithout (w ∷ vs) a v x
signed_more vs a w v x f m s = record {
  choice = put w Neither s.choice;
  free = put_other w v Neither s.choice m ∙ s.free;
  is = λ c. s.is c ∙ go c;
}
  where
    go : (c : Bool) → sum_over vs (λ u. worth c (s.choice u) (a u)) ≡ worth c (put w Neither s.choice w) (a w) +ℤ sum_over vs (λ u. worth c (put w Neither s.choice u) (a u))
    go c =
        let e : sum_over vs (λ u. worth c (put w Neither s.choice u) (a u)) ≡ sum_over vs (λ u. worth c (s.choice u) (a u)) = sum_same vs _ _ (λ u i. rw (put_other w u Neither s.choice (apart u w vs i f))) in
        let q : worth c (put w Neither s.choice w) (a w) ≡ pos 0 = rw (put_same w Neither s.choice) in
        omega (arith, ints)

module _ (g : Graph) (vs : List ℕ) (a : ℕ → Span) (w : ℕ) (h : IsAlone g vs w) where
  module _ (z : ℕ → WholeParts) (s : AreVertexValues g vs a z) (within : IsWithin (a w) (z w)) (own : IsEnd (a w) (z w) ⊎ IsSumWithout (w ∷ vs) a w (z w)) (zero_row : g.is_row w ≡ true → (c : Bool) → part c (z w) ≡ pos 0) where
    loop : g.weigh w w ≡ pos 0
    loop = go (g.is_row w) refl
      where
        go : (t : Bool) → g.is_row w ≡ t → g.weigh w w ≡ pos 0
        go true e = g.points w w e
        go false e = g.rows w w e

    pub alone_settles : AreVertexValues g (w ∷ vs) a z
    alone_settles = record { within = within_all; meets = meets_all; signed = signed_all }
      where
        within_all : (v : ℕ) → IsIn v (w ∷ vs) → IsWithin (a v) (z v)
        within_all v (inl e) = rw e within
        within_all v (inr i) = s.within v i

        meets_all : (q : ℕ) → IsIn q (w ∷ vs) → g.is_row q ≡ true → (c : Bool) → part c (z q) ≡ sum_over (w ∷ vs) (λ v. g.weigh q v *ℤ part c (z v))
        meets_all q (inl e) k c =
            let o : g.weigh w w *ℤ part c (z w) ≡ pos 0 = no_weight _ _ loop in
            let f : sum_over vs (λ v. g.weigh w v *ℤ part c (z v)) ≡ pos 0 = sum_zero vs _ (λ v i. no_weight _ _ (h.below v i)) in
            let t : part c (z w) ≡ pos 0 = zero_row (rw e at k) c in
            rw e (omega (arith, ints))
        meets_all q (inr i) k c =
            let o : g.weigh q w *ℤ part c (z w) ≡ pos 0 = no_weight _ _ (h.above q i) in
            let f : part c (z q) ≡ sum_over vs (λ v. g.weigh q v *ℤ part c (z v)) = s.meets q i k c in
            omega (arith, ints)

        signed_all : (v : ℕ) → IsIn v (w ∷ vs) → IsEnd (a v) (z v) ⊎ IsSumWithout (w ∷ vs) a v (z v)
        signed_all v (inl e) = rw e own
        signed_all v (inr i) = go (s.signed v i)
          where
            go : (IsEnd (a v) (z v) ⊎ IsSumWithout vs a v (z v)) → IsEnd (a v) (z v) ⊎ IsSumWithout (w ∷ vs) a v (z v)
            go (inl k) = inl k
            go (inr k) = inr (signed_more vs a w v (z v) h.fresh (apart v w vs i h.fresh) k)

  pub alone_contradicts : (x u : ℕ → ℤ) → Refutes g vs a x → ((v : ℕ) → IsIn v vs → u v ≡ x v) → u w ≡ pos 0 → ((v : ℕ) → IsUnit (u v)) → Refutes g (w ∷ vs) a u
  alone_contradicts x u k same own units = record { unit = units; cancels = cancels_all; positive = rw (bounds_sum false, bounds_sum true) k.positive }
    where
      bounds_sum : (c : Bool) → sum_over (w ∷ vs) (λ v. bound c (u v) (a v)) ≡ sum_over vs (λ v. bound c (x v) (a v))
      bounds_sum c =
          let f : sum_over vs (λ v. bound c (u v) (a v)) ≡ sum_over vs (λ v. bound c (x v) (a v)) = sum_same vs _ _ (λ v i. rw (same v i)) in
          let q : bound c (u w) (a w) ≡ pos 0 = rw own in
          omega (arith, ints)

      cancels_all : (q : ℕ) → IsIn q (w ∷ vs) → g.is_row q ≡ false → u q +ℤ sum_over (w ∷ vs) (λ v. g.weigh v q *ℤ u v) ≡ pos 0
      cancels_all q (inl e) o =
          let f : sum_over vs (λ v. g.weigh v w *ℤ u v) ≡ pos 0 = sum_zero vs _ (λ v i. no_weight _ _ (h.above v i)) in
          let m : g.weigh w w *ℤ u w ≡ pos 0 = rw own (omega (arith, ints)) in
          rw e (omega (arith, ints, own))
      cancels_all q (inr i) o =
          let f : x q +ℤ sum_over vs (λ v. g.weigh v q *ℤ x v) ≡ pos 0 = k.cancels q i o in
          let t : sum_over vs (λ v. g.weigh v q *ℤ u v) ≡ sum_over vs (λ v. g.weigh v q *ℤ x v) = sum_same vs _ _ (λ v j. rw (same v j)) in
          let m : g.weigh w q *ℤ u w ≡ pos 0 = rw own (omega (arith, ints)) in
          let e : u q ≡ x q = same q i in
          omega (arith, ints)

  -- a row without points whose span misses 0: its end alone contradicts
  pub alone_refuted : (u : ℕ → ℤ) → ((v : ℕ) → IsIn v vs → u v ≡ pos 0) → g.is_row w ≡ true → record { real = pos 0; tiny = pos 0 } ≺ record { real = bound false (u w) (a w); tiny = bound true (u w) (a w) } → ((v : ℕ) → IsUnit (u v)) → Refutes g (w ∷ vs) a u
  alone_refuted u none row above units = record { unit = units; cancels = cancels_all; positive = rw (bounds_sum false, bounds_sum true) above }
    where
      bounds_sum : (c : Bool) → sum_over (w ∷ vs) (λ v. bound c (u v) (a v)) ≡ bound c (u w) (a w)
      bounds_sum c = let f : sum_over vs (λ v. bound c (u v) (a v)) ≡ pos 0 = sum_zero vs _ (λ v i. rw (none v i)) in omega (arith, ints)

      cancels_all : (q : ℕ) → IsIn q (w ∷ vs) → g.is_row q ≡ false → u q +ℤ sum_over (w ∷ vs) (λ v. g.weigh v q *ℤ u v) ≡ pos 0
      cancels_all q (inl e) o = absurd (false≢true (sym o ∙ rw e row))
      cancels_all q (inr i) o =
          let t : sum_over vs (λ v. g.weigh v q *ℤ u v) ≡ pos 0 = sum_zero vs _ (λ v j. rw (none v j) (omega (arith, ints))) in
          let m : g.weigh w q *ℤ u w ≡ pos 0 = no_weight _ _ (h.below q i) in
          let e : u q ≡ pos 0 = none q i in
          omega (arith, ints)

-- ---- the point and its last row ask for values that do not meet
pub clash_refuted : (g : Graph) (vs : List ℕ) (a : ℕ → Span) (r p : ℕ) (b : Bool) → IsOnce vs → IsLeafRow g vs r p b → (u : ℕ → ℤ) → ((v : ℕ) → IsIn v vs → v ≢ p → u v ≡ pos 0) → u p +ℤ number_with_sign b (u r) ≡ pos 0 → record { real = pos 0; tiny = pos 0 } ≺ record { real = bound false (u r) (a r) +ℤ bound false (u p) (a p); tiny = bound true (u r) (a r) +ℤ bound true (u p) (a p) } → ((v : ℕ) → IsUnit (u v)) → Refutes g (r ∷ vs) a u
clash_refuted g vs a r p b d h u none balance above units = record { unit = units; cancels = cancels_all; positive = rw (bounds_sum false, bounds_sum true) above }
  where
    bounds_sum : (c : Bool) → sum_over (r ∷ vs) (λ v. bound c (u v) (a v)) ≡ bound c (u r) (a r) +ℤ bound c (u p) (a p)
    bounds_sum c = ap (λ (t : ℤ). bound c (u r) (a r) +ℤ t) (sum_single vs p (λ v. bound c (u v) (a v)) d h.left (λ v i m. rw (none v i m)))

    term : (v q : ℕ) → IsIn v vs → ((v ≡ p) ⊎ (v ≡ p → ⊥)) → g.weigh v q *ℤ u v ≡ pos 0
    term v q i (inl e) = rw e (no_weight _ _ (g.rows p q h.point))
    term v q i (inr m) = rw (none v i m) (omega (arith, ints))

    cancels_left : (q : ℕ) → IsIn q vs → ((q ≡ p) ⊎ (q ≡ p → ⊥)) → u q +ℤ (g.weigh r q *ℤ u r +ℤ sum_over vs (λ v. g.weigh v q *ℤ u v)) ≡ pos 0
    cancels_left q i (inl e) =
        let t : sum_over vs (λ v. g.weigh v p *ℤ u v) ≡ pos 0 = sum_zero vs _ (λ v j. term v p j (cases_eq v p)) in
        let m : g.weigh r p *ℤ u r ≡ number_with_sign b (u r) = rw h.weight (weight_times b (u r)) in
        rw e (omega (arith, ints, balance))
    cancels_left q i (inr e) =
        let t : sum_over vs (λ v. g.weigh v q *ℤ u v) ≡ pos 0 = sum_zero vs _ (λ v j. term v q j (cases_eq v p)) in
        let m : g.weigh r q *ℤ u r ≡ pos 0 = no_weight _ _ (h.others q i e) in
        let f : u q ≡ pos 0 = none q i e in
        omega (arith, ints)

    cancels_all : (q : ℕ) → IsIn q (r ∷ vs) → g.is_row q ≡ false → u q +ℤ sum_over (r ∷ vs) (λ v. g.weigh v q *ℤ u v) ≡ pos 0
    cancels_all q (inl e) o = absurd (false≢true (sym o ∙ rw e h.row))
    cancels_all q (inr i) o = cancels_left q i (cases_eq q p)
