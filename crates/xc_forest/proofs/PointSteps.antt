-- What a point that is left in one row adds to the values and the multipliers of the others.
use Rattle.std.proofs.Common.{◌≡◌, ◌≢◌, ℕ, Bool, true, false, not, List, ◌∷◌, ℤ, pos, neg_ℤ, ◌+ℤ◌, ◌*ℤ◌, ◌⊎◌, inl, inr, refl, sym, arith, ap, ◌∙◌}
use Rattle.std.proofs.lemmas.Int.{ints}
use Rattle.std.proofs.lemmas.Bool.{cases_eq, false≢true}
use lib.IntN.{zero-*ℤ}
use Rattle.xc_model.specs.Parts.{WholeParts}
use Rattle.xc_forest.specs.Forests.{Choice, Plus, Minus, number_with_sign, IsUnit}
use Rattle.xc_lists.specs.Members.{IsIn, IsOnce}
use Rattle.xc_forest.specs.Steps.Vertices.{sum_over, part, Span, end, IsWithin, worth, row_without_point, weight, Graph, IsSumWithout, IsEnd, IsLeafPoint, AreVertexValues, Refutes, bound}
use Rattle.xc_forest.proofs.Sums.{sum_same, sum_single, sum_change, apart}
use Rattle.xc_forest.specs.Steps.Splits.{IsRest, IsSplit}
use Rattle.xc_forest.proofs.Splits.{extreme}
use Rattle.xc_forest.proofs.Points.{signed, worth_signed, with_end, signed_with, signed_without}

pub weight_times : (b : Bool) (x : ℤ) → weight b *ℤ x ≡ number_with_sign b x
weight_times false x = omega (arith, ints)
weight_times true x = omega (arith, ints)

pub no_weight : (x y : ℤ) → x ≡ pos 0 → x *ℤ y ≡ pos 0
no_weight x y e = rw e (zero-*ℤ y)

row_end_choice : Bool → Choice
row_end_choice false = Plus false
row_end_choice true = Minus true

row_end_worth : (b c : Bool) (x : Span) (t zr zp : WholeParts) → IsRest b t zr zp → zr ≡ end b x → part c zp ≡ number_with_sign (not b) (part c t) +ℤ worth c (row_end_choice b) x
unfolding row_end_choice
row_end_worth false c x t zr zp h e = let k : part c zr ≡ part c t +ℤ part c zp = h c in let f : part c zr ≡ part c x.low = ap (part c) e in omega (arith, ints)
row_end_worth true c x t zr zp h e = let k : part c zr ≡ part c t +ℤ neg_ℤ (part c zp) = h c in let f : part c zr ≡ part c x.high = ap (part c) e in omega (arith, ints)

point_low_worth : (b c : Bool) (y : Span) (t zr zp : WholeParts) → IsRest b t zr zp → zp ≡ y.low → part c zr ≡ number_with_sign false (part c t) +ℤ worth c (signed b (Plus false)) y
point_low_worth b c y t zr zp h e = h c ∙ ap (λ (v : ℤ). part c t +ℤ v) (ap (λ (v : WholeParts). number_with_sign b (part c v)) e ∙ sym (worth_signed c b (Plus false) y))

pub bound_less : (b c : Bool) (u : ℤ) (x y : Span) → IsUnit u → bound c u (row_without_point b x y) ≡ bound c u x +ℤ bound c (number_with_sign (not b) u) y
bound_less false c u x y (inl e) = rw e
bound_less true c u x y (inl e) = rw e
bound_less false false u x y (inr (inl e)) = rw e (omega (arith, ints))
bound_less false true u x y (inr (inl e)) = rw e (omega (arith, ints))
bound_less true false u x y (inr (inl e)) = rw e (omega (arith, ints))
bound_less true true u x y (inr (inl e)) = rw e (omega (arith, ints))
bound_less false false u x y (inr (inr e)) = rw e (omega (arith, ints))
bound_less false true u x y (inr (inr e)) = rw e (omega (arith, ints))
bound_less true false u x y (inr (inr e)) = rw e (omega (arith, ints))
bound_less true true u x y (inr (inr e)) = rw e (omega (arith, ints))

turns_cancel : (b : Bool) (x : ℤ) → number_with_sign (not b) x +ℤ number_with_sign b x ≡ pos 0
turns_cancel false x = omega (arith, ints)
turns_cancel true x = omega (arith, ints)

module _ (g : Graph) (vs : List ℕ) (a n : ℕ → Span) (p r : ℕ) (b : Bool) (d : IsOnce vs) (h : IsLeafPoint g vs p r b) (less : n r ≡ row_without_point b (a r) (a p)) (kept : (v : ℕ) → IsIn v vs → v ≢ r → n v ≡ a v) where
  distinct_with : IsOnce (p ∷ vs)
  distinct_with = (h.fresh, d)

  module _ (y z : ℕ → WholeParts) (s : AreVertexValues g vs n y) (same : (v : ℕ) → IsIn v vs → v ≢ r → z v ≡ y v) (split : IsSplit b (a r) (a p) (y r) (z r) (z p)) where
    within_left : (v : ℕ) → IsIn v vs → ((v ≡ r) ⊎ (v ≡ r → ⊥)) → IsWithin (a v) (z v)
    within_left v i (inl e) = rw e split.row
    within_left v i (inr m) = rw (same v i m, ← kept v i m) (s.within v i)

    meets_left : (q : ℕ) (c : Bool) → IsIn q vs → g.is_row q ≡ true → ((q ≡ r) ⊎ (q ≡ r → ⊥)) → part c (z q) ≡ g.weigh q p *ℤ part c (z p) +ℤ sum_over vs (λ v. g.weigh q v *ℤ part c (z v))
    meets_left q c i k o =
        let e : sum_over vs (λ v. g.weigh q v *ℤ part c (z v)) ≡ sum_over vs (λ v. g.weigh q v *ℤ part c (y v)) = sum_same vs _ _ (λ v j. go v j (cases_eq v r)) in
        let f : part c (y q) ≡ sum_over vs (λ v. g.weigh q v *ℤ part c (y v)) = s.meets q i k c in
        own o e f
      where
        go : (v : ℕ) → IsIn v vs → ((v ≡ r) ⊎ (v ≡ r → ⊥)) → g.weigh q v *ℤ part c (z v) ≡ g.weigh q v *ℤ part c (y v)
        go v j (inl w) = let m : g.weigh q v ≡ pos 0 = rw w (g.points q r h.row) in no_weight _ _ m ∙ sym (no_weight _ _ m)
        go v j (inr w) = rw (same v j w)

        own : ((q ≡ r) ⊎ (q ≡ r → ⊥)) → sum_over vs (λ v. g.weigh q v *ℤ part c (z v)) ≡ sum_over vs (λ v. g.weigh q v *ℤ part c (y v)) → part c (y q) ≡ sum_over vs (λ v. g.weigh q v *ℤ part c (y v)) → part c (z q) ≡ g.weigh q p *ℤ part c (z p) +ℤ sum_over vs (λ v. g.weigh q v *ℤ part c (z v))
        own (inl w) e f =
            let t : part c (z r) ≡ part c (y r) +ℤ number_with_sign b (part c (z p)) = split.rest c in
            let m : g.weigh r p *ℤ part c (z p) ≡ number_with_sign b (part c (z p)) = rw h.weight (weight_times b (part c (z p))) in
            rw w (omega (arith, ints, rw w at e, rw w at f))
        own (inr w) e f =
            let m : g.weigh q p *ℤ part c (z p) ≡ pos 0 = no_weight _ _ (h.others q i w) in
            let t : part c (z q) ≡ part c (y q) = ap (part c) (same q i w) in
            omega (arith, ints)

    signed_left : (v : ℕ) → IsIn v vs → ((v ≡ r) ⊎ (v ≡ r → ⊥)) → (IsEnd (n v) (y v) ⊎ IsSumWithout vs n v (y v)) → IsEnd (a v) (z v) ⊎ IsSumWithout (p ∷ vs) a v (z v)
    signed_left v i (inl e) (inl k) = rw e (inl (extreme b (a r) (a p) (y r) (z r) (z p) split.row split.point split.rest (rw less at (rw e at k))).0)
    signed_left v i (inl e) (inr k) = rw e (go split.least (rw e at k))
      where
        go : ((z p ≡ (a p).low) ⊎ (z r ≡ end b (a r))) → IsSumWithout vs n r (y r) → IsEnd (a r) (z r) ⊎ IsSumWithout (p ∷ vs) a r (z r)
        go (inr f) k = inl (b, f)
        go (inl f) k =
            let w = signed_without g vs a n p r b d h less kept (y r) k in
            inr (with_end (p ∷ vs) a false p r (signed b (Plus false)) (y r) (z r) distinct_with (inl refl) (apart r p vs h.left h.fresh) w.0 w.1 (λ c. point_low_worth b c (a p) (y r) (z r) (z p) split.rest f))
    signed_left v i (inr m) (inl k) = rw (same v i m, ← kept v i m) (inl k)
    signed_left v i (inr m) (inr k) = rw (same v i m) (inr (signed_with g vs a n p r b d h less kept v (y v) (apart v p vs i h.fresh) k))

    signed_own : (IsEnd (n r) (y r) ⊎ IsSumWithout vs n r (y r)) → IsEnd (a p) (z p) ⊎ IsSumWithout (p ∷ vs) a p (z p)
    signed_own (inl k) = inl (extreme b (a r) (a p) (y r) (z r) (z p) split.row split.point split.rest (rw less at k)).1
    signed_own (inr k) = go split.least
      where
        go : ((z p ≡ (a p).low) ⊎ (z r ≡ end b (a r))) → IsEnd (a p) (z p) ⊎ IsSumWithout (p ∷ vs) a p (z p)
        go (inl f) = inl (false, f)
        go (inr f) =
            let w = signed_without g vs a n p r b d h less kept (y r) k in
            let t : IsSumWithout (p ∷ vs) a r (y r) = signed_with g vs a n p r b d h less kept r (y r) (apart r p vs h.left h.fresh) k in
            inr (with_end (p ∷ vs) a (not b) r p (row_end_choice b) (y r) (z p) distinct_with (inr h.left) (λ e. apart r p vs h.left h.fresh (sym e)) (record { choice = w.0.choice; free = w.1; is = w.0.is }) w.0.free (λ c. row_end_worth b c (a r) (y r) (z r) (z p) split.rest f))

    pub point_settles : AreVertexValues g (p ∷ vs) a z
    point_settles = record { within = within_all; meets = meets_all; signed = signed_all }
      where
        within_all : (v : ℕ) → IsIn v (p ∷ vs) → IsWithin (a v) (z v)
        within_all v (inl e) = rw e split.point
        within_all v (inr i) = within_left v i (cases_eq v r)

        meets_all : (q : ℕ) → IsIn q (p ∷ vs) → g.is_row q ≡ true → (c : Bool) → part c (z q) ≡ sum_over (p ∷ vs) (λ v. g.weigh q v *ℤ part c (z v))
        meets_all q (inl e) k c = absurd (false≢true (sym h.point ∙ rw e at k))
        meets_all q (inr i) k c = meets_left q c i k (cases_eq q r)

        signed_all : (v : ℕ) → IsIn v (p ∷ vs) → IsEnd (a v) (z v) ⊎ IsSumWithout (p ∷ vs) a v (z v)
        signed_all v (inl e) = rw e (signed_own (s.signed r h.left))
        signed_all v (inr i) = signed_left v i (cases_eq v r) (s.signed v i)

  module _ (x u : ℕ → ℤ) (k : Refutes g vs n x) (same : (v : ℕ) → IsIn v vs → u v ≡ x v) (own : u p ≡ number_with_sign (not b) (u r)) (units : (v : ℕ) → IsUnit (u v)) where
    rows_sum : (q : ℕ) → sum_over vs (λ v. g.weigh v q *ℤ u v) ≡ sum_over vs (λ v. g.weigh v q *ℤ x v)
    rows_sum q = sum_same vs _ _ (λ v i. rw (same v i))

    bounds_sum : (c : Bool) → sum_over (p ∷ vs) (λ v. bound c (u v) (a v)) ≡ sum_over vs (λ v. bound c (x v) (n v))
    bounds_sum c =
        let f : sum_over vs (λ v. bound c (u v) (a v)) +ℤ bound c (x r) (n r) ≡ sum_over vs (λ v. bound c (x v) (n v)) +ℤ bound c (u r) (a r) = sum_change vs r (λ v. bound c (u v) (a v)) (λ v. bound c (x v) (n v)) d h.left (λ v i m. rw (same v i, kept v i m)) in
        let e : bound c (x r) (n r) ≡ bound c (u r) (a r) +ℤ bound c (u p) (a p) = rw (own, less, ← same r h.left) (bound_less b c (u r) (a r) (a p) (units r)) in
        omega (arith, ints)

    pub point_contradicts : Refutes g (p ∷ vs) a u
    point_contradicts = record { unit = units; cancels = cancels_all; positive = rw (bounds_sum false, bounds_sum true) k.positive }
      where
        cancels_all : (q : ℕ) → IsIn q (p ∷ vs) → g.is_row q ≡ false → u q +ℤ sum_over (p ∷ vs) (λ v. g.weigh v q *ℤ u v) ≡ pos 0
        cancels_all q (inl e) o =
            let f : sum_over vs (λ v. g.weigh v p *ℤ u v) ≡ g.weigh r p *ℤ u r = sum_single vs r _ d h.left (λ v i m. no_weight _ _ (h.others v i m)) in
            let w : g.weigh r p *ℤ u r ≡ number_with_sign b (u r) = rw h.weight (weight_times b (u r)) in
            let m : g.weigh p p *ℤ u p ≡ pos 0 = no_weight _ _ (g.rows p p h.point) in
            let t : number_with_sign (not b) (u r) +ℤ number_with_sign b (u r) ≡ pos 0 = turns_cancel b (u r) in
            rw e (omega (arith, ints, own))
        cancels_all q (inr i) o =
            let f : x q +ℤ sum_over vs (λ v. g.weigh v q *ℤ x v) ≡ pos 0 = k.cancels q i o in
            let e : sum_over vs (λ v. g.weigh v q *ℤ u v) ≡ sum_over vs (λ v. g.weigh v q *ℤ x v) = rows_sum q in
            let m : g.weigh p q *ℤ u p ≡ pos 0 = no_weight _ _ (g.rows p q h.point) in
            let t : u q ≡ x q = same q i in
            omega (arith, ints)
