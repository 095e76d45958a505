-- What a row that has one point left adds to the values and the multipliers of the others.
use Rattle.std.specs.Prelude.{if◌then◌else◌}
use Rattle.std.proofs.Common.{◌≡◌, ◌≢◌, ℕ, Bool, true, false, List, ◌∷◌, ℤ, pos, neg_ℤ, ◌+ℤ◌, ◌*ℤ◌, ◌⊎◌, inl, inr, refl, sym, arith, ap, ◌∙◌}
use Rattle.std.proofs.lemmas.Int.{ints}
use Rattle.std.proofs.lemmas.Bool.{cases_eq, false≢true}
use Rattle.xc_model.specs.Parts.{WholeParts}
use Rattle.xc_model.proofs.Pairs.{same_pairs}
use Rattle.xc_forest.specs.Forests.{Choice, Neither, Plus, Minus, number_with_sign, IsUnit}
use Rattle.xc_lists.specs.Members.{IsIn, IsOnce}
use Rattle.xc_forest.specs.Steps.Vertices.{sum_over, part, Span, end, IsWithin, worth, span_with_sign, Graph, IsSumWithout, IsEnd, IsMeet, IsLeafRow, AreVertexValues, Refutes, bound}
use Rattle.xc_forest.proofs.PairOrder.{le_le}
use Rattle.xc_forest.proofs.Sums.{sum_same, sum_zero, sum_single, sum_change, apart}
use Rattle.xc_forest.proofs.Points.{signed, worth_signed, with_end, put, put_same, put_other}
use Rattle.xc_forest.proofs.PointSteps.{weight_times, no_weight}

-- ---- sums of no end and of one
pub no_ends : (vs : List ℕ) (a : ℕ → Span) (v : ℕ) (x : WholeParts) → ((c : Bool) → part c x ≡ pos 0) → IsSumWithout vs a v x
no_ends vs a v x h = record { choice = λ u. Neither; free = refl; is = λ c. h c ∙ sym (sum_zero vs (λ u. pos 0) (λ u i. refl)) }

zero_pair : WholeParts
zero_pair = record { real = pos 0; tiny = pos 0 }

zero_parts : (c : Bool) → part c zero_pair ≡ pos 0
unfolding zero_pair
zero_parts false = refl
zero_parts true = refl

pub one_end : (vs : List ℕ) (a : ℕ → Span) (r v : ℕ) (k : Choice) (y : WholeParts) → IsOnce vs → IsIn r vs → v ≢ r → ((c : Bool) → part c y ≡ worth c k (a r)) → IsSumWithout vs a v y
unfolding no_ends
one_end vs a r v k y d i n h = with_end vs a false r v k zero_pair y d i n (no_ends vs a r zero_pair zero_parts) refl (λ c. h c ∙ (let z : part c zero_pair ≡ pos 0 = zero_parts c in omega (arith, ints)))

-- ---- the ends of a meet
-- which ends of x and y stand for a choice of the meet
pub record IsTaken (b : Bool) (x y m : Span) (k j i : Choice) : Type 0 where
  pub none : k ≡ Neither → (j ≡ Neither) × (i ≡ Neither)
  pub is : (c : Bool) → worth c k m ≡ worth c j x +ℤ worth c i y

plus_ne : (e : Bool) → Plus e ≡ Neither → ⊥
plus_ne e h = cc

minus_ne : (e : Bool) → Minus e ≡ Neither → ⊥
minus_ne e h = cc

-- the end of y that an end of weight times y is, with its sign
abbrev crossed : Bool → Bool → Choice
crossed false e = Plus e
crossed true false = Minus true
crossed true true = Minus false

crossed_worth : (b c e : Bool) (y : Span) → part c (end e (span_with_sign b y)) ≡ worth c (crossed b e) y
crossed_worth false c e y = refl
crossed_worth true false false y = refl
crossed_worth true false true y = refl
crossed_worth true true false y = refl
crossed_worth true true true y = refl

either : (second : Bool) (x y m : WholeParts) → m ≡ (if second then y else x) → (m ≡ x) ⊎ (m ≡ y)
either false x y m e = inl e
either true x y m e = inr e

pub source : (lo hi : Bool) (x y m : Span) (e : Bool) → IsMeet lo hi x y m → (end e m ≡ end e x) ⊎ (end e m ≡ end e y)
source lo hi x y m false h = either lo x.low y.low m.low h.low
source lo hi x y m true h = either hi x.high y.high m.high h.high

pub taken : (lo hi b : Bool) (x y m : Span) (k : Choice) → IsMeet lo hi x (span_with_sign b y) m → (j : Choice) × (i : Choice) × IsTaken b x y m k j i
taken lo hi b x y m Neither h = (Neither, Neither, record { none = λ e. (refl, refl); is = λ c. refl })
taken lo hi b x y m (Plus e) h = go (source lo hi x (span_with_sign b y) m e h)
  where
    go : ((end e m ≡ end e x) ⊎ (end e m ≡ end e (span_with_sign b y))) → (j : Choice) × (i : Choice) × IsTaken b x y m (Plus e) j i
    go (inl q) = (Plus e, Neither, record { none = λ f. absurd (plus_ne e f); is = λ c. let z : part c (end e m) ≡ part c (end e x) = ap (part c) q in omega (arith, ints) })
    go (inr q) = (Neither, crossed b e, record { none = λ f. absurd (plus_ne e f); is = λ c. let z : part c (end e m) ≡ worth c (crossed b e) y = ap (part c) q ∙ crossed_worth b c e y in omega (arith, ints) })
taken lo hi b x y m (Minus e) h = go (source lo hi x (span_with_sign b y) m e h)
  where
    go : ((end e m ≡ end e x) ⊎ (end e m ≡ end e (span_with_sign b y))) → (j : Choice) × (i : Choice) × IsTaken b x y m (Minus e) j i
    go (inl q) = (Minus e, Neither, record { none = λ f. absurd (minus_ne e f); is = λ c. let z : part c (end e m) ≡ part c (end e x) = ap (part c) q in omega (arith, ints) })
    go (inr q) = (Neither, signed true (crossed b e), record { none = λ f. absurd (minus_ne e f); is = λ c. let z : part c (end e m) ≡ worth c (crossed b e) y = ap (part c) q ∙ crossed_worth b c e y in let w : worth c (signed true (crossed b e)) y ≡ neg_ℤ (worth c (crossed b e) y) = worth_signed c true (crossed b e) y in omega (arith, ints) })

-- ---- within
turned_within : (b : Bool) (y : Span) (x z : WholeParts) → IsWithin (span_with_sign b y) x → ((c : Bool) → part c z ≡ number_with_sign b (part c x)) → IsWithin y z
turned_within false y x z h e = let f : z.real ≡ x.real = e false in let k : z.tiny ≡ x.tiny = e true in record { low = grind (arith, ints); high = grind (arith, ints) }
turned_within true y x z h e = let f : z.real ≡ neg_ℤ x.real = e false in let k : z.tiny ≡ neg_ℤ x.tiny = e true in record { low = grind (arith, ints); high = grind (arith, ints) }

turned_end : (b e : Bool) (y : Span) (x z : WholeParts) → x ≡ end e (span_with_sign b y) → ((c : Bool) → part c z ≡ number_with_sign b (part c x)) → IsEnd y z
turned_end false e y x z h f = (e, same_pairs _ _ (f false ∙ ap (λ (v : WholeParts). v.real) h) (f true ∙ ap (λ (v : WholeParts). v.tiny) h))
turned_end true false y x z h f = (true, same_pairs _ _ (let q : x.real ≡ neg_ℤ y.high.real = ap (λ (v : WholeParts). v.real) h in let k : z.real ≡ neg_ℤ x.real = f false in omega (arith, ints)) (let q : x.tiny ≡ neg_ℤ y.high.tiny = ap (λ (v : WholeParts). v.tiny) h in let k : z.tiny ≡ neg_ℤ x.tiny = f true in omega (arith, ints)))
turned_end true true y x z h f = (false, same_pairs _ _ (let q : x.real ≡ neg_ℤ y.low.real = ap (λ (v : WholeParts). v.real) h in let k : z.real ≡ neg_ℤ x.real = f false in omega (arith, ints)) (let q : x.tiny ≡ neg_ℤ y.low.tiny = ap (λ (v : WholeParts). v.tiny) h in let k : z.tiny ≡ neg_ℤ x.tiny = f true in omega (arith, ints)))

-- ---- a row is taken away
module _ (g : Graph) (vs : List ℕ) (a n : ℕ → Span) (r p : ℕ) (b lo hi : Bool) (d : IsOnce vs) (h : IsLeafRow g vs r p b) (met : IsMeet lo hi (a p) (span_with_sign b (a r)) (n p)) (kept : (v : ℕ) → IsIn v vs → v ≢ p → n v ≡ a v) where
  distinct_with : IsOnce (r ∷ vs)
  distinct_with = (h.fresh, d)

  pub sum_with : (c : Bool) (k : ℕ → Choice) (j i : Choice) → IsTaken b (a p) (a r) (n p) (k p) j i → sum_over vs (λ u. worth c (k u) (n u)) ≡ sum_over (r ∷ vs) (λ u. worth c (put r i (put p j k) u) (a u))
  sum_with c k j i t =
      let e : sum_over vs (λ u. worth c (put r i (put p j k) u) (a u)) ≡ sum_over vs (λ u. worth c (put p j k u) (a u)) = sum_same vs _ _ (λ u l. rw (put_other r u i (put p j k) (apart u r vs l h.fresh))) in
      let f : sum_over vs (λ u. worth c (k u) (n u)) +ℤ worth c (put p j k p) (a p) ≡ sum_over vs (λ u. worth c (put p j k u) (a u)) +ℤ worth c (k p) (n p) = sum_change vs p (λ u. worth c (k u) (n u)) (λ u. worth c (put p j k u) (a u)) d h.left (λ u l m. rw (kept u l m, put_other p u j k m)) in
      let w : worth c (k p) (n p) ≡ worth c j (a p) +ℤ worth c i (a r) = t.is c in
      let q : worth c (put r i (put p j k) r) (a r) ≡ worth c i (a r) = rw (put_same r i (put p j k)) in
      let o : worth c (put p j k p) (a p) ≡ worth c j (a p) = rw (put_same p j k) in
      omega (arith, ints)

  signed_with : (v : ℕ) (x : WholeParts) → v ≢ r → ((v ≡ p) ⊎ (v ≡ p → ⊥)) → IsSumWithout vs n v x → IsSumWithout (r ∷ vs) a v x
  signed_with v x m o s =
      let t = taken lo hi b (a p) (a r) (n p) (s.choice p) met in
      record {
        choice = put r t.1 (put p t.0 s.choice);
        free = put_other r v t.1 (put p t.0 s.choice) m ∙ go t.0 t.1 t.2 o;
        is = λ c. s.is c ∙ sum_with c s.choice t.0 t.1 t.2;
      }
    where
      go : (j i : Choice) → IsTaken b (a p) (a r) (n p) (s.choice p) j i → ((v ≡ p) ⊎ (v ≡ p → ⊥)) → put p j s.choice v ≡ Neither
      go j i t (inl e) = rw e (put_same p j s.choice ∙ (t.none (rw e at s.free)).0)
      go j i t (inr e) = put_other p v j s.choice e ∙ s.free

  -- a sum without the point is one in which the row does not stand either
  signed_without : (x : WholeParts) → IsSumWithout vs n p x → (s : IsSumWithout (r ∷ vs) a p x) × (s.choice r ≡ Neither)
  signed_without x s =
      let t = taken lo hi b (a p) (a r) (n p) (s.choice p) met in
      let o = t.2.none s.free in (
        record {
          choice = put r t.1 (put p t.0 s.choice);
          free = put_other r p t.1 (put p t.0 s.choice) (apart p r vs h.left h.fresh) ∙ (put_same p t.0 s.choice ∙ o.0);
          is = λ c. s.is c ∙ sum_with c s.choice t.0 t.1 t.2;
        },
        put_same r t.1 (put p t.0 s.choice) ∙ o.1,
      )

  module _ (y z : ℕ → WholeParts) (s : AreVertexValues g vs n y) (same : (v : ℕ) → IsIn v vs → z v ≡ y v) (own : (c : Bool) → part c (z r) ≡ number_with_sign b (part c (z p))) where
    within_point : IsWithin (a p) (z p)
    within_point = let w : IsWithin (n p) (y p) = s.within p h.left in rw (same p h.left) (record { low = le_le _ _ _ met.above_first w.low; high = le_le _ _ _ w.high met.below_first })

    within_row : IsWithin (a r) (z r)
    within_row =
        let w : IsWithin (n p) (y p) = s.within p h.left in
        let k : IsWithin (span_with_sign b (a r)) (z p) = rw (same p h.left) (record { low = le_le _ _ _ met.above_second w.low; high = le_le _ _ _ w.high met.below_second }) in
        turned_within b (a r) (z p) (z r) k own

    within_left : (v : ℕ) → IsIn v vs → ((v ≡ p) ⊎ (v ≡ p → ⊥)) → IsWithin (a v) (z v)
    within_left v i (inl e) = rw e within_point
    within_left v i (inr m) = rw (same v i, ← kept v i m) (s.within v i)

    signed_point : (IsEnd (n p) (y p) ⊎ IsSumWithout vs n p (y p)) → IsEnd (a p) (z p) ⊎ IsSumWithout (r ∷ vs) a p (z p)
    signed_point (inr k) = rw (same p h.left) (inr (signed_with p (y p) (apart p r vs h.left h.fresh) (inl refl) k))
    signed_point (inl k) = rw (same p h.left) (go (source lo hi (a p) (span_with_sign b (a r)) (n p) k.0 met))
      where
        go : ((end k.0 (n p) ≡ end k.0 (a p)) ⊎ (end k.0 (n p) ≡ end k.0 (span_with_sign b (a r)))) → IsEnd (a p) (y p) ⊎ IsSumWithout (r ∷ vs) a p (y p)
        go (inl e) = inl (k.0, k.1 ∙ e)
        go (inr e) = inr (one_end (r ∷ vs) a r p (crossed b k.0) (y p) distinct_with (inl refl) (apart p r vs h.left h.fresh) (λ c. ap (part c) (k.1 ∙ e) ∙ crossed_worth b c k.0 (a r)))

    signed_row : (IsEnd (n p) (y p) ⊎ IsSumWithout vs n p (y p)) → IsEnd (a r) (z r) ⊎ IsSumWithout (r ∷ vs) a r (z r)
    signed_row (inr k) =
        let w = signed_without (y p) k in
        inr (with_end (r ∷ vs) a b p r Neither (y p) (z r) distinct_with (inr h.left) (λ e. apart p r vs h.left h.fresh (sym e)) w.0 w.1 (λ c. own c ∙ (ap (λ (v : WholeParts). number_with_sign b (part c v)) (same p h.left) ∙ omega (arith, ints))))
    signed_row (inl k) = go (source lo hi (a p) (span_with_sign b (a r)) (n p) k.0 met)
      where
        go : ((end k.0 (n p) ≡ end k.0 (a p)) ⊎ (end k.0 (n p) ≡ end k.0 (span_with_sign b (a r)))) → IsEnd (a r) (z r) ⊎ IsSumWithout (r ∷ vs) a r (z r)
        go (inl e) = inr (one_end (r ∷ vs) a p r (signed b (Plus k.0)) (z r) distinct_with (inr h.left) (λ q. apart p r vs h.left h.fresh (sym q)) (λ c. own c ∙ (ap (λ (v : WholeParts). number_with_sign b (part c v)) (same p h.left ∙ (k.1 ∙ e)) ∙ sym (worth_signed c b (Plus k.0) (a p)))))
        go (inr e) = inl (turned_end b k.0 (a r) (z p) (z r) (same p h.left ∙ (k.1 ∙ e)) own)

    signed_left : (v : ℕ) → IsIn v vs → ((v ≡ p) ⊎ (v ≡ p → ⊥)) → (IsEnd (n v) (y v) ⊎ IsSumWithout vs n v (y v)) → IsEnd (a v) (z v) ⊎ IsSumWithout (r ∷ vs) a v (z v)
    signed_left v i (inl e) k = rw e (signed_point (rw e at k))
    signed_left v i (inr m) (inl k) = rw (same v i, ← kept v i m) (inl k)
    signed_left v i (inr m) (inr k) = rw (same v i) (inr (signed_with v (y v) (apart v r vs i h.fresh) (inr m) k))

    meets_row : (c : Bool) → part c (z r) ≡ g.weigh r r *ℤ part c (z r) +ℤ sum_over vs (λ v. g.weigh r v *ℤ part c (z v))
    meets_row c =
        let o : g.weigh r r *ℤ part c (z r) ≡ pos 0 = no_weight _ _ (g.points r r h.row) in
        let e : sum_over vs (λ v. g.weigh r v *ℤ part c (z v)) ≡ g.weigh r p *ℤ part c (z p) = sum_single vs p _ d h.left (λ v i m. no_weight _ _ (h.others v i m)) in
        let f : g.weigh r p *ℤ part c (z p) ≡ number_with_sign b (part c (z p)) = rw h.weight (weight_times b (part c (z p))) in
        let k : part c (z r) ≡ number_with_sign b (part c (z p)) = own c in
        omega (arith, ints)

    meets_left : (q : ℕ) (c : Bool) → IsIn q vs → g.is_row q ≡ true → part c (z q) ≡ g.weigh q r *ℤ part c (z r) +ℤ sum_over vs (λ v. g.weigh q v *ℤ part c (z v))
    meets_left q c i k =
        let o : g.weigh q r *ℤ part c (z r) ≡ pos 0 = no_weight _ _ (g.points q r h.row) in
        let e : sum_over vs (λ v. g.weigh q v *ℤ part c (z v)) ≡ sum_over vs (λ v. g.weigh q v *ℤ part c (y v)) = sum_same vs _ _ (λ v j. rw (same v j)) in
        let f : part c (z q) ≡ sum_over vs (λ v. g.weigh q v *ℤ part c (y v)) = ap (part c) (same q i) ∙ s.meets q i k c in
        omega (arith, ints)

    pub row_settles : AreVertexValues g (r ∷ vs) a z
    row_settles = record { within = within_all; meets = meets_all; signed = signed_all }
      where
        within_all : (v : ℕ) → IsIn v (r ∷ vs) → IsWithin (a v) (z v)
        within_all v (inl e) = rw e within_row
        within_all v (inr i) = within_left v i (cases_eq v p)

        meets_all : (q : ℕ) → IsIn q (r ∷ vs) → g.is_row q ≡ true → (c : Bool) → part c (z q) ≡ sum_over (r ∷ vs) (λ v. g.weigh q v *ℤ part c (z v))
        meets_all q (inl e) k c = rw e (meets_row c)
        meets_all q (inr i) k c = meets_left q c i k

        signed_all : (v : ℕ) → IsIn v (r ∷ vs) → IsEnd (a v) (z v) ⊎ IsSumWithout (r ∷ vs) a v (z v)
        signed_all v (inl e) = rw e (signed_row (s.signed p h.left))
        signed_all v (inr i) = signed_left v i (cases_eq v p) (s.signed v i)

  module _ (x u : ℕ → ℤ) (k : Refutes g vs n x) (same : (v : ℕ) → IsIn v vs → v ≢ p → u v ≡ x v) (balance : u p +ℤ number_with_sign b (u r) ≡ x p) (ends : (c : Bool) → bound c (x p) (n p) ≡ bound c (u p) (a p) +ℤ bound c (u r) (a r)) (units : (v : ℕ) → IsUnit (u v)) where
    bounds_sum : (c : Bool) → sum_over (r ∷ vs) (λ v. bound c (u v) (a v)) ≡ sum_over vs (λ v. bound c (x v) (n v))
    bounds_sum c =
        let f : sum_over vs (λ v. bound c (u v) (a v)) +ℤ bound c (x p) (n p) ≡ sum_over vs (λ v. bound c (x v) (n v)) +ℤ bound c (u p) (a p) = sum_change vs p (λ v. bound c (u v) (a v)) (λ v. bound c (x v) (n v)) d h.left (λ v i m. rw (same v i m, kept v i m)) in
        omega (arith, ints, ends c)

    rows_sum : (q : ℕ) → sum_over vs (λ v. g.weigh v q *ℤ u v) ≡ sum_over vs (λ v. g.weigh v q *ℤ x v)
    rows_sum q = sum_same vs _ _ (λ v i. go v i (cases_eq v p))
      where
        go : (v : ℕ) → IsIn v vs → ((v ≡ p) ⊎ (v ≡ p → ⊥)) → g.weigh v q *ℤ u v ≡ g.weigh v q *ℤ x v
        go v i (inl e) = let m : g.weigh v q ≡ pos 0 = rw e (g.rows p q h.point) in no_weight _ _ m ∙ sym (no_weight _ _ m)
        go v i (inr e) = rw (same v i e)

    cancels_left : (q : ℕ) → IsIn q vs → g.is_row q ≡ false → ((q ≡ p) ⊎ (q ≡ p → ⊥)) → u q +ℤ (g.weigh r q *ℤ u r +ℤ sum_over vs (λ v. g.weigh v q *ℤ u v)) ≡ pos 0
    cancels_left q i o (inl e) =
        let f : x p +ℤ sum_over vs (λ v. g.weigh v p *ℤ x v) ≡ pos 0 = k.cancels p h.left h.point in
        let w : sum_over vs (λ v. g.weigh v p *ℤ u v) ≡ sum_over vs (λ v. g.weigh v p *ℤ x v) = rows_sum p in
        let m : g.weigh r p *ℤ u r ≡ number_with_sign b (u r) = rw h.weight (weight_times b (u r)) in
        rw e (omega (arith, ints, balance))
    cancels_left q i o (inr e) =
        let f : x q +ℤ sum_over vs (λ v. g.weigh v q *ℤ x v) ≡ pos 0 = k.cancels q i o in
        let w : sum_over vs (λ v. g.weigh v q *ℤ u v) ≡ sum_over vs (λ v. g.weigh v q *ℤ x v) = rows_sum q in
        let m : g.weigh r q *ℤ u r ≡ pos 0 = no_weight _ _ (h.others q i e) in
        let t : u q ≡ x q = same q i e in
        omega (arith, ints)

    pub row_contradicts : Refutes g (r ∷ vs) a u
    row_contradicts = record { unit = units; cancels = cancels_all; positive = rw (bounds_sum false, bounds_sum true) k.positive }
      where
        cancels_all : (q : ℕ) → IsIn q (r ∷ vs) → g.is_row q ≡ false → u q +ℤ sum_over (r ∷ vs) (λ v. g.weigh v q *ℤ u v) ≡ pos 0
        cancels_all q (inl e) o = absurd (false≢true (sym o ∙ rw e h.row))
        cancels_all q (inr i) o = cancels_left q i o (cases_eq q p)
