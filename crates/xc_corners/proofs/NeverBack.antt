-- No variable leaves and later enters while only lesser ones move besides.
use Rattle.std.proofs.Common.{◌≡◌, ◌≢◌, ℕ, suc, ◌<◌, Bool, true, false, cond, ℤ, pos, ◌*ℤ◌, ◌≤ℤ◌, ◌<ℤ◌, ◌⊎◌, inl, inr, ⊎_elim, refl, sym, ap, subst, ◌∙◌, arith}
use Rattle.std.proofs.lemmas.Int.{ints, by_lt_z}
use Rattle.std.proofs.lemmas.Bool.{cases_order}
use Rattle.xc_model.specs.Parts.{WholeParts}
use Rattle.xc_model.proofs.Integers.{mul_left_comm}
use Rattle.xc_model.proofs.Pairs.{pair_cases, same_pairs}
use Rattle.xc_corners.specs.Choices.{Leaves, Helps, Enters, Exchange, Moves}
use Rattle.xc_corners.specs.Corners.{variables, low_bound, high_bound, Corner, Factors, sum_for, IsSolvedForm, bound, value, IsWithin}
use Rattle.xc_corners.specs.Pairs.{◌≺◌, ◌≼◌, times}
use Rattle.xc_corners.specs.Problems.{WholeProblem}
use Rattle.xc_corners.proofs.Moves.{IsOpen, Keeps, Keeps_then, moves_keep, kept_basic, kept_high, left_high}
use Rattle.xc_corners.proofs.Pairs.{positive_pos, Ord, Ord_from_strict, StrictOrd, Ord_same, Ord_clash, times_le, times_lt, times_turn_le, times_turn_lt, times_times, antisymmetric}
use Rattle.xc_corners.proofs.Sums.{sum_same, sum_scale, pair_sum, pair_sum_lt}
use Rattle.xc_corners.proofs.Values.{spread_meets, spread_at_basic, value_at_other, bound_within, lesser_within}

-- ---- terms of a sum
abbrev pub limit : WholeProblem → Bool → ℕ → WholeParts
limit p false j = low_bound p j
limit p true j = high_bound p j

abbrev pub IsPastLimit : Bool → WholeParts → WholeParts → Type 0
IsPastLimit false a b = a ≺ b
IsPastLimit true a b = b ≺ a

helped : (s h : Bool) (f : ℤ) (a b : WholeParts) → Helps s h f → IsPastLimit h a b → StrictOrd s (times f a) (times f b)
helped false false f a b g k = times_lt f a b g k
helped false true f a b g k = times_turn_lt f b a g k
helped true false f a b g k = times_turn_lt f a b g k
helped true true f a b g k = times_lt f b a g k

pub at_most : (f : ℤ) → (pos 0 <ℤ f → ⊥) → f ≤ℤ pos 0
at_most f n = by_lt_z (pos 0) f (λ k. absurd (n k)) (λ k. k)

pub at_least : (f : ℤ) → (f <ℤ pos 0 → ⊥) → pos 0 ≤ℤ f
at_least f n = by_lt_z f (pos 0) (λ k. absurd (n k)) (λ k. k)

not_helped : (s h : Bool) (f d : ℤ) (a l g : WholeParts) → (Helps s h f → ⊥) → times d l ≼ a → a ≼ times d g → Ord s (times f a) (times f (times d (cond h g l)))
not_helped false false f d a l g n m k = times_turn_le f (times d l) a (at_most f n) m
not_helped false true f d a l g n m k = times_le f a (times d g) (at_least f n) k
not_helped true false f d a l g n m k = times_le f (times d l) a (at_least f n) m
not_helped true true f d a l g n m k = times_turn_le f a (times d g) (at_most f n) k

-- the term of j in the sum for b at u
abbrev term : Corner → Factors → ℕ → (ℕ → WholeParts) → ℕ → WholeParts
term u t b z j = record { real = cond (u.basic j) (pos 0) (t.factor b j *ℤ (z j).real); tiny = cond (u.basic j) (pos 0) (t.factor b j *ℤ (z j).tiny) }

term_at_basic : (u : Corner) (t : Factors) (b : ℕ) (z : ℕ → WholeParts) (j : ℕ) → u.basic j ≡ true → term u t b z j ≡ record { real = pos 0; tiny = pos 0 }
term_at_basic u t b z j e = rw e

term_at_other : (u : Corner) (t : Factors) (b : ℕ) (z : ℕ → WholeParts) (j : ℕ) → u.basic j ≡ false → term u t b z j ≡ times (t.factor b j) (z j)
term_at_other u t b z j e = rw e

-- the sum for b at u of the values at x, and of the bounds at u
sum_of_values : (p : WholeProblem) (x u : Corner) (tx tu : Factors) (b : ℕ) → IsSolvedForm p x tx → IsSolvedForm p u tu → b < variables p → u.basic b ≡ true → times (pos tu.over) (value p x tx b) ≡ pair_sum (variables p) (term u tu b (value p x tx))
unfolding value sum_for
sum_of_values p x u tx tu b f g h e = same_pairs _ _ (g.sums _ (spread_meets p x tx _ f) b h e) (g.sums _ (spread_meets p x tx _ f) b h e)

sum_of_bounds : (p : WholeProblem) (u : Corner) (t : Factors) (b : ℕ) → u.basic b ≡ true → value p u t b ≡ pair_sum (variables p) (term u t b (bound p u))
unfolding value sum_for
sum_of_bounds p u t b e = same_pairs _ _ (spread_at_basic p u t _ b e) (spread_at_basic p u t _ b e)

scaled_term : (d : ℤ) (u : Corner) (t : Factors) (b : ℕ) (z : ℕ → WholeParts) (j : ℕ) (s : Bool) → u.basic j ≡ s → times d (term u t b z j) ≡ term u t b (λ k. times d (z k)) j
scaled_term d u t b z j true e = rw e (same_pairs _ _ (omega (arith, ints)) (omega (arith, ints)))
scaled_term d u t b z j false e = rw e (same_pairs _ _ (mul_left_comm d (t.factor b j) (z j).real) (mul_left_comm d (t.factor b j) (z j).tiny))

scaled_sum : (n : ℕ) (d : ℤ) (u : Corner) (t : Factors) (b : ℕ) (z : ℕ → WholeParts) → times d (pair_sum n (term u t b z)) ≡ pair_sum n (term u t b (λ k. times d (z k)))
scaled_sum n d u t b z = same_pairs _ _
    (sum_scale n d _ ∙ sum_same n _ _ (λ j h. ap (λ (c : WholeParts). c.real) (scaled_term d u t b z j (u.basic j) refl)))
    (sum_scale n d _ ∙ sum_same n _ _ (λ j h. ap (λ (c : WholeParts). c.tiny) (scaled_term d u t b z j (u.basic j) refl)))

-- ---- r left at x, and enters at u in the place of b; from x to u only variables up to r moved
module _ (p : WholeProblem) (o : IsOpen p) (x u : Corner) (tx tu : Factors) (fx : IsSolvedForm p x tx) (fu : IsSolvedForm p u tu) (ax au : Bool) (r b : ℕ)
    (lx : Leaves p x tx ax r) (lu : Leaves p u tu au b) (eu : Enters p u tu au b r) (k : Keeps (suc r) x u) (hr : u.high r ≡ ax) (b_less : b < r) where
  at_bound : (j : ℕ) → WholeParts
  at_bound j = times (pos tx.over) (bound p u j)

  -- a variable less than r that is not basic at u
  lesser_free : (j : ℕ) → j < r → u.basic j ≡ false → low_bound p j ≢ high_bound p j → Ord au (times (tu.factor b j) (value p x tx j)) (times (tu.factor b j) (times (pos tx.over) (bound p u j)))
  unfolding bound
  lesser_free j h e n =
      let w : IsWithin p x tx j = lesser_within p x tx ax r j o lx h in
      let m : Helps au (u.high j) (tu.factor b j) → ⊥ = λ c. eu.least j h record { other = e; free = n; helps = c } in
      not_helped au (u.high j) (tu.factor b j) (pos tx.over) (value p x tx j) (low_bound p j) (high_bound p j) m w.0 w.1

  lesser_fixed : (j : ℕ) → j < r → low_bound p j ≡ high_bound p j → value p x tx j ≡ times (pos tx.over) (bound p u j)
  lesser_fixed j h e =
      let w : IsWithin p x tx j = lesser_within p x tx ax r j o lx h in
      let v : (low_bound p j ≼ bound p u j) × (bound p u j ≼ high_bound p j) = bound_within p u j (u.high j) refl (o j) in
      let same : bound p u j ≡ low_bound p j = antisymmetric _ _ (rw e v.1) v.0 in
      rw same (antisymmetric _ _ (rw e w.1) w.0)

  lesser_term : (j : ℕ) → j < r → u.basic j ≡ false → Ord au (times (tu.factor b j) (value p x tx j)) (times (tu.factor b j) (times (pos tx.over) (bound p u j)))
  lesser_term j h e = ⊎_elim
      (λ (c : low_bound p j ≡ high_bound p j). Ord_same au _ _ (ap (times (tu.factor b j)) (lesser_fixed j h c)))
      (λ (n : low_bound p j ≢ high_bound p j). lesser_free j h e n)
      (pair_cases (low_bound p j) (high_bound p j))

  -- a variable greater than r did not move
  greater_same : (j : ℕ) → r < j → u.basic j ≡ false → value p x tx j ≡ times (pos tx.over) (bound p u j)
  unfolding bound
  greater_same j h e = value_at_other p x tx j (sym (k.basic j h) ∙ e) ∙ ap (λ (s : Bool). times (pos tx.over) (cond s (high_bound p j) (low_bound p j))) (sym (k.high j h))

  -- r lies past the bound to which it went
  past_limit : (s : Bool) → ax ≡ s → IsPastLimit s (value p x tx r) (times (pos tx.over) (bound p u r))
  unfolding bound
  past_limit false e = rw (hr ∙ e) (rw e at lx.outside)
  past_limit true e = rw (hr ∙ e) (rw e at lx.outside)

  at_r : StrictOrd au (times (tu.factor b r) (value p x tx r)) (times (tu.factor b r) (at_bound r))
  unfolding at_bound
  at_r = helped au ax (tu.factor b r) (value p x tx r) (times (pos tx.over) (bound p u r)) (rw hr at eu.can.helps) (past_limit ax refl)

  each_other : (j : ℕ) → u.basic j ≡ false → Ord au (times (tu.factor b j) (value p x tx j)) (times (tu.factor b j) (at_bound j))
  unfolding at_bound
  each_other j e = go (cases_order j r)
    where
      go : ((j ≡ r) ⊎ ((j < r) ⊎ (r < j))) → Ord au (times (tu.factor b j) (value p x tx j)) (times (tu.factor b j) (times (pos tx.over) (bound p u j)))
      go (inl c) = rw c (Ord_from_strict au _ _ at_r)
      go (inr (inl c)) = lesser_term j c e
      go (inr (inr c)) = Ord_same au _ _ (ap (times (tu.factor b j)) (greater_same j c e))

  each_term : (j : ℕ) (s : Bool) → u.basic j ≡ s → Ord au (term u tu b (value p x tx) j) (term u tu b at_bound j)
  each_term j true e = rw (term_at_basic u tu b (value p x tx) j e, term_at_basic u tu b at_bound j e) (Ord_same au _ _ refl)
  each_term j false e = rw (term_at_other u tu b (value p x tx) j e, term_at_other u tu b at_bound j e) (each_other j e)

  sums : StrictOrd au (times (pos tu.over) (value p x tx b)) (times (pos tx.over) (value p u tu b))
  unfolding at_bound
  sums =
      let c : StrictOrd au (term u tu b (value p x tx) r) (term u tu b at_bound r) = rw (term_at_other u tu b (value p x tx) r eu.can.other, term_at_other u tu b at_bound r eu.can.other) at_r in
      let l : StrictOrd au (pair_sum (variables p) (term u tu b (value p x tx))) (pair_sum (variables p) (term u tu b at_bound)) = pair_sum_lt au (variables p) r _ _ (λ j h. each_term j (u.basic j) refl) eu.is_variable c in
      rw (sum_of_values p x u tx tu b fx fu lu.is_variable lu.basic, sum_of_bounds p u tu b lu.basic, scaled_sum (variables p) (pos tx.over) u tu b (bound p u)) l

  clash : (s : Bool) → au ≡ s → ⊥
  clash false e =
      let w : IsWithin p x tx b = lesser_within p x tx ax r b o lx b_less in
      let first : times (pos tu.over) (value p x tx b) ≺ times (pos tx.over) (value p u tu b) = rw e at sums in
      let past : value p u tu b ≺ times (pos tu.over) (low_bound p b) = rw e at lu.outside in
      Ord_clash false _ _ _ first (times_lt (pos tx.over) _ _ (positive_pos tx.over fx.positive) past)
      (subst (λ (c : WholeParts). c ≼ times (pos tu.over) (value p x tx b)) (times_times (pos tu.over) (pos tx.over) (low_bound p b)) (times_le (pos tu.over) _ _ (omega (arith, ints)) w.0))
  clash true e =
      let w : IsWithin p x tx b = lesser_within p x tx ax r b o lx b_less in
      let first : times (pos tx.over) (value p u tu b) ≺ times (pos tu.over) (value p x tx b) = rw e at sums in
      let past : times (pos tu.over) (high_bound p b) ≺ value p u tu b = rw e at lu.outside in
      Ord_clash true _ _ _ first (times_lt (pos tx.over) _ _ (positive_pos tx.over fx.positive) past)
      (subst (λ (c : WholeParts). times (pos tu.over) (value p x tx b) ≼ c) (times_times (pos tu.over) (pos tx.over) (high_bound p b)) (times_le (pos tu.over) _ _ (omega (arith, ints)) w.1))

-- r leaves at x, and later enters at u, and besides only lesser variables move: that cannot be
pub never_back : (p : WholeProblem) → IsOpen p → (r n : ℕ) (x y u w : Corner) (q b : ℕ) → Exchange p x r q y → q < r → Moves p r n y u → Exchange p u b r w → b < r → ⊥
never_back p o r n x y u w q b e h m f k =
    let apart : r ≡ q → ⊥ = omega arith in
    let first : Keeps (suc r) x y = rw e.next record {
      basic = λ j l. kept_basic p x e.above r q j (omega arith) (omega arith);
      high = λ j l. kept_high p x e.above r q j (omega arith) (omega arith);
    } in
    let rest : Keeps r y u = moves_keep p r n y u m in
    let all : Keeps (suc r) x u = Keeps_then (suc r) x y u first record { basic = λ j l. rest.basic j (omega arith); high = λ j l. rest.high j (omega arith) } in
    let side : u.high r ≡ e.above = rest.high r (omega arith) ∙ ap (λ (c : Corner). c.high r) e.next ∙ left_high p x e.above r q apart f.enters.can.free in
    clash p o x u e.factors f.factors e.solved f.solved e.above f.above r b e.leaves f.leaves f.enters all side k f.above refl
