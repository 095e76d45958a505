-- A run has fewer exchanges than there are ways to place the variables on a low side, on a high side or among the basic ones.
use Rattle.std.proofs.Common.{◌≡◌, ℕ, zero, suc, ◌+◌, ◌*◌, ◌^◌, ◌<◌, ◌≤◌, true, false, ◌⊎◌, inl, inr, ⊎_elim, refl, sym, ap, ◌∙◌, arith}
use Rattle.std.proofs.lemmas.Bool.{cases_eq, cases_order, false≢true}
use Rattle.xc_corners.specs.Choices.{Exchange, Moves, Exchanges}
use Rattle.xc_corners.specs.Corners.{variables, Corner}
use Rattle.xc_corners.specs.Problems.{WholeProblem, IsWholeProblem}
use Rattle.xc_corners.proofs.Moves.{IsOpen, open_from_problem, moves_keep, left_basic, entered_basic}
use Rattle.xc_corners.proofs.NeverBack.{never_back}

-- a part of a run either moves variables below r alone, or does so up to its first exchange that moves r
pub record Splits (p : WholeProblem) (r n : ℕ) (x y : Corner) : Type 0 where
  pub before : ℕ
  pub after : ℕ
  pub counts : n ≡ before + (1 + after)
  pub at : Corner
  pub then : Corner
  pub b : ℕ
  pub q : ℕ
  pub to_it : Moves p r before x at
  pub exchange : Exchange p at b q then
  pub b_upto : b ≤ r
  pub q_upto : q ≤ r
  pub moves_it : (b ≡ r) ⊎ (q ≡ r)
  pub from_it : Moves p (suc r) after then y

pub split : (p : WholeProblem) (r n : ℕ) (x y : Corner) → Moves p (suc r) n x y → Moves p r n x y ⊎ Splits p r n x y
split p r zero x y m = inl m
split p r (suc n) x y (z, b, q, e, h, k, m) = go (cases_order b r) (cases_order q r) (split p r n z y m)
  where
    go : ((b ≡ r) ⊎ ((b < r) ⊎ (r < b))) → ((q ≡ r) ⊎ ((q < r) ⊎ (r < q))) → (Moves p r n z y ⊎ Splits p r n z y) → Moves p r (suc n) x y ⊎ Splits p r (suc n) x y
    go (inl c) d s = inr record { before = 0; after = n; counts = omega arith; at = x; then = z; b = b; q = q; to_it = refl; exchange = e; b_upto = omega arith; q_upto = omega arith; moves_it = inl c; from_it = m }
    go c (inl d) s = inr record { before = 0; after = n; counts = omega arith; at = x; then = z; b = b; q = q; to_it = refl; exchange = e; b_upto = omega arith; q_upto = omega arith; moves_it = inr d; from_it = m }
    go (inr (inr c)) d s = absurd (omega arith)
    go c (inr (inr d)) s = absurd (omega arith)
    go (inr (inl c)) (inr (inl d)) (inl s) = inl (z, b, q, e, c, d, s)
    go (inr (inl c)) (inr (inl d)) (inr s) = inr record { before = suc s.before; after = s.after; counts = omega (arith, s.counts); at = s.at; then = s.then; b = s.b; q = s.q; to_it = (z, b, q, e, c, d, s.to_it); exchange = s.exchange; b_upto = s.b_upto; q_upto = s.q_upto; moves_it = s.moves_it; from_it = s.from_it }

-- after r left, it doesn't move again
pub after_left : (p : WholeProblem) → IsOpen p → (r n : ℕ) (x y z : Corner) (q : ℕ) → Exchange p x r q y → q < r → Moves p (suc r) n y z → Moves p r n y z
after_left p o r n x y z q e h m = go (split p r n y z m)
  where
    out : y.basic r ≡ false
    out = ap (λ (c : Corner). c.basic r) e.next ∙ left_basic p x e.above r q (omega arith)

    enters_again : (s : Splits p r n y z) → s.q ≡ r → s.b < r → ⊥
    enters_again s d k = never_back p o r s.before x y s.at s.then q s.b e h s.to_it (rw d at s.exchange) k

    leaves_again : (s : Splits p r n y z) → s.b ≡ r → ⊥
    leaves_again s d = false≢true (sym out ∙ sym ((moves_keep p r s.before y s.at s.to_it).basic r (omega arith)) ∙ (rw d at s.exchange.leaves.basic))

    go : (Moves p r n y z ⊎ Splits p r n y z) → Moves p r n y z
    go (inl k) = k
    go (inr s) = absurd (⊎_elim (leaves_again s) (λ (d : s.q ≡ r). ⊎_elim (leaves_again s) (λ (c : s.b ≡ r → ⊥). enters_again s d (omega (arith, s.b_upto))) (cases_eq s.b r)) s.moves_it)

-- where parts in which variables below r move have fewer than m exchanges
module _ (p : WholeProblem) (o : IsOpen p) (r m : ℕ) (few : (n : ℕ) (x y : Corner) → Moves p r n x y → n < m) where
  leaves_part : (n : ℕ) (x y : Corner) (s : Splits p r n x y) → s.b ≡ r → n < 2 * m
  leaves_part n x y s d =
      let e : Exchange p s.at r s.q s.then = rw d at s.exchange in
      let apart : s.q ≡ r → ⊥ = λ c. false≢true (sym (rw c at e.enters.can.other) ∙ e.leaves.basic) in
      let after : s.after < m = few s.after s.then y (after_left p o r s.after s.at s.then y s.q e (omega (arith, s.q_upto)) s.from_it) in
      let before : s.before < m = few s.before x s.at s.to_it in
      omega (arith, s.counts)

  basic_part : (n : ℕ) (x y : Corner) → x.basic r ≡ true → Moves p (suc r) n x y → n < 2 * m
  basic_part n x y e k = go (split p r n x y k)
    where
      go : (Moves p r n x y ⊎ Splits p r n x y) → n < 2 * m
      go (inl l) = omega (arith, few n x y l)
      go (inr s) = ⊎_elim (leaves_part n x y s)
          (λ (c : s.q ≡ r). absurd (false≢true (sym (rw c at s.exchange.enters.can.other) ∙ (moves_keep p r s.before x s.at s.to_it).basic r (omega arith) ∙ e)))
          s.moves_it

  any_part : (n : ℕ) (x y : Corner) → Moves p (suc r) n x y → n < 3 * m
  any_part n x y k = go (split p r n x y k)
    where
      enters_part : (s : Splits p r n x y) → s.q ≡ r → n < 3 * m
      enters_part s d =
          let e : Exchange p s.at s.b r s.then = rw d at s.exchange in
          let in_it : s.then.basic r ≡ true = ap (λ (c : Corner). c.basic r) e.next ∙ entered_basic p s.at e.above s.b r in
          let after : s.after < 2 * m = basic_part s.after s.then y in_it s.from_it in
          let before : s.before < m = few s.before x s.at s.to_it in
          omega (arith, s.counts)

      go : (Moves p r n x y ⊎ Splits p r n x y) → n < 3 * m
      go (inl l) = omega (arith, few n x y l)
      go (inr s) = ⊎_elim (λ (d : s.b ≡ r). omega (arith, leaves_part n x y s d)) (enters_part s) s.moves_it

pub few_moves : (p : WholeProblem) → IsOpen p → (r n : ℕ) (x y : Corner) → Moves p r n x y → n < 3 ^ r
few_moves p o zero zero x y m = omega arith
few_moves p o zero (suc n) x y (z, b, q, e, h, k, m) = absurd (omega arith)
few_moves p o (suc r) n x y m = omega (arith, any_part p o r (3 ^ r) (few_moves p o r) n x y m)

-- in a run any variable may move
pub moves_from_exchanges : (p : WholeProblem) (n : ℕ) (x y : Corner) → Exchanges p n x y → Moves p (variables p) n x y
moves_from_exchanges p zero x y e = e
moves_from_exchanges p (suc n) x y (z, b, q, e, es) = (z, b, q, e, e.leaves.is_variable, e.enters.is_variable, moves_from_exchanges p n z y es)

pub few_exchanges : (p : WholeProblem) → IsWholeProblem p → (n : ℕ) (x y : Corner) → Exchanges p n x y → n < 3 ^ variables p
few_exchanges p h n x y e = few_moves p (open_from_problem p h) (variables p) n x y (moves_from_exchanges p n x y e)

-- where only variables up to r move, r doesn't leave and later enter
pub not_back : (p : WholeProblem) → IsWholeProblem p → (r n : ℕ) (x y u w : Corner) (q b : ℕ) → Exchange p x r q y → Moves p (suc r) n y u → Exchange p u b r w → q ≤ r → b ≤ r → ⊥
not_back p h r n x y u w q b e m f k l =
    let q_apart : q ≡ r → ⊥ = λ c. false≢true (sym (rw c at e.enters.can.other) ∙ e.leaves.basic) in
    let b_apart : b ≡ r → ⊥ = λ c. false≢true (sym f.enters.can.other ∙ (rw c at f.leaves.basic)) in
    let o : IsOpen p = open_from_problem p h in
    let less : q < r = omega arith in
    never_back p o r n x y u w q b e less (after_left p o r n x y u q e less m) f (omega arith)
