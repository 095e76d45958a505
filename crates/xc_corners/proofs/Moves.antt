-- What an exchange changes, and what a part of a run leaves as it was.
use Rattle.std.proofs.Common.{◌≡◌, ◌≢◌, ℕ, zero, suc, ◌<◌, ◌≤◌, Bool, true, false, ◌&&◌, ◌⊎◌, inl, inr, refl, ◌∙◌, arith, length}
use Rattle.std.proofs.lemmas.Bool.{cases_lt, eq-eqb, ne_eqb}
use Rattle.std.proofs.lemmas.Bool.Decides.{Decides-int_eq}
use Rattle.std.proofs.lemmas.List.{get_or_past}
use Rattle.std.specs.Ordering.{int_eq}
use Rattle.xc_model.specs.Parts.{WholeParts}
use Rattle.xc_model.proofs.Pairs.{same_pairs}
use Rattle.xc_corners.specs.Choices.{is_same_pair, corner_after_exchange, Exchange, Moves}
use Rattle.xc_corners.specs.Corners.{low_bound, high_bound, Corner, range_of}
use Rattle.xc_corners.specs.Pairs.{◌≼◌}
use Rattle.xc_corners.specs.Problems.{WholeProblem, IsWholeProblem, low_pair, high_pair, zero_range}
use Rattle.xc_corners.proofs.Pairs.{le_refl}

-- no variable's range is empty
abbrev pub IsOpen : WholeProblem → Type 0
IsOpen p = (j : ℕ) → low_bound p j ≼ high_bound p j

pub open_from_problem : (p : WholeProblem) → IsWholeProblem p → IsOpen p
unfolding low_bound high_bound
open_from_problem p h j = go (cases_lt j (length p.ranges))
  where
    go : ((j < length p.ranges) ⊎ (length p.ranges ≤ j)) → low_pair p.unit (range_of p j).low ≼ high_pair p.unit (range_of p j).high
    go (inl k) = h.some j zero_range k
    go (inr k) = rw (get_or_past p.ranges j zero_range k) (le_refl _)

-- ---- what an exchange leaves
pub kept_basic : (p : WholeProblem) (x : Corner) (above : Bool) (b q j : ℕ) → (j ≡ b → ⊥) → (j ≡ q → ⊥) → (corner_after_exchange p x above b q).basic j ≡ x.basic j
unfolding corner_after_exchange
kept_basic p x above b q j n m = simp (ne_eqb j b n, ne_eqb j q m)

pub kept_high : (p : WholeProblem) (x : Corner) (above : Bool) (b q j : ℕ) → (j ≡ b → ⊥) → (j ≡ q → ⊥) → (corner_after_exchange p x above b q).high j ≡ x.high j
unfolding corner_after_exchange
kept_high p x above b q j n m = simp (ne_eqb j b n, ne_eqb j q m)

pub left_basic : (p : WholeProblem) (x : Corner) (above : Bool) (b q : ℕ) → (b ≡ q → ⊥) → (corner_after_exchange p x above b q).basic b ≡ false
unfolding corner_after_exchange
left_basic p x above b q n = simp (ne_eqb b q n, eq-eqb b b refl)

pub entered_basic : (p : WholeProblem) (x : Corner) (above : Bool) (b q : ℕ) → (corner_after_exchange p x above b q).basic q ≡ true
unfolding corner_after_exchange
entered_basic p x above b q = simp (eq-eqb q q refl)

apart_pair : (a b : WholeParts) → a ≢ b → is_same_pair a b ≡ false
apart_pair a b n = go (int_eq a.real b.real) (int_eq a.tiny b.tiny) (λ e. (Decides-int_eq a.real b.real).0 e) (λ e. (Decides-int_eq a.tiny b.tiny).0 e)
  where
    go : (s t : Bool) → (s ≡ true → a.real ≡ b.real) → (t ≡ true → a.tiny ≡ b.tiny) → (s && t) ≡ false
    go true true e f = absurd (n (same_pairs a b (e refl) (f refl)))
    go true false e f = refl
    go false true e f = refl
    go false false e f = refl

pub left_high : (p : WholeProblem) (x : Corner) (above : Bool) (b q : ℕ) → (b ≡ q → ⊥) → low_bound p b ≢ high_bound p b → (corner_after_exchange p x above b q).high b ≡ above
unfolding corner_after_exchange
left_high p x true b q n m = simp (ne_eqb b q n, eq-eqb b b refl, apart_pair (low_bound p b) (high_bound p b) m)
left_high p x false b q n m = simp (ne_eqb b q n, eq-eqb b b refl, apart_pair (low_bound p b) (high_bound p b) m)

-- ---- the same over a part of a run
-- a variable that is not below r is as it was
pub record Keeps (r : ℕ) (x y : Corner) : Type 0 where
  pub basic : (j : ℕ) → r ≤ j → y.basic j ≡ x.basic j
  pub high : (j : ℕ) → r ≤ j → y.high j ≡ x.high j

pub exchange_keeps : (p : WholeProblem) (r : ℕ) (x : Corner) (b q : ℕ) (y : Corner) → Exchange p x b q y → b < r → q < r → Keeps r x y
exchange_keeps p r x b q y e h k = rw e.next record {
  basic = λ j l. kept_basic p x e.above b q j (omega arith) (omega arith);
  high = λ j l. kept_high p x e.above b q j (omega arith) (omega arith);
}

pub Keeps_then : (r : ℕ) (x y z : Corner) → Keeps r x y → Keeps r y z → Keeps r x z
Keeps_then r x y z h k = record {
  basic = λ j l. k.basic j l ∙ h.basic j l;
  high = λ j l. k.high j l ∙ h.high j l;
}

pub moves_keep : (p : WholeProblem) (r n : ℕ) (x y : Corner) → Moves p r n x y → Keeps r x y
moves_keep p r zero x y m = rw (← m) record { basic = λ j l. refl; high = λ j l. refl }
moves_keep p r (suc n) x y m = Keeps_then r x m.0 y (exchange_keeps p r x m.1 m.2 m.0 m.3 m.4 m.5) (moves_keep p r n m.0 y m.6)
