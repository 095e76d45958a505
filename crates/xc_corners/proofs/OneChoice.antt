-- A corner has at most one choice.
use Rattle.std.proofs.Common.{◌≡◌, ℕ, ◌<◌, Bool, true, false, ℤ, pos, ◌*ℤ◌, ◌<ℤ◌, ◌⊎◌, inl, inr, ⊎_elim, refl, sym, ap, subst, ◌∙◌, arith}
use Rattle.std.proofs.lemmas.Int.{ints, by_lt_z}
use Rattle.std.proofs.lemmas.Bool.{cases_order}
use Rattle.xc_model.specs.Parts.{WholeParts}
use Rattle.xc_model.proofs.Integers.{ring, scale_lt, scale_le}
use Rattle.xc_model.proofs.Pairs.{same_pairs}
use Rattle.xc_corners.specs.Choices.{Leaves, Helps, CanEnter, Enters, corner_after_exchange, Exchange}
use Rattle.xc_corners.specs.Corners.{variables, low_bound, high_bound, Corner, Factors, IsSolvedForm, spread, value, IsWithin, IsOutside}
use Rattle.xc_corners.specs.Pairs.{◌≺◌, ◌≼◌, times}
use Rattle.xc_corners.specs.Problems.{WholeProblem, IsWholeProblem}
use Rattle.xc_corners.proofs.Moves.{IsOpen, open_from_problem}
use Rattle.xc_corners.proofs.Pairs.{times_le, times_times, irreflexive, le_from_lt, lt_le, le_le, positive_pos, pair_order, cancel_le_pair}
use Rattle.xc_corners.proofs.SolvedForms.{one_solved_form}
use Rattle.xc_corners.proofs.Values.{spread_meets, spread_at_basic, spread_at_other, sum_for_same, sum_for_scale}

-- two solved forms of a corner give one value
spread_same : (p : WholeProblem) (x : Corner) (s t : Factors) (z : ℕ → ℤ) (j : ℕ) → j < variables p → IsSolvedForm p x s → IsSolvedForm p x t → (e : Bool) → x.basic j ≡ e → pos t.over *ℤ spread p x s z j ≡ pos s.over *ℤ spread p x t z j
spread_same p x s t z j h f g true e =
    g.sums _ (spread_meets p x s z f) j h e
    ∙ sum_for_same p x t j _ _ (λ k l d. spread_at_other p x s z k d)
    ∙ sym (sum_for_scale p x t j (pos s.over) z)
    ∙ ap (λ (v : ℤ). pos s.over *ℤ v) (sym (spread_at_basic p x t z j e))
spread_same p x s t z j h f g false e = rw (spread_at_other p x s z j e, spread_at_other p x t z j e) (simp ring)

pub value_same : (p : WholeProblem) (x : Corner) (s t : Factors) (j : ℕ) → j < variables p → IsSolvedForm p x s → IsSolvedForm p x t → times (pos t.over) (value p x s j) ≡ times (pos s.over) (value p x t j)
unfolding value
value_same p x s t j h f g = same_pairs _ _ (spread_same p x s t _ j h f g (x.basic j) refl) (spread_same p x s t _ j h f g (x.basic j) refl)

le_value : (p : WholeProblem) (x : Corner) (s t : Factors) (j : ℕ) (a : WholeParts) → j < variables p → IsSolvedForm p x s → IsSolvedForm p x t → times (pos s.over) a ≼ value p x s j → times (pos t.over) a ≼ value p x t j
le_value p x s t j a h f g k = cancel_le_pair s.over _ _ f.positive
    (subst (λ (c : WholeParts). c ≼ times (pos s.over) (value p x t j)) (times_times (pos t.over) (pos s.over) a)
    (subst (λ (c : WholeParts). times (pos t.over) (times (pos s.over) a) ≼ c) (value_same p x s t j h f g) (times_le (pos t.over) _ _ (omega (arith, ints)) k)))

value_le : (p : WholeProblem) (x : Corner) (s t : Factors) (j : ℕ) (a : WholeParts) → j < variables p → IsSolvedForm p x s → IsSolvedForm p x t → value p x s j ≼ times (pos s.over) a → value p x t j ≼ times (pos t.over) a
value_le p x s t j a h f g k = cancel_le_pair s.over _ _ f.positive
    (subst (λ (c : WholeParts). times (pos s.over) (value p x t j) ≼ c) (times_times (pos t.over) (pos s.over) a)
    (subst (λ (c : WholeParts). c ≼ times (pos t.over) (times (pos s.over) a)) (value_same p x s t j h f g) (times_le (pos t.over) _ _ (omega (arith, ints)) k)))

pub within_same : (p : WholeProblem) (x : Corner) (s t : Factors) (j : ℕ) → j < variables p → IsSolvedForm p x s → IsSolvedForm p x t → IsWithin p x s j → IsWithin p x t j
within_same p x s t j h f g w = (le_value p x s t j _ h f g w.0, value_le p x s t j _ h f g w.1)

pub past_not_within : (p : WholeProblem) (x : Corner) (t : Factors) (a : Bool) (j : ℕ) → IsOutside p x t a j → IsWithin p x t j → ⊥
past_not_within p x t false j k w = irreflexive _ (lt_le _ _ _ k w.0)
past_not_within p x t true j k w = irreflexive _ (lt_le _ _ _ k w.1)

past_same : (p : WholeProblem) (x : Corner) (s t : Factors) (a : Bool) (j : ℕ) → j < variables p → IsSolvedForm p x s → IsSolvedForm p x t → IsOutside p x s a j → IsOutside p x t a j
past_same p x s t false j h f g k = ⊎_elim (λ (l : times (pos t.over) (low_bound p j) ≼ value p x t j). absurd (irreflexive _ (lt_le _ _ _ k (le_value p x t s j _ h g f l)))) (λ (l : value p x t j ≺ times (pos t.over) (low_bound p j)). l) (pair_order _ _)
past_same p x s t true j h f g k = ⊎_elim (λ (l : value p x t j ≼ times (pos t.over) (high_bound p j)). absurd (irreflexive _ (lt_le _ _ _ k (value_le p x t s j _ h g f l)))) (λ (l : times (pos t.over) (high_bound p j) ≺ value p x t j). l) (pair_order _ _)

not_both : (p : WholeProblem) (x : Corner) (t : Factors) (j : ℕ) → IsOpen p → IsOutside p x t false j → IsOutside p x t true j → ⊥
not_both p x t j o k l = irreflexive _ (lt_le _ _ _ k (le_le _ _ _ (times_le (pos t.over) _ _ (omega (arith, ints)) (o j)) (lt_weak l)))
  where
    lt_weak : {a b : WholeParts} → a ≺ b → a ≼ b
    lt_weak {a} {b} h = le_from_lt a b h

positive_same : (f g : ℤ) (m n : ℕ) → 0 < n → f *ℤ pos n ≡ g *ℤ pos m → pos 0 <ℤ f → pos 0 <ℤ g
positive_same f g m n h e k = by_lt_z (pos 0) g (λ l. l)
    (λ l. absurd (omega (arith, ints, e, scale_lt (pos n) (pos 0) f (positive_pos n h) k, scale_le (pos m) g (pos 0) (omega (arith, ints)) l)))

negative_same : (f g : ℤ) (m n : ℕ) → 0 < n → f *ℤ pos n ≡ g *ℤ pos m → f <ℤ pos 0 → g <ℤ pos 0
negative_same f g m n h e k = by_lt_z g (pos 0) (λ l. l)
    (λ l. absurd (omega (arith, ints, e, scale_lt (pos n) f (pos 0) (positive_pos n h) k, scale_le (pos m) (pos 0) g (omega (arith, ints)) l)))

helps_same : (a h : Bool) (f g : ℤ) (m n : ℕ) → 0 < n → f *ℤ pos n ≡ g *ℤ pos m → Helps a h f → Helps a h g
helps_same false false f g m n h e k = positive_same f g m n h e k
helps_same false true f g m n h e k = negative_same f g m n h e k
helps_same true false f g m n h e k = negative_same f g m n h e k
helps_same true true f g m n h e k = positive_same f g m n h e k

pub can_enter_same : (p : WholeProblem) (x : Corner) (s t : Factors) (a : Bool) (b q : ℕ) → IsSolvedForm p x s → IsSolvedForm p x t → b < variables p → q < variables p → x.basic b ≡ true → CanEnter p x s a b q → CanEnter p x t a b q
can_enter_same p x s t a b q f g hb hq e c = record { other = c.other; free = c.free; helps = helps_same a (x.high q) _ _ s.over t.over g.positive (one_solved_form p x s t f g b q hb hq e c.other) c.helps }

-- the variable that leaves is one
leaves_same : (p : WholeProblem) (x : Corner) (s t : Factors) (a c : Bool) (b d : ℕ) → IsSolvedForm p x s → IsSolvedForm p x t → Leaves p x s a b → Leaves p x t c d → b < d → ⊥
leaves_same p x s t a c b d f g k l h = past_not_within p x s a b k.outside (within_same p x t s b k.is_variable g f (l.least b h k.basic))

side_same : (p : WholeProblem) (x : Corner) (s t : Factors) (a c : Bool) (b : ℕ) → IsOpen p → IsSolvedForm p x s → IsSolvedForm p x t → Leaves p x s a b → Leaves p x t c b → a ≡ c
side_same p x s t false false b o f g k l = refl
side_same p x s t true true b o f g k l = refl
side_same p x s t false true b o f g k l = absurd (not_both p x t b o (past_same p x s t false b k.is_variable f g k.outside) l.outside)
side_same p x s t true false b o f g k l = absurd (not_both p x t b o l.outside (past_same p x s t true b k.is_variable f g k.outside))

enters_same : (p : WholeProblem) (x : Corner) (s t : Factors) (a : Bool) (b q r : ℕ) → IsSolvedForm p x s → IsSolvedForm p x t → b < variables p → x.basic b ≡ true → Enters p x s a b q → Enters p x t a b r → q < r → ⊥
enters_same p x s t a b q r f g h e k l m = l.least q m (can_enter_same p x s t a b q f g h k.is_variable e k.can)

from_order : (a b : ℕ) → (a < b → ⊥) → (b < a → ⊥) → a ≡ b
from_order a b h k = go (cases_order a b)
  where
    go : ((a ≡ b) ⊎ ((a < b) ⊎ (b < a))) → a ≡ b
    go (inl e) = e
    go (inr (inl l)) = absurd (h l)
    go (inr (inr l)) = absurd (k l)

-- one variable leaves, past one of its bounds
pub one_leaving : (p : WholeProblem) → IsWholeProblem p → (x : Corner) (s t : Factors) (a c : Bool) (b d : ℕ) → IsSolvedForm p x s → IsSolvedForm p x t → Leaves p x s a b → Leaves p x t c d → (a ≡ c) × (b ≡ d)
one_leaving p h x s t a c b d f g k l =
    let same : b ≡ d = from_order b d (leaves_same p x s t a c b d f g k l) (leaves_same p x t s c a d b g f l k) in
    let there : Leaves p x t c b = rw same l in
    (side_same p x s t a c b (open_from_problem p h) f g k there, same)

-- a corner has at most one choice and one next corner
pub one_next : (p : WholeProblem) → IsWholeProblem p → (x : Corner) (b q d r : ℕ) (y z : Corner) → Exchange p x b q y → Exchange p x d r z → (b ≡ d) × (q ≡ r) × (y ≡ z)
one_next p h x b q d r y z e f = (same_b, same_q, e.next ∙ (λ i. corner_after_exchange p x (same_side i) (same_b i) (same_q i)) ∙ sym f.next)
  where
    leaving : (e.above ≡ f.above) × (b ≡ d)
    leaving = one_leaving p h x e.factors f.factors e.above f.above b d e.solved f.solved e.leaves f.leaves

    same_side : e.above ≡ f.above
    same_side = leaving.0

    same_b : b ≡ d
    same_b = leaving.1

    f_enters : Enters p x f.factors e.above b r
    f_enters = rw (same_side, same_b) f.enters

    same_q : q ≡ r
    same_q = from_order q r (enters_same p x e.factors f.factors e.above b q r e.solved f.solved e.leaves.is_variable e.leaves.basic e.enters f_enters) (enters_same p x f.factors e.factors e.above b r q f.solved e.solved e.leaves.is_variable e.leaves.basic f_enters e.enters)
