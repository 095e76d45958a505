-- The least quotient, one side of a range after another.
use Rattle.std.proofs.Common.{◌≡◌, ℕ, ◌+◌, ◌<◌, ◌≤◌, Bool, true, false, ◌||◌, ◌==◌, length, Some, None, Ok, Err, ◌⊎◌, inl, inr, refl, sym, subst, arith}
use Rattle.std.specs.Prelude.{Option, Result, IfOk, OnOk, nat_lt}
use Rattle.std.proofs.lemmas.Int.{ints}
use Rattle.std.proofs.lemmas.Bool.{cases_lt, false≢true, ltb-true, lt-ltb, eqb-true, eq-eqb}
use Rattle.xc_corners.specs.Corners.{Corner, Factors}
use Rattle.xc_corners.specs.Ending.{IsTight, IsQuotientAt, in_quotient}
use Rattle.xc_corners.specs.Problems.{WholeProblem}
use Rattle.xc_frac.specs.declared.wide.Wide.{Wide}
use Rattle.xc_model.specs.Fraction.{Fraction, IsBelow}
use Rattle.xc_model.specs.Ratio.{Ratio, fraction_of}
use Rattle.xc_model.proofs.Numbers.{below-trans}
use Rattle.xc_pivot.specs.Quotients.{IsLesser, with_seen, below_seen, IsAnswerAt, QuotientStays, PassesQuotient, IsLeastOf, SeenStay, PassesSmall}

not_itself : (x : Fraction) → ¬ IsBelow x x
not_itself x h = omega (arith, ints, h.cross)

either : (a b : Bool) → (a || b) ≡ true → (a ≡ true) ⊎ (b ≡ true)
either true b h = inl refl
either false b h = inr h

-- what is seen with one side of a range more
seen_cases : (seen : Bool → ℕ → Bool) (high : Bool) (j : ℕ) (s : Bool) (k : ℕ) → with_seen seen high j s k ≡ true → (seen s k ≡ true) ⊎ ((s ≡ high) × (k ≡ j))
seen_cases seen false j false k h = go (either (seen false k) (k == j) h)
  where
    go : ((seen false k ≡ true) ⊎ ((k == j) ≡ true)) → (seen false k ≡ true) ⊎ ((false ≡ false) × (k ≡ j))
    go (inl e) = inl e
    go (inr e) = inr (refl, eqb-true k j e)
seen_cases seen false j true k h = inl h
seen_cases seen true j false k h = inl h
seen_cases seen true j true k h = go (either (seen true k) (k == j) h)
  where
    go : ((seen true k ≡ true) ⊎ ((k == j) ≡ true)) → (seen true k ≡ true) ⊎ ((true ≡ true) × (k ≡ j))
    go (inl e) = inl e
    go (inr e) = inr (refl, eqb-true k j e)

or_left : (a b : Bool) → a ≡ true → (a || b) ≡ true
or_left true b h = refl
or_left false b h = absurd (false≢true h)

or_right : (a b : Bool) → b ≡ true → (a || b) ≡ true
or_right true b h = refl
or_right false b h = h

-- both sides of the next range
both_seen : (n : ℕ) (s : Bool) (k : ℕ) → below_seen (n + 1) s k ≡ true → with_seen (with_seen (below_seen n) false n) true n s k ≡ true
both_seen n s k h = go s (cases_lt k n)
  where
    go : (s : Bool) → ((k < n) ⊎ (n ≤ k)) → with_seen (with_seen (below_seen n) false n) true n s k ≡ true
    go false (inl l) = or_left (nat_lt k n) (k == n) (lt-ltb k n l)
    go true (inl l) = or_left (nat_lt k n) (k == n) (lt-ltb k n l)
    go false (inr l) = or_right (nat_lt k n) (k == n) (eq-eqb k n (omega (arith, l, ltb-true k (n + 1) h)))
    go true (inr l) = or_right (nat_lt k n) (k == n) (eq-eqb k n (omega (arith, l, ltb-true k (n + 1) h)))

module _ (p : WholeProblem) (x : Corner) (t : Factors) where
  weaker : (seen more : Bool → ℕ → Bool) → ((s : Bool) (k : ℕ) → more s k ≡ true → seen s k ≡ true) → (least : Option Ratio) → IsLeastOf p x t seen least → IsLeastOf p x t more least
  weaker seen more h None least = λ s k e. least s k (h s k e)
  weaker seen more h (Some r) least = (least.0, λ s k e. least.1 s k (h s k e))

  pub if_both : (n : ℕ) (o : Result (Option Ratio) Wide) → IfOk o (IsLeastOf p x t (with_seen (with_seen (below_seen n) false n) true n)) → IfOk o (IsLeastOf p x t (below_seen (n + 1)))
  if_both n (Ok least) h = weaker (with_seen (with_seen (below_seen n) false n) true n) (below_seen (n + 1)) (both_seen n) least h
  if_both n (Err w) h = tt

  pub if_both_stay : (n : ℕ) (o : Result (Option Ratio) Wide) → OnOk o (SeenStay p x t (with_seen (with_seen (below_seen n) false n) true n)) → OnOk o (SeenStay p x t (below_seen (n + 1)))
  if_both_stay n (Ok least) h = λ s k e. h s k (both_seen n s k e)
  if_both_stay n (Err w) h = tt

  pub none_least : IsLeastOf p x t (below_seen 0) None
  none_least s k e tight = absurd (omega (arith, ltb-true k 0 e))

  pub none_stay : SeenStay p x t (below_seen 0)
  none_stay s k e = absurd (omega (arith, ltb-true k 0 e))

  -- ---- one side more
  module _ (seen : Bool → ℕ → Bool) (high : Bool) (j : ℕ) where
    pub with_stay : SeenStay p x t seen → QuotientStays p x t high j → SeenStay p x t (with_seen seen high j)
    with_stay old own s k e = go (seen_cases seen high j s k e)
      where
        go : ((seen s k ≡ true) ⊎ ((s ≡ high) × (k ≡ j))) → QuotientStays p x t s k
        go (inl h) = old s k h
        go (inr h) = subst (λ z. QuotientStays p x t z k) (sym h.0) (subst (λ z. QuotientStays p x t high z) (sym h.1) own)

    -- the answer at this side, for whatever side it is
    here : (own : Option Ratio) → IsAnswerAt p x t high j own → (s : Bool) (k : ℕ) → (s ≡ high) × (k ≡ j) → IsAnswerAt p x t s k own
    here own answer s k h = subst (λ z. IsAnswerAt p x t z k own) (sym h.0) (subst (λ z. IsAnswerAt p x t high z own) (sym h.1) answer)

    pub merged : (inside : j < length p.ranges) (old own r : Option Ratio) → IsLeastOf p x t seen old → IsAnswerAt p x t high j own → IsLesser old own r → IsLeastOf p x t (with_seen seen high j) r
    merged inside None None r least answer e = subst (IsLeastOf p x t (with_seen seen high j)) (sym e) (λ s k h. go s k (seen_cases seen high j s k h))
      where
        go : (s : Bool) (k : ℕ) → ((seen s k ≡ true) ⊎ ((s ≡ high) × (k ≡ j))) → ¬ IsTight p x t s k
        go s k (inl h) = least s k h
        go s k (inr h) = here None answer s k h
    merged inside None (Some q) r least answer e = subst (IsLeastOf p x t (with_seen seen high j)) (sym e) (record { high = high; range = j; is_range = inside; is = answer }, λ s k h tight. go s k (seen_cases seen high j s k h) tight)
      where
        go : (s : Bool) (k : ℕ) → ((seen s k ≡ true) ⊎ ((s ≡ high) × (k ≡ j))) → IsTight p x t s k → (f : Ratio) × IsQuotientAt p x t s k f × (¬ IsBelow (fraction_of f) (fraction_of q))
        go s k (inl h) tight = absurd (least s k h tight)
        go s k (inr h) tight = (q, here (Some q) answer s k h, not_itself (fraction_of q))
    merged inside (Some f) None r least answer e = subst (IsLeastOf p x t (with_seen seen high j)) (sym e) (least.0, λ s k h tight. go s k (seen_cases seen high j s k h) tight)
      where
        go : (s : Bool) (k : ℕ) → ((seen s k ≡ true) ⊎ ((s ≡ high) × (k ≡ j))) → IsTight p x t s k → (g : Ratio) × IsQuotientAt p x t s k g × (¬ IsBelow (fraction_of g) (fraction_of f))
        go s k (inl h) tight = least.1 s k h tight
        go s k (inr h) tight = absurd (here None answer s k h tight)
    merged inside (Some f) (Some g) r least answer (inl e) = subst (IsLeastOf p x t (with_seen seen high j)) (sym e.0) (record { high = high; range = j; is_range = inside; is = answer }, λ s k h tight. go s k (seen_cases seen high j s k h) tight)
      where
        go : (s : Bool) (k : ℕ) → ((seen s k ≡ true) ⊎ ((s ≡ high) × (k ≡ j))) → IsTight p x t s k → (q : Ratio) × IsQuotientAt p x t s k q × (¬ IsBelow (fraction_of q) (fraction_of g))
        go s k (inl h) tight = let old = least.1 s k h tight in (old.0, old.1, λ b. old.2 (below-trans (fraction_of old.0) (fraction_of g) (fraction_of f) b e.1))
        go s k (inr h) tight = (g, here (Some g) answer s k h, not_itself (fraction_of g))
    merged inside (Some f) (Some g) r least answer (inr e) = subst (IsLeastOf p x t (with_seen seen high j)) (sym e.0) (least.0, λ s k h tight. go s k (seen_cases seen high j s k h) tight)
      where
        go : (s : Bool) (k : ℕ) → ((seen s k ≡ true) ⊎ ((s ≡ high) × (k ≡ j))) → IsTight p x t s k → (q : Ratio) × IsQuotientAt p x t s k q × (¬ IsBelow (fraction_of q) (fraction_of f))
        go s k (inl h) tight = least.1 s k h tight
        go s k (inr h) tight = (g, here (Some g) answer s k h, e.1)

  pub passes_small : (high : Bool) (j : ℕ) (w : Wide) → j < length p.ranges → PassesQuotient p x t high j w → PassesSmall p x t w
  passes_small high j w inside h = record { stands = in_quotient high j inside h.tight h.stands; passes = h.passes }
