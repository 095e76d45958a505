-- A certificate has one judgement.
use Rattle.std.proofs.Common.{◌≡◌, ◌<◌, ◌⊎◌, ℕ, List, [], ◌∷◌, length, slice_index, Option, Some, None, Result, Ok, Err, inl, inr, refl, sym, ap, subst, ◌∙◌, arith}
use Rattle.xc_frac.specs.declared.wide.Op.{Op}
use Rattle.xc_frac.specs.declared.wide.Op.TheVariants.{Add, Sub, Mul, Div}
use Rattle.xc_frac.specs.declared.wide.Wide.{Wide}
use Rattle.xc_interval.specs.declared.interval.Interval.{Interval}
use Rattle.xc_model.proofs.Numbers.{same-sym, same-trans, quotient_unique}
use Rattle.xc_model.specs.Laws.{HasOneLowest}
use Rattle.xc_model.specs.Ratio.{Ratio, fraction_of}
use Rattle.xc_system.specs.Systems.{Constraints, equation_at, facts_of, range_at}
use Rattle.xc_system.specs.declared.types.Certificate.{Certificate}
use Rattle.xc_system.specs.declared.types.Certificate.TheVariants.{Feasible, Infeasible}
use Rattle.xc_verify.specs.Feasible.{IsMetInside, IsMetAtPoint, count_objection, equation_terms}
use Rattle.xc_verify.specs.Infeasible.{FallsShort, coefficient_terms, constant_terms, line_objection}
use Rattle.xc_verify.specs.Judgements.{IsMet}
use Rattle.xc_verify.specs.Laws.{HasOneJudgement}
use Rattle.xc_verify.specs.Objections.{objection_of, IsFirstOf, IsFirstBelow, IsMetAt, IsMetIn, IsNothing}
use Rattle.xc_verify.specs.Operations.{Gives, IsResult}
use Rattle.xc_verify.specs.Sums.{Term, plus, minus, plus_product, minus_product, IsOnward, IsWith, IsNext, IsSum}
use Rattle.xc_verify.specs.declared.types.Judgement.{Judgement}
use Rattle.xc_verify.specs.declared.types.Judgement.TheVariants as judgement
use Rattle.xc_verify.specs.declared.types.Objection.{Objection}
use Rattle.xc_verify.specs.declared.types.Objection.TheVariants.{Misses, WideFact, TooWide}
use Rattle.xc_verify.specs.declared.types.What.{What}
use Rattle.xc_verify.specs.declared.types.What.TheVariants.{Point, Binding, Constant}

-- a relation holds of one thing at most
abbrev pub IsOnce : {X : Type 0} → (X → Type 0) → Type 0
IsOnce {X} P = (x y : X) → P x → P y → x ≡ y

some_apart : {X : Type 0} (x : X) → None ≡ Some x → ⊥
some_apart x e = cc

module _ (one : HasOneLowest) where
  gives_once : (op : Op) (x y : Ratio) → IsOnce (Gives op x y)
  gives_once Add x y a b h k = one a b (same-trans _ _ _ h (same-sym _ _ k))
  gives_once Sub x y a b h k = one a b (same-trans _ _ _ h (same-sym _ _ k))
  gives_once Mul x y a b h k = one a b (same-trans _ _ _ h (same-sym _ _ k))
  gives_once Div x y a b h k = one a b (quotient_unique (fraction_of a) (fraction_of b) (fraction_of x) (fraction_of y) h k)

  result_once : (op : Op) (x y : Ratio) → IsOnce (IsResult op x y)
  result_once op x y (Ok a) (Ok b) h k = ap (λ (z : Ratio). Ok z) (gives_once op x y a b h.1 k.1)
  result_once op x y (Ok a) (Err w) h k = absurd (h.0 k.1)
  result_once op x y (Err w) (Ok b) h k = absurd (k.0 h.1)
  result_once op x y (Err w) (Err v) h k = ap (λ (z : Wide). Err z) (h.0 ∙ sym k.0)

  onward_once : (op : Op) (x : Ratio) (p : Result Ratio Wide) → IsOnce (IsOnward op x p)
  onward_once op x (Ok y) a b h k = result_once op x y a b h k
  onward_once op x (Err w) a b h k = h ∙ sym k

  with_once : (x : Ratio) (t : Term) → IsOnce (IsWith x t)
  with_once x (plus f) a b h k = result_once Add x f a b h k
  with_once x (minus f) a b h k = result_once Sub x f a b h k
  with_once x (plus_product f g) a b h k = onward_once Add x k.0 a b (subst (λ p. IsOnward Add x p a) (result_once Mul f g h.0 k.0 h.1 k.1) h.2) k.2
  with_once x (minus_product f g) a b h k = onward_once Sub x k.0 a b (subst (λ p. IsOnward Sub x p a) (result_once Mul f g h.0 k.0 h.1 k.1) h.2) k.2

  next_once : (r : Result Ratio Wide) (t : Term) → IsOnce (IsNext r t)
  next_once (Ok x) t a b h k = with_once x t a b h k
  next_once (Err w) t a b h k = h ∙ sym k

  pub sum_once : (ts : List Term) (r : Result Ratio Wide) → IsOnce (IsSum r ts)
  sum_once [] r a b h k = sym h ∙ k
  sum_once (t ∷ ts) r a b h k = sum_once ts k.0 a b (subst (λ n. IsSum n ts a) (next_once r t h.0 k.0 h.1 k.1) h.2) k.2

  first_of_once : (first second : Option Objection → Type 0) → IsOnce first → IsOnce second → IsOnce (IsFirstOf first second)
  first_of_once f g p q None None h k = refl
  first_of_once f g p q None (Some o) h (inl k) = p None (Some o) h.0 k
  first_of_once f g p q None (Some o) h (inr k) = q None (Some o) h.1 k.1
  first_of_once f g p q (Some o) None (inl h) k = p (Some o) None h k.0
  first_of_once f g p q (Some o) None (inr h) k = q (Some o) None h.1 k.1
  first_of_once f g p q (Some o) (Some n) (inl h) (inl k) = p (Some o) (Some n) h k
  first_of_once f g p q (Some o) (Some n) (inl h) (inr k) = absurd (some_apart o (p None (Some o) k.0 h))
  first_of_once f g p q (Some o) (Some n) (inr h) (inl k) = absurd (some_apart n (p None (Some n) h.0 k))
  first_of_once f g p q (Some o) (Some n) (inr h) (inr k) = q (Some o) (Some n) h.1 k.1

  first_below_once : (n : ℕ) (Met : ℕ → Option Objection → Type 0) → ((i : ℕ) → IsOnce (Met i)) → IsOnce (IsFirstBelow n Met)
  first_below_once n Met p None None h k = refl
  first_below_once n Met p None (Some o) h k = p k.0 None (Some o) (h k.0 k.1) k.3
  first_below_once n Met p (Some o) None h k = p h.0 (Some o) None h.3 (k h.0 h.1)
  first_below_once n Met p (Some o) (Some m) h k = go (by_order h.0 k.0)
    where
      by_order : (i j : ℕ) → (i ≡ j) ⊎ ((i < j) ⊎ (j < i))
      by_order i j = grind arith

      go : (h.0 ≡ k.0) ⊎ ((h.0 < k.0) ⊎ (k.0 < h.0)) → Some o ≡ Some m
      go (inl e) = p k.0 (Some o) (Some m) (subst (λ i. Met i (Some o)) e h.3) k.3
      go (inr (inl l)) = absurd (some_apart o (p h.0 None (Some o) (k.2 h.0 l) h.3))
      go (inr (inr l)) = absurd (some_apart m (p k.0 None (Some m) (h.2 k.0 l) k.3))

  met_at_once : (what : What) (IsRight : Ratio → Type 0) (r : Result Ratio Wide) → IsOnce (IsMetAt what IsRight r)
  met_at_once what R (Err w) a b h k = h ∙ sym k
  met_at_once what R (Ok x) None None h k = refl
  met_at_once what R (Ok x) None (Some o) h k = absurd (k.0 h)
  met_at_once what R (Ok x) (Some o) None h k = absurd (h.0 k)
  met_at_once what R (Ok x) (Some o) (Some n) h k = ap (λ (z : Objection). Some z) (h.1 ∙ sym k.1)

  met_in_once : (what : What) (IsRight : Ratio → Type 0) (ts : List Term) → IsOnce (IsMetIn what IsRight ts)
  met_in_once what R ts a b h k = met_at_once what R k.end a b (subst (λ r. IsMetAt what R r a) (sum_once ts _ h.end k.end h.sum k.sum) h.is_met) k.is_met

  inside_once : (k : ℕ) (values : List Ratio) (p : ℕ) (range : Option (Interval Ratio)) → IsOnce (IsMetInside k values p range)
  inside_once k values p None a b g h = g ∙ sym h
  inside_once k values p (Some i) None None g h = refl
  inside_once k values p (Some i) None (Some o) g h = absurd (h.0 g)
  inside_once k values p (Some i) (Some o) None g h = absurd (g.0 h)
  inside_once k values p (Some i) (Some o) (Some n) g h = ap (λ (z : Objection). Some z) (g.1 ∙ sym h.1)

  met_once : (s : Constraints) (c : Certificate) → IsOnce (IsMet s c)
  met_once s (Feasible values) = first_of_once (λ o. o ≡ count_objection s.points values) _ (λ a b h k. h ∙ sym k)
      (first_of_once (IsFirstBelow s.points (IsMetAtPoint s.bounds values)) (IsFirstBelow (length s.equations) (λ i o. IsMetIn (Binding i) IsNothing (equation_terms values (equation_at s.equations i).entries) o))
      (first_below_once s.points (IsMetAtPoint s.bounds values) (λ p. first_below_once (length (facts_of s.bounds p)) (λ i o. IsMetInside (slice_index (facts_of s.bounds p) i) values p (range_at s.bounds (slice_index (facts_of s.bounds p) i)) o)
      (λ i. inside_once (slice_index (facts_of s.bounds p) i) values p (range_at s.bounds (slice_index (facts_of s.bounds p) i)))))
      (first_below_once (length s.equations) _ (λ i. met_in_once (Binding i) IsNothing (equation_terms values (equation_at s.equations i).entries))))
  met_once s (Infeasible r) = first_of_once (λ o. o ≡ line_objection s r) _ (λ a b h k. h ∙ sym k)
      (first_of_once (IsFirstBelow s.points (λ p o. IsMetIn (Point p) IsNothing (coefficient_terms s r p) o)) (IsMetIn Constant (FallsShort s r) (constant_terms s r))
      (first_below_once s.points _ (λ p. met_in_once (Point p) IsNothing (coefficient_terms s r p)))
      (met_in_once Constant (FallsShort s r) (constant_terms s r)))

  -- a judgement is told by its objection
  judgement_of : Option Objection → Judgement
  judgement_of None = judgement.Accepted
  judgement_of (Some (Misses what)) = judgement.Misses what
  judgement_of (Some (WideFact k)) = judgement.WideFact k
  judgement_of (Some (TooWide what w)) = judgement.TooWide what w

  back : (j : Judgement) → judgement_of (objection_of j) ≡ j
  unfolding judgement_of
  back judgement.Accepted = refl
  back (judgement.Misses what) = refl
  back (judgement.WideFact k) = refl
  back (judgement.TooWide what w) = refl

  pub judgement_once : HasOneJudgement
  judgement_once s c j k g h = sym (back j) ∙ ap judgement_of (met_once s c (objection_of j) (objection_of k) g h) ∙ back k
