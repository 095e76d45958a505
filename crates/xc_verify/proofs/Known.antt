-- What lines and judgements name.
use Rattle.std.proofs.Common.{◌≡◌, ◌<◌, ℕ, List, [], ◌∷◌, length, slice_index, Bool, true, false, cond, ◌==◌, min, Option, Some, None, Result, Ok, Err, inl, inr, refl, sym, subst, map, arith}
use Rattle.std.proofs.lemmas.List.Elements.{All-from_recursion}
use Rattle.std.proofs.lemmas.List.{length-map}
use Rattle.std.proofs.lemmas.Option.{slice_get_within}
use Rattle.std.specs.List.{AllByRecursion}
use Rattle.std.specs.Option.{option_map_or, option_or}
use Rattle.std.specs.Prelude.{All, IsSomeAnd, IfSome, slice_get}
use Rattle.xc_frac.specs.declared.wide.Wide.{Wide}
use Rattle.xc_interval.specs.declared.interval.Interval.{Interval}
use Rattle.xc_lists.proofs.Members.{in_places, is_in_at}
use Rattle.xc_lists.specs.Places.{first_given}
use Rattle.xc_model.specs.Ratio.{Ratio}
use Rattle.xc_system.specs.Kept.{Multipliers}
use Rattle.xc_system.specs.Refutations.{IsKnown}
use Rattle.xc_system.specs.Systems.{Constraints, facts_of, range_at, equation_at}
use Rattle.xc_system.specs.declared.types.Bound.{Bound}
use Rattle.xc_system.specs.declared.types.Certificate.{Certificate}
use Rattle.xc_system.specs.declared.types.Certificate.TheVariants.{Feasible, Infeasible}
use Rattle.xc_system.specs.declared.types.Equation.{Equation}
use Rattle.xc_verify.specs.Feasible.{IsMetInside, IsMetAtPoint, count_objection, equation_terms}
use Rattle.xc_verify.specs.Infeasible.{Line, FallsShort, binding_objection, fact_objection, line_objection, coefficient_terms, constant_terms}
use Rattle.xc_verify.specs.Judgements.{IsMet, IsJudgement, IsSummed, NamesKnown}
use Rattle.xc_verify.specs.Objections.{IsFirstOf, IsFirstBelow, IsMetAt, IsMetIn, IsNothing}
use Rattle.xc_verify.specs.Sums.{Term}
use Rattle.xc_verify.specs.declared.types.Judgement.{Judgement}
use Rattle.xc_verify.specs.declared.types.Judgement.TheVariants as judgement
use Rattle.xc_verify.specs.declared.types.Objection.{Objection}
use Rattle.xc_verify.specs.declared.types.Objection.TheVariants.{Misses, WideFact, TooWide}
use Rattle.xc_verify.specs.declared.types.What.{What}
use Rattle.xc_verify.specs.declared.types.What.TheVariants.{Point, Binding, Fact, Constant}

something : {X : Type 0} (x : X) → Some x ≡ None → ⊥
something x e = cc

nothing : {X : Type 0} (x : X) → None ≡ Some x → ⊥
nothing x e = cc

-- where nothing is given by any of two, nothing is by either
neither : {X : Type 0} (a b : Option X) → option_or a b ≡ None → (a ≡ None) × (b ≡ None)
neither None b e = (refl, e)
neither (Some x) b e = absurd (something x e)

-- nothing is given of a list exactly where nothing is of any of its items
none_given : {X Y : Type 0} (f : X → Option Y) (xs : List X) → first_given f xs ≡ None → AllByRecursion (λ x. f x ≡ None) xs
none_given f [] e = tt
none_given f (x ∷ xs) e = let both = neither (f x) (first_given f xs) e in (both.0, none_given f xs both.1)

all_so : {X : Type 0} (P Q : X → Type 0) (xs : List X) → ((x : X) → P x → Q x) → AllByRecursion P xs → AllByRecursion Q xs
all_so P Q [] h a = tt
all_so P Q (x ∷ xs) h a = (h x a.0, all_so P Q xs h a.1)

-- a binding and a fact at which nothing is met
binding_there : (equations : List Equation) (i : ℕ) → binding_objection equations i ≡ None → i < length equations
binding_there equations i h = go (slice_get equations i) refl h
  where
    go : (o : Option Equation) → slice_get equations i ≡ o → option_map_or (λ equation. None) o (Some (Misses (Binding i))) ≡ None → i < length equations
    go None at e = absurd (something _ e)
    go (Some x) at e = slice_get_within equations i x at

fact_there : (bounds : List Bound) (k : ℕ) → fact_objection bounds k ≡ None → (k < length bounds) × IsSomeAnd (range_at bounds k) (λ interval. Unit {0})
fact_there bounds k h = go (slice_get bounds k) refl h
  where
    known : (range : Option (Interval Ratio)) → option_map_or (λ interval. None) range (Some (WideFact k)) ≡ None → IsSomeAnd range (λ interval. Unit {0})
    known None e = absurd (something _ e)
    known (Some i) e = tt

    go : (o : Option Bound) → slice_get bounds k ≡ o → option_map_or (λ bound. option_map_or (λ interval. None) bound.range (Some (WideFact k))) o (Some (Misses (Fact k))) ≡ None
        → (k < length bounds) × IsSomeAnd (option_map_or (λ bound. bound.range) o None) (λ interval. Unit {0})
    go None at e = absurd (something _ e)
    go (Some b) at e = (slice_get_within bounds k b at, known b.range e)

module _ (s : Constraints) (r : Multipliers) (none : line_objection s r ≡ None) where
  bindings_none : AllByRecursion (λ m. binding_objection s.equations m.0 ≡ None) r.bindings
  bindings_none = none_given _ r.bindings (neither _ _ none).0

  ends_none : option_or (first_given (λ m. fact_objection s.bounds m.0) r.lows) (first_given (λ m. fact_objection s.bounds m.0) r.highs) ≡ None
  ends_none = (neither (first_given (λ m. binding_objection s.equations m.0) r.bindings) _ none).1

  pub bindings_there : All (λ m. m.0 < length s.equations) r.bindings
  bindings_there = All-from_recursion _ r.bindings (all_so _ _ r.bindings (λ (m : Line) e. binding_there s.equations m.0 e) bindings_none)

  facts_there : (ms : List Line) → first_given (λ m. fact_objection s.bounds m.0) ms ≡ None → All (λ m. m.0 < length s.bounds) ms
  facts_there ms e = All-from_recursion _ ms (all_so _ _ ms (λ (m : Line) h. (fact_there s.bounds m.0 h).0) (none_given _ ms e))

  facts_known_in : (ms : List Line) → first_given (λ m. fact_objection s.bounds m.0) ms ≡ None → All (λ m. IsKnown s m.0) ms
  facts_known_in ms e = All-from_recursion _ ms (all_so _ _ ms (λ (m : Line) h. (fact_there s.bounds m.0 h).1) (none_given _ ms e))

  pub lows_there : All (λ m. m.0 < length s.bounds) r.lows
  lows_there = facts_there r.lows (neither _ _ ends_none).0

  pub highs_there : All (λ m. m.0 < length s.bounds) r.highs
  highs_there = facts_there r.highs (neither (first_given (λ m. fact_objection s.bounds m.0) r.lows) _ ends_none).1

  pub lows_known : All (λ m. IsKnown s m.0) r.lows
  lows_known = facts_known_in r.lows (neither _ _ ends_none).0

  pub highs_known : All (λ m. IsKnown s m.0) r.highs
  highs_known = facts_known_in r.highs (neither (first_given (λ m. fact_objection s.bounds m.0) r.lows) _ ends_none).1

-- what objections name

-- a wide fact that an objection names is one of the system, and no operation is told of a fact
abbrev Names : List Bound → Objection → Type 0
Names bounds (Misses what) = Unit {0}
Names bounds (WideFact k) = k < length bounds
Names bounds (TooWide what w) = IsSummed what

-- the facts of a point are facts
pub fact_of_point : (bounds : List Bound) (p i : ℕ) → i < length (facts_of bounds p) → slice_index (facts_of bounds p) i < length bounds
fact_of_point bounds p i h = omega (arith, length-map bounds (λ b. b.point), (in_places (map (λ b. b.point) bounds) p _ (is_in_at (facts_of bounds p) i h)).0)

module _ (bounds : List Bound) where
  abbrev Fine : (Option Objection → Type 0) → Type 0
  Fine Met = (o : Objection) → Met (Some o) → Names bounds o

  told : (o : Objection) (met : Option Objection) → Some o ≡ met → IfSome met (Names bounds) → Names bounds o
  told o met e h = subst (λ (m : Option Objection). IfSome m (Names bounds)) (sym e) h

  fine_first_of : (one other : Option Objection → Type 0) → Fine one → Fine other → Fine (IsFirstOf one other)
  fine_first_of one other f g o (inl h) = f o h
  fine_first_of one other f g o (inr h) = g o h.1

  fine_below : (n : ℕ) (Met : ℕ → Option Objection → Type 0) → ((i : ℕ) → i < n → Fine (Met i)) → Fine (IsFirstBelow n Met)
  fine_below n Met f o h = f h.0 h.1 o h.3

  fine_sum : (what : What) (IsRight : Ratio → Type 0) (ts : List Term) → IsSummed what → Fine (IsMetIn what IsRight ts)
  fine_sum what R ts summed o h = go h.end h.is_met
    where
      go : (end : Result Ratio Wide) → IsMetAt what R end (Some o) → Names bounds o
      go (Ok x) m = subst (λ (n : Objection). Names bounds n) (sym m.1) tt
      go (Err w) m = told o _ m summed

  fine_given : (f : Line → Option Objection) (ms : List Line) → ((m : Line) → IfSome (f m) (Names bounds)) → IfSome (first_given f ms) (Names bounds)
  fine_given f [] h = tt
  fine_given f (m ∷ ms) h = go (f m) (h m) (fine_given f ms h)
    where
      go : (o : Option Objection) → IfSome o (Names bounds) → IfSome (first_given f ms) (Names bounds) → IfSome (option_or o (first_given f ms)) (Names bounds)
      go None a b = b
      go (Some x) a b = a

  fine_either : (a b : Option Objection) → IfSome a (Names bounds) → IfSome b (Names bounds) → IfSome (option_or a b) (Names bounds)
  fine_either None b h k = k
  fine_either (Some x) b h k = h

  fine_binding : (equations : List Equation) (i : ℕ) → IfSome (binding_objection equations i) (Names bounds)
  fine_binding equations i = go (slice_get equations i)
    where
      go : (o : Option Equation) → IfSome (option_map_or (λ equation. None) o (Some (Misses (Binding i)))) (Names bounds)
      go None = tt
      go (Some e) = tt

  fine_fact : (k : ℕ) → IfSome (fact_objection bounds k) (Names bounds)
  fine_fact k = go (slice_get bounds k) refl
    where
      known : (range : Option (Interval Ratio)) → k < length bounds → IfSome (option_map_or (λ interval. None) range (Some (WideFact k))) (Names bounds)
      known None h = h
      known (Some i) h = tt

      go : (o : Option Bound) → slice_get bounds k ≡ o → IfSome (option_map_or (λ bound. option_map_or (λ interval. None) bound.range (Some (WideFact k))) o (Some (Misses (Fact k)))) (Names bounds)
      go None at = tt
      go (Some b) at = known b.range (slice_get_within bounds k b at)

  fine_inside : (k : ℕ) (values : List Ratio) (p : ℕ) (range : Option (Interval Ratio)) → k < length bounds → Fine (IsMetInside k values p range)
  fine_inside k values p None h o m = told o _ m h
  fine_inside k values p (Some i) h o m = subst (λ (n : Objection). Names bounds n) (sym m.1) tt

  fine_point : (values : List Ratio) (p : ℕ) → Fine (IsMetAtPoint bounds values p)
  fine_point values p = fine_below (length (facts_of bounds p)) (λ i o. IsMetInside (slice_index (facts_of bounds p) i) values p (range_at bounds (slice_index (facts_of bounds p) i)) o)
      (λ i h. fine_inside (slice_index (facts_of bounds p) i) values p _ (fact_of_point bounds p i h))

fine_count : (bounds : List Bound) (points : ℕ) (values : List Ratio) → IfSome (count_objection points values) (Names bounds)
fine_count bounds points values = go (length values == points)
  where
    go : (b : Bool) → IfSome (cond b None (Some (Misses (Point (min (length values) points))))) (Names bounds)
    go true = tt
    go false = tt

fine_met : (s : Constraints) (c : Certificate) → Fine s.bounds (IsMet s c)
fine_met s (Feasible values) = fine_first_of s.bounds (λ o. o ≡ count_objection s.points values) (IsFirstOf (IsFirstBelow s.points (IsMetAtPoint s.bounds values)) (IsFirstBelow (length s.equations) (λ i o. IsMetIn (Binding i) IsNothing (equation_terms values (equation_at s.equations i).entries) o))) (λ o e. told s.bounds o _ e (fine_count s.bounds s.points values))
    (fine_first_of s.bounds (IsFirstBelow s.points (IsMetAtPoint s.bounds values)) (IsFirstBelow (length s.equations) (λ i o. IsMetIn (Binding i) IsNothing (equation_terms values (equation_at s.equations i).entries) o))
    (fine_below s.bounds s.points (IsMetAtPoint s.bounds values) (λ p h. fine_point s.bounds values p))
    (fine_below s.bounds (length s.equations) (λ i o. IsMetIn (Binding i) IsNothing (equation_terms values (equation_at s.equations i).entries) o) (λ i h. fine_sum s.bounds (Binding i) IsNothing (equation_terms values (equation_at s.equations i).entries) tt)))
fine_met s (Infeasible r) = fine_first_of s.bounds (λ o. o ≡ line_objection s r) (IsFirstOf (IsFirstBelow s.points (λ p o. IsMetIn (Point p) IsNothing (coefficient_terms s r p) o)) (IsMetIn Constant (FallsShort s r) (constant_terms s r)))
    (λ o e. told s.bounds o _ e (fine_either s.bounds _ _ (fine_given s.bounds (λ m. binding_objection s.equations m.0) r.bindings (λ m. fine_binding s.bounds s.equations m.0))
    (fine_either s.bounds _ _ (fine_given s.bounds (λ m. fact_objection s.bounds m.0) r.lows (λ m. fine_fact s.bounds m.0)) (fine_given s.bounds (λ m. fact_objection s.bounds m.0) r.highs (λ m. fine_fact s.bounds m.0)))))
    (fine_first_of s.bounds (IsFirstBelow s.points (λ p o. IsMetIn (Point p) IsNothing (coefficient_terms s r p) o)) (IsMetIn Constant (FallsShort s r) (constant_terms s r))
    (fine_below s.bounds s.points (λ p o. IsMetIn (Point p) IsNothing (coefficient_terms s r p) o) (λ p h. fine_sum s.bounds (Point p) IsNothing (coefficient_terms s r p) tt))
    (fine_sum s.bounds Constant (FallsShort s r) (constant_terms s r) tt))

pub names_known : (s : Constraints) (c : Certificate) (j : Judgement) → IsJudgement s c j → NamesKnown s j
names_known s c judgement.Accepted h = tt
names_known s c (judgement.Misses what) h = tt
names_known s c (judgement.WideFact k) h = fine_met s c (WideFact k) h
names_known s c (judgement.TooWide what w) h = fine_met s c (TooWide what w) h
