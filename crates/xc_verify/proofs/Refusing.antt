-- A proof is accepted, unless an operation passes.
use Rattle.std.proofs.Common.{◌≡◌, ◌<◌, ◌≤◌, ◌⊎◌, ℕ, Bool, cond, List, [], ◌∷◌, length, map, get_or, slice_index, min, Option, Some, None, Result, Ok, Err, inl, inr, refl, sym, ap, subst, ◌∙◌, arith}
use Rattle.std.proofs.lemmas.Bool.{eq-eqb}
use Rattle.std.proofs.lemmas.List.{get_or-map}
use Rattle.std.proofs.lemmas.List.Elements.{recursion_from_All}
use Rattle.std.proofs.lemmas.Option.{slice_get_cases, slice_get-get_or}
use Rattle.std.specs.List.{AllByRecursion}
use Rattle.std.specs.Option.{option_map_or, option_or}
use Rattle.std.specs.Prelude.{IsSomeAnd, IfSome, slice_get}
use Rattle.xc_frac.specs.declared.wide.Wide.{Wide}
use Rattle.xc_interval.specs.Intervals.{numbers_of, HasNumber}
use Rattle.xc_interval.specs.declared.interval.Interval.{Interval}
use Rattle.xc_lists.specs.Places.{first_given}
use Rattle.xc_model.proofs.Numbers.{same-sym, same-trans}
use Rattle.xc_model.specs.Fraction.{SameNumber}
use Rattle.xc_model.specs.Ratio.{Ratio, fraction_of}
use Rattle.xc_lists.proofs.Members.{in_places, is_in_at}
use Rattle.xc_system.specs.Kept.{Multipliers}
use Rattle.xc_lists.specs.Members.{IsIn}
use Rattle.xc_system.specs.Refutations.{IsContradiction, IsKnown, IsShort, coefficient, constant}
use Rattle.xc_system.specs.Solutions.{Solves, sum_over_entries}
use Rattle.xc_system.specs.Systems.{Constraints, equation_at, facts_of, range_at}
use Rattle.xc_system.specs.declared.types.Bound.{Bound}
use Rattle.xc_system.specs.declared.types.Certificate.{Certificate}
use Rattle.xc_system.specs.declared.types.Certificate.TheVariants.{Feasible, Infeasible}
use Rattle.xc_system.specs.declared.types.Equation.{Equation}
use Rattle.xc_model.proofs.Signs.{negative_same, zero_same}
use Rattle.xc_verify.proofs.Known.{fact_of_point}
use Rattle.xc_verify.proofs.Amounts.{ends_worth, equation_worth, coefficient_worth, constant_worth}
use Rattle.xc_verify.specs.Feasible.{IsMetInside, IsMetAtPoint, assignment_of, count_objection, equation_terms}
use Rattle.xc_verify.specs.Infeasible.{FallsShort, Line, binding_objection, coefficient_terms, constant_terms, fact_objection, line_objection}
use Rattle.xc_verify.specs.Judgements.{IsMet, IsJudgement, IsTooWide, Proves}
use Rattle.xc_verify.specs.Objections.{IsFirstOf, IsFirstBelow, IsMetAt, IsMetIn, IsNothing}
use Rattle.xc_verify.specs.Sums.{Term, IsSumOf}
use Rattle.xc_verify.specs.declared.types.Judgement.{Judgement}
use Rattle.xc_verify.specs.declared.types.Judgement.TheVariants as judgement
use Rattle.xc_verify.specs.declared.types.Objection.{Objection}
use Rattle.xc_verify.specs.declared.types.Objection.TheVariants.{Misses, WideFact, TooWide}
use Rattle.xc_verify.specs.declared.types.What.{What}
use Rattle.xc_verify.specs.declared.types.What.TheVariants.{Point, Binding, Fact, Constant}

-- an objection that names no operation
abbrev IsMiss : Objection → Type 0
IsMiss (Misses what) = Unit {0}
IsMiss (WideFact k) = Unit {0}
IsMiss (TooWide what w) = ⊥

-- nothing like that is met
abbrev Never : (Option Objection → Type 0) → Type 0
Never Met = (o : Objection) → IsMiss o → Met (Some o) → ⊥

nothing : (o : Objection) → Some o ≡ None → ⊥
nothing o e = cc

passing : (o : Objection) (what : What) (w : Wide) → IsMiss o → Some o ≡ Some (TooWide what w) → ⊥
passing o what w i e = subst (λ (m : Option Objection). IfSome m IsMiss) e i

never_that : (met : Option Objection) → met ≡ None → Never (λ m. m ≡ met)
never_that met none o i e = nothing o (e ∙ none)

never_first_of : (one other : Option Objection → Type 0) → Never one → Never other → Never (IsFirstOf one other)
never_first_of one other f g o i (inl h) = f o i h
never_first_of one other f g o i (inr h) = g o i h.1

never_below : (n : ℕ) (Met : ℕ → Option Objection → Type 0) → ((k : ℕ) → k < n → Never (Met k)) → Never (IsFirstBelow n Met)
never_below n Met f o i h = f h.0 h.1 o i h.3

never_sum : (what : What) (IsRight : Ratio → Type 0) (ts : List Term) → ((x : Ratio) → IsSumOf ts (Ok x) → IsRight x) → Never (IsMetIn what IsRight ts)
never_sum what R ts right o i h = go h.end h.sum h.is_met
  where
    go : (r : Result Ratio Wide) → IsSumOf ts r → IsMetAt what R r (Some o) → ⊥
    go (Ok x) s m = m.0 (right x s)
    go (Err w) s m = passing o what w i m

-- values that solve the system
module _ (s : Constraints) (values : List Ratio) (count : length values ≡ s.points) (solves : Solves s (assignment_of values)) where
  counted : count_objection s.points values ≡ None
  counted = ap (λ (b : Bool). cond b None (Some (Misses (Point (min (length values) s.points))))) (eq-eqb (length values) s.points count)

  -- the interval of a fact has the value of its point
  has : (k p : ℕ) → IsIn k (facts_of s.bounds p) → k < length s.bounds → IsSomeAnd (range_at s.bounds k) (λ interval. HasNumber (numbers_of interval) (assignment_of values p))
  has k p listed within = go (slice_get_cases s.bounds k).1
    where
      go : ((b : Bound) × (k < length s.bounds) × (slice_get s.bounds k ≡ Some b) × (get_or s.bounds k b ≡ b)) ⊎ ((length s.bounds ≤ k) × (slice_get s.bounds k ≡ None)) → IsSomeAnd (range_at s.bounds k) (λ interval. HasNumber (numbers_of interval) (assignment_of values p))
      go (inl (b, l, there, at)) =
          let owner : b.point ≡ p = sym (get_or-map (λ (x : Bound). x.point) s.bounds k b 0 within ∙ ap (λ (x : Bound). x.point) at) ∙ (in_places (map (λ x. x.point) s.bounds) p k listed).1 in
          subst (λ (o : Option Bound). IsSomeAnd (option_map_or (λ x. x.range) o None) (λ interval. HasNumber (numbers_of interval) (assignment_of values p))) (sym there)
          (subst (λ (q : ℕ). IsSomeAnd b.range (λ interval. HasNumber (numbers_of interval) (assignment_of values q))) owner (solves.admitted k b there))
      go (inr (past, none)) = absurd (omega (arith, past, within))

  inside : (p i : ℕ) → i < length (facts_of s.bounds p) → IsSomeAnd (range_at s.bounds (slice_index (facts_of s.bounds p) i)) (λ interval. HasNumber (numbers_of interval) (assignment_of values p))
  inside p i h = has (slice_index (facts_of s.bounds p) i) p (is_in_at (facts_of s.bounds p) i h) (fact_of_point s.bounds p i h)

  never_inside : (k p : ℕ) (range : Option (Interval Ratio)) → IsSomeAnd range (λ interval. HasNumber (numbers_of interval) (assignment_of values p)) → Never (IsMetInside k values p range)
  never_inside k p None some o i m = absurd some
  never_inside k p (Some interval) has o i m = m.0 has

  balanced : (i : ℕ) → i < length s.equations → (x : Ratio) → IsSumOf (equation_terms values (equation_at s.equations i).entries) (Ok x) → IsNothing x
  balanced i h x sum =
      let es = (equation_at s.equations i).entries in
      zero_same (sum_over_entries es (assignment_of values)) (fraction_of x) (same-sym _ _ (same-trans _ _ _ (ends_worth (equation_terms values es) x sum) (equation_worth values es)))
      (solves.met i (equation_at s.equations i) (slice_get-get_or s.equations i (record { entries = [] }) h))

  never_values : Never (IsMet s (Feasible values))
  never_values = never_first_of (λ o. o ≡ count_objection s.points values) (IsFirstOf (IsFirstBelow s.points (IsMetAtPoint s.bounds values)) (IsFirstBelow (length s.equations) (λ i o. IsMetIn (Binding i) IsNothing (equation_terms values (equation_at s.equations i).entries) o)))
      (never_that _ counted)
      (never_first_of (IsFirstBelow s.points (IsMetAtPoint s.bounds values)) (IsFirstBelow (length s.equations) (λ i o. IsMetIn (Binding i) IsNothing (equation_terms values (equation_at s.equations i).entries) o))
      (never_below s.points (IsMetAtPoint s.bounds values) (λ p h. never_below (length (facts_of s.bounds p)) (λ i o. IsMetInside (slice_index (facts_of s.bounds p) i) values p (range_at s.bounds (slice_index (facts_of s.bounds p) i)) o)
      (λ i l. never_inside (slice_index (facts_of s.bounds p) i) p (range_at s.bounds (slice_index (facts_of s.bounds p) i)) (inside p i l))))
      (never_below (length s.equations) (λ i o. IsMetIn (Binding i) IsNothing (equation_terms values (equation_at s.equations i).entries) o) (λ i h. never_sum (Binding i) IsNothing (equation_terms values (equation_at s.equations i).entries) (balanced i h))))

-- multipliers that contradict it
none_given : (f : Line → Option Objection) (ms : List Line) → AllByRecursion (λ m. f m ≡ None) ms → first_given f ms ≡ None
none_given f [] a = refl
none_given f (m ∷ ms) a = ap (λ (o : Option Objection). option_or o (first_given f ms)) a.0 ∙ none_given f ms a.1

all_so : (P Q : Line → Type 0) (ms : List Line) → ((m : Line) → P m → Q m) → AllByRecursion P ms → AllByRecursion Q ms
all_so P Q [] h a = tt
all_so P Q (m ∷ ms) h a = (h m a.0, all_so P Q ms h a.1)

binding_fine : (equations : List Equation) (i : ℕ) → i < length equations → binding_objection equations i ≡ None
binding_fine equations i h = ap (λ (o : Option Equation). option_map_or (λ equation. None) o (Some (Misses (Binding i)))) (slice_get-get_or equations i (record { entries = [] }) h)

fact_fine : (bounds : List Bound) (k : ℕ) → IsSomeAnd (range_at bounds k) (λ interval. Unit {0}) → fact_objection bounds k ≡ None
fact_fine bounds k h = go (slice_get bounds k) h
  where
    known : (range : Option (Interval Ratio)) → IsSomeAnd range (λ interval. Unit {0}) → option_map_or (λ interval. None) range (Some (WideFact k)) ≡ None
    known None some = absurd some
    known (Some i) some = refl

    go : (o : Option Bound) → IsSomeAnd (option_map_or (λ bound. bound.range) o None) (λ interval. Unit {0}) → option_map_or (λ bound. option_map_or (λ interval. None) bound.range (Some (WideFact k))) o (Some (Misses (Fact k))) ≡ None
    go None some = absurd some
    go (Some b) some = known b.range some

module _ (s : Constraints) (r : Multipliers) (c : IsContradiction s r) where
  lines_fine : line_objection s r ≡ None
  lines_fine = ap (λ (o : Option Objection). option_or o (option_or (first_given (λ m. fact_objection s.bounds m.0) r.lows) (first_given (λ m. fact_objection s.bounds m.0) r.highs)))
      (none_given (λ m. binding_objection s.equations m.0) r.bindings (all_so (λ m. m.0 < length s.equations) _ r.bindings (λ m h. binding_fine s.equations m.0 h) (recursion_from_All _ r.bindings c.bindings)))
      ∙ ap (λ (o : Option Objection). option_or o (first_given (λ m. fact_objection s.bounds m.0) r.highs))
      (none_given (λ m. fact_objection s.bounds m.0) r.lows (all_so (λ m. IsKnown s m.0) _ r.lows (λ m h. fact_fine s.bounds m.0 h) (recursion_from_All _ r.lows c.lows)))
      ∙ none_given (λ m. fact_objection s.bounds m.0) r.highs (all_so (λ m. IsKnown s m.0) _ r.highs (λ m h. fact_fine s.bounds m.0 h) (recursion_from_All _ r.highs c.highs))

  cancelled : (p : ℕ) → p < s.points → (x : Ratio) → IsSumOf (coefficient_terms s r p) (Ok x) → IsNothing x
  cancelled p h x sum = zero_same (coefficient s r p) (fraction_of x) (same-sym _ _ (same-trans _ _ _ (ends_worth (coefficient_terms s r p) x sum) (coefficient_worth s r p))) (c.cancels p h)

  short : (x : Ratio) → IsSumOf (constant_terms s r) (Ok x) → FallsShort s r x
  short x sum = go c.short
    where
      same : SameNumber (constant s r) (fraction_of x)
      same = same-sym _ _ (same-trans _ _ _ (ends_worth (constant_terms s r) x sum) (constant_worth s r))

      go : IsShort s r → FallsShort s r x
      go (inl less) = inl (negative_same (constant s r) (fraction_of x) same less)
      go (inr zero) = inr (zero_same (constant s r) (fraction_of x) same zero.0, zero.1)

  never_multipliers : Never (IsMet s (Infeasible r))
  never_multipliers = never_first_of (λ o. o ≡ line_objection s r) (IsFirstOf (IsFirstBelow s.points (λ p o. IsMetIn (Point p) IsNothing (coefficient_terms s r p) o)) (IsMetIn Constant (FallsShort s r) (constant_terms s r)))
      (never_that _ lines_fine)
      (never_first_of (IsFirstBelow s.points (λ p o. IsMetIn (Point p) IsNothing (coefficient_terms s r p) o)) (IsMetIn Constant (FallsShort s r) (constant_terms s r))
      (never_below s.points (λ p o. IsMetIn (Point p) IsNothing (coefficient_terms s r p) o) (λ p h. never_sum (Point p) IsNothing (coefficient_terms s r p) (cancelled p h)))
      (never_sum Constant (FallsShort s r) (constant_terms s r) short))

never_met : (s : Constraints) (c : Certificate) → Proves s c → Never (IsMet s c)
never_met s (Feasible values) h = never_values s values h.0 h.1
never_met s (Infeasible r) h = never_multipliers s r h.0

pub proof_accepted : (s : Constraints) (c : Certificate) (j : Judgement) → IsJudgement s c j → Proves s c → (j ≡ judgement.Accepted) ⊎ IsTooWide j
proof_accepted s c judgement.Accepted h k = inl refl
proof_accepted s c (judgement.Misses what) h k = absurd (never_met s c k (Misses what) tt h)
proof_accepted s c (judgement.WideFact f) h k = absurd (never_met s c k (WideFact f) tt h)
proof_accepted s c (judgement.TooWide what w) h k = inr tt

-- a proof is accepted where no sum passes
module _ (s : Constraints) (values : List Ratio) (count : length values ≡ s.points) (solves : Solves s (assignment_of values)) where
  pub solved_accepted : ((i : ℕ) → i < length s.equations → (x : Ratio) × IsSumOf (equation_terms values (equation_at s.equations i).entries) (Ok x)) → IsJudgement s (Feasible values) judgement.Accepted
  solved_accepted sums = (
    sym (counted s values count solves),
    (
      λ p h i l. met (slice_index (facts_of s.bounds p) i) p (range_at s.bounds (slice_index (facts_of s.bounds p) i)) (inside s values count solves p i l),
      λ i h. record { end = Ok (sums i h).0; sum = (sums i h).1; is_met = balanced s values count solves i h (sums i h).0 (sums i h).1 },
    ),
  )
    where
      met : (k p : ℕ) (range : Option (Interval Ratio)) → IsSomeAnd range (λ interval. HasNumber (numbers_of interval) (assignment_of values p)) → IsMetInside k values p range None
      met k p None some = absurd some
      met k p (Some interval) has = has

module _ (s : Constraints) (r : Multipliers) (c : IsContradiction s r) where
  pub contradiction_accepted : ((p : ℕ) → p < s.points → (x : Ratio) × IsSumOf (coefficient_terms s r p) (Ok x)) → ((x : Ratio) × IsSumOf (constant_terms s r) (Ok x)) → IsJudgement s (Infeasible r) judgement.Accepted
  contradiction_accepted points constant = (
    sym (lines_fine s r c),
    (
      λ p h. record { end = Ok (points p h).0; sum = (points p h).1; is_met = cancelled s r c p h (points p h).0 (points p h).1 },
      record { end = Ok constant.0; sum = constant.1; is_met = short s r c constant.0 constant.1 },
    ),
  )
