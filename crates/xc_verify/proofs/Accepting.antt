-- What is accepted is proved.
use Rattle.std.proofs.Common.{◌≡◌, ◌<◌, ◌==◌, Bool, true, false, cond, min, refl, ℕ, suc, List, [], ◌∷◌, length, map, get_or, slice_index, Option, Some, None, Result, Ok, Err, inl, inr, sym, ap, subst, ◌∙◌, arith}
use Rattle.std.proofs.lemmas.Bool.{eqb-true}
use Rattle.std.proofs.lemmas.List.{length-map, get_or-map}
use Rattle.std.proofs.lemmas.Option.{slice_get_within, get_or_from_slice_get}
use Rattle.std.specs.Option.{option_map_or}
use Rattle.std.specs.Prelude.{IsSomeAnd, slice_get}
use Rattle.xc_frac.specs.declared.wide.Wide.{Wide}
use Rattle.xc_interval.specs.Intervals.{numbers_of, HasNumber}
use Rattle.xc_interval.specs.declared.interval.Interval.{Interval}
use Rattle.xc_model.specs.Ratio.{Ratio, fraction_of}
use Rattle.xc_lists.proofs.Members.{places_in}
use Rattle.xc_system.specs.Kept.{Multipliers, IsRefutation}
use Rattle.xc_system.specs.Laws.{ExcludesSolutions}
use Rattle.xc_lists.specs.Members.{IsIn}
use Rattle.xc_system.specs.Refutations.{IsContradiction, IsShort, coefficient, constant}
use Rattle.xc_system.specs.Solutions.{IsZero, Admits, Holds, Solves, sum_over_entries}
use Rattle.xc_system.specs.Systems.{Constraints, IsSystem, equation_at, facts_of, range_at}
use Rattle.xc_system.specs.declared.types.Bound.{Bound}
use Rattle.xc_system.specs.declared.types.Certificate.{Certificate}
use Rattle.xc_system.specs.declared.types.Certificate.TheVariants.{Feasible, Infeasible}
use Rattle.xc_system.specs.declared.types.Equation.{Equation}
use Rattle.xc_model.proofs.Signs.{negative_same, zero_same}
use Rattle.xc_verify.proofs.Amounts.{amount, ends_worth, equation_worth, coefficient_worth, constant_worth}
use Rattle.xc_verify.proofs.Known.{bindings_there, lows_known, highs_known}
use Rattle.xc_verify.specs.Feasible.{assignment_of, equation_terms, IsMetInside, AreValuesMet}
use Rattle.xc_verify.specs.Infeasible.{coefficient_terms, constant_terms, FallsShort, IsRefutationMet}
use Rattle.xc_verify.specs.Judgements.{IsJudgement, IsMet, Proves}
use Rattle.xc_verify.specs.Laws.{AcceptanceProves}
use Rattle.xc_verify.specs.Objections.{IsMetAt, IsMetIn, IsNothing, objection_of}
use Rattle.xc_verify.specs.Sums.{Term, IsSumOf}
use Rattle.xc_verify.specs.declared.types.Judgement.{Judgement}
use Rattle.xc_verify.specs.declared.types.Judgement.TheVariants.{Accepted}
use Rattle.xc_verify.specs.declared.types.Objection.{Objection}
use Rattle.xc_verify.specs.declared.types.Objection.TheVariants.{Misses}
use Rattle.xc_verify.specs.declared.types.What.{What}
use Rattle.xc_verify.specs.declared.types.What.TheVariants.{Point, Binding, Constant}

nothing : {X : Type 0} (x : X) → None ≡ Some x → ⊥
nothing x e = cc

-- where nothing is met in a sum that has to be 0, its terms are worth 0
summed : (what : What) (ts : List Term) → IsMetIn what IsNothing ts None → IsZero (amount ts)
summed what ts h = go h.end h.sum h.is_met
  where
    go : (r : Result Ratio Wide) → IsSumOf ts r → IsMetAt what IsNothing r None → IsZero (amount ts)
    go (Ok x) s z = zero_same (fraction_of x) (amount ts) (ends_worth ts x s) z
    go (Err w) s z = absurd (nothing _ z)

-- what stands in a list stands at one of its places
place_of : (k : ℕ) (xs : List ℕ) → IsIn k xs → (i : ℕ) × (i < length xs) × (slice_index xs i ≡ k)
place_of k [] h = absurd h
place_of k (x ∷ xs) (inl e) = (0, omega arith, sym e)
place_of k (x ∷ xs) (inr h) = let r = place_of k xs h in let l = r.1 in (suc r.0, omega arith, r.2)

-- a fact is among those of its point
fact_placed : (bounds : List Bound) (k : ℕ) (bound : Bound) → slice_get bounds k ≡ Some bound → (i : ℕ) × (i < length (facts_of bounds bound.point)) × (slice_index (facts_of bounds bound.point) i ≡ k)
fact_placed bounds k bound there = place_of k (facts_of bounds bound.point) (places_in (map (λ b. b.point) bounds) bound.point k (omega (arith, length-map bounds (λ (b : Bound). b.point), slice_get_within bounds k bound there)) at)
  where
    at : get_or (map (λ b. b.point) bounds) k 0 ≡ bound.point
    at = get_or-map (λ (b : Bound). b.point) bounds k bound 0 (slice_get_within bounds k bound there) ∙ ap (λ (b : Bound). b.point) (get_or_from_slice_get bounds k bound bound there)

module _ (s : Constraints) (values : List Ratio) (ok : IsSystem s) (h : AreValuesMet s values None) where
  counted : length values ≡ s.points
  counted = go (length values == s.points) refl h.0
    where
      go : (b : Bool) → (length values == s.points) ≡ b → None ≡ cond b None (Some (Misses (Point (min (length values) s.points)))) → length values ≡ s.points
      go true e z = eqb-true (length values) s.points e
      go false e z = absurd (nothing _ z)

  admitted_at : (k : ℕ) (bound : Bound) → slice_get s.bounds k ≡ Some bound → Admits bound (assignment_of values bound.point)
  admitted_at k bound there = by bound.range (subst (λ (o : Option Bound). IsMetInside k values bound.point (option_map_or (λ b. b.range) o None) None) there here)
    where
      place : (i : ℕ) × (i < length (facts_of s.bounds bound.point)) × (slice_index (facts_of s.bounds bound.point) i ≡ k)
      place = fact_placed s.bounds k bound there

      within : bound.point < s.points
      within = subst (λ (b : Bound). b.point < s.points) (get_or_from_slice_get s.bounds k bound bound there) (ok.bounds k bound (slice_get_within s.bounds k bound there))

      here : IsMetInside k values bound.point (range_at s.bounds k) None
      here = subst (λ (j : ℕ). IsMetInside j values bound.point (range_at s.bounds j) None) place.2 (h.1.0 bound.point within place.0 place.1)

      by : (o : Option (Interval Ratio)) → IsMetInside k values bound.point o None → IsSomeAnd o (λ interval. HasNumber (numbers_of interval) (assignment_of values bound.point))
      by None z = absurd (nothing _ z)
      by (Some i) z = z

  holds_at : (i : ℕ) (equation : Equation) → slice_get s.equations i ≡ Some equation → Holds equation (assignment_of values)
  holds_at i equation there = zero_same (amount (equation_terms values equation.entries)) (sum_over_entries equation.entries (assignment_of values)) (equation_worth values equation.entries)
      (subst (λ (e : Equation). IsZero (amount (equation_terms values e.entries))) (get_or_from_slice_get s.equations i equation (record { entries = [] }) there) (summed (Binding i) (equation_terms values (equation_at s.equations i).entries) (h.1.1 i (slice_get_within s.equations i equation there))))

  pub values_solve : (length values ≡ s.points) × Solves s (assignment_of values)
  values_solve = (counted, record { admitted = admitted_at; met = holds_at })

module _ (s : Constraints) (r : Multipliers) (kept : IsRefutation r) (h : IsRefutationMet s r None) where
  short_at : (end : Result Ratio Wide) → IsSumOf (constant_terms s r) end → IsMetAt Constant (FallsShort s r) end None → IsShort s r
  short_at (Ok x) sum (inl less) = inl (negative_same (amount (constant_terms s r)) (constant s r) (constant_worth s r) (negative_same (fraction_of x) (amount (constant_terms s r)) (ends_worth (constant_terms s r) x sum) less))
  short_at (Ok x) sum (inr zero) = inr (zero_same (amount (constant_terms s r)) (constant s r) (constant_worth s r) (zero_same (fraction_of x) (amount (constant_terms s r)) (ends_worth (constant_terms s r) x sum) zero.0), zero.1)
  short_at (Err w) sum z = absurd (nothing _ z)

  pub contradicts : IsContradiction s r
  contradicts = record {
    kept = kept;
    bindings = bindings_there s r (sym h.0);
    lows = lows_known s r (sym h.0);
    highs = highs_known s r (sym h.0);
    cancels = λ j l. zero_same (amount (coefficient_terms s r j)) (coefficient s r j) (coefficient_worth s r j) (summed (Point j) (coefficient_terms s r j) (h.1.0 j l));
    short = short_at h.1.1.end h.1.1.sum h.1.1.is_met;
  }

-- what is met in a certificate, and what is accepted of it
module _ (s : Constraints) (c : Certificate) (values now : List Ratio) (j : Judgement) (met : Option Objection) (is : c ≡ Feasible values) (lent : now ≡ values) (h : AreValuesMet s now met) (told : objection_of j ≡ met) where
  pub values_judged : IsJudgement s c j
  values_judged = subst (λ (d : Certificate). IsMet s d (objection_of j)) (sym is) (subst (λ (m : Option Objection). AreValuesMet s values m) (sym told) (subst (λ (vs : List Ratio). AreValuesMet s vs met) lent h))

  pub values_accepted : IsSystem s → j ≡ Accepted → Proves s c
  values_accepted ok e = subst (λ (d : Certificate). Proves s d) (sym is)
      (values_solve s values ok (subst (λ (m : Option Objection). AreValuesMet s values m) (sym told ∙ ap objection_of e) (subst (λ (vs : List Ratio). AreValuesMet s vs met) lent h)))

module _ (s : Constraints) (c : Certificate) (r : Multipliers) (j : Judgement) (met : Option Objection) (is : c ≡ Infeasible r) (h : IsRefutationMet s r met) (told : objection_of j ≡ met) where
  pub refutation_judged : IsJudgement s c j
  refutation_judged = subst (λ (d : Certificate). IsMet s d (objection_of j)) (sym is) (subst (λ (m : Option Objection). IsRefutationMet s r m) (sym told) h)

  pub refutation_accepted : ExcludesSolutions → IsSystem s → IsRefutation r → j ≡ Accepted → Proves s c
  refutation_accepted excludes ok kept e = subst (λ (d : Certificate). Proves s d) (sym is)
      (let contradiction = contradicts s r kept (subst (λ (m : Option Objection). IsRefutationMet s r m) (sym told ∙ ap objection_of e) h) in
      (contradiction, λ z. excludes s r z ok contradiction))

-- an accepted certificate proves its claim
pub acceptance_proves : ExcludesSolutions → AcceptanceProves
acceptance_proves excludes s (Feasible values) ok kept h = values_solve s values ok h
acceptance_proves excludes s (Infeasible r) ok kept h =
    let contradiction = contradicts s r kept h in
    (contradiction, λ z. excludes s r z ok contradiction)
