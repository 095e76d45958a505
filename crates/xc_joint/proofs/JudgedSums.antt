-- What the checker's judgement of a refutation says of its sums.
use Rattle.std.proofs.Common.{◌≡◌, ◌⊎◌, ℕ, List, [], ◌∷◌, Option, Some, None, Result, Ok, Err, inl, inr, sym, subst, ◌∙◌}
use Rattle.std.specs.Option.{option_map_or, option_or}
use Rattle.std.specs.Prelude.{slice_get}
use Rattle.xc_frac.specs.declared.wide.Wide.{Wide}
use Rattle.xc_interval.specs.declared.interval.Interval.{Interval}
use Rattle.xc_joint.specs.Steps.ByCorners.{NamesPassing, PassesInRefutation}
use Rattle.xc_joint.specs.Steps.UnitSums.{HasSums}
use Rattle.xc_lists.specs.Places.{first_given}
use Rattle.xc_model.specs.Ratio.{Ratio}
use Rattle.xc_system.specs.Kept.{Multipliers}
use Rattle.xc_system.specs.Systems.{Constraints}
use Rattle.xc_system.specs.declared.types.Bound.{Bound}
use Rattle.xc_system.specs.declared.types.Certificate.{Certificate}
use Rattle.xc_system.specs.declared.types.Certificate.TheVariants.{Infeasible}
use Rattle.xc_system.specs.declared.types.Equation.{Equation}
use Rattle.xc_verify.specs.Infeasible.{FallsShort, Line, binding_objection, coefficient_terms, constant_terms, fact_objection, line_objection}
use Rattle.xc_verify.specs.Judgements.{IsJudgement, IsTooWide, Proves}
use Rattle.xc_verify.specs.Objections.{IsMetAt, IsMetIn, IsNothing}
use Rattle.xc_verify.specs.Sums.{Term, IsSumOf}
use Rattle.xc_verify.specs.declared.types.Judgement.{Judgement}
use Rattle.xc_verify.specs.declared.types.Judgement.TheVariants.{Accepted, Misses, TooWide, WideFact}
use Rattle.xc_verify.specs.declared.types.Objection.{Objection}
use Rattle.xc_verify.specs.declared.types.Objection.TheVariants as objection
use Rattle.xc_verify.specs.declared.types.What.{What}
use Rattle.xc_verify.specs.declared.types.What.TheVariants as what
use Rattle.xc_verify.specs.declared.types.What.TheVariants.{Constant, Point}

-- ---- one sum

summed : (at_what : What) (P : Ratio → Type 0) (ts : List Term) → IsMetIn at_what P ts None → (x : Ratio) × IsSumOf ts (Ok x)
summed at_what P ts h = go h.end h.sum h.is_met
  where
    go : (r : Result Ratio Wide) → IsSumOf ts r → IsMetAt at_what P r None → (x : Ratio) × IsSumOf ts (Ok x)
    go (Ok x) sum met = (x, sum)
    go (Err w) sum met = absurd (none met)
      where
        none : None ≡ Some (objection.TooWide at_what w) → ⊥
        none e = cc

stopped : (told at : What) (w : Wide) (P : Ratio → Type 0) (ts : List Term) → IsMetIn at P ts (Some (objection.TooWide told w)) → IsSumOf ts (Err w)
stopped told at w P ts h = go h.end h.sum h.is_met
  where
    go : (r : Result Ratio Wide) → IsSumOf ts r → IsMetAt at P r (Some (objection.TooWide told w)) → IsSumOf ts (Err w)
    go (Ok x) sum met = absurd (apart met.1)
      where
        apart : objection.TooWide told w ≡ objection.Misses at → ⊥
        apart e = cc
    go (Err v) sum met = subst (λ (u : Wide). IsSumOf ts (Err u)) (same met) sum
      where
        same : Some (objection.TooWide told w) ≡ Some (objection.TooWide at v) → v ≡ w
        same e = cc

-- ---- the lines

-- no operation is told of a line
abbrev TellsNone : Option Objection → Type 0
TellsNone None = Unit {0}
TellsNone (Some (objection.Misses w)) = Unit {0}
TellsNone (Some (objection.WideFact k)) = Unit {0}
TellsNone (Some (objection.TooWide at w)) = ⊥

either_none : (a b : Option Objection) → TellsNone a → TellsNone b → TellsNone (option_or a b)
either_none None b h k = k
either_none (Some o) b h k = h

given_none : (f : Line → Option Objection) → ((m : Line) → TellsNone (f m)) → (ms : List Line) → TellsNone (first_given f ms)
given_none f h [] = tt
given_none f h (m ∷ ms) = either_none (f m) (first_given f ms) (h m) (given_none f h ms)

binding_none : (equations : List Equation) (i : ℕ) → TellsNone (binding_objection equations i)
binding_none equations i = go (slice_get equations i)
  where
    go : (o : Option Equation) → TellsNone (option_map_or (λ equation. None) o (Some (objection.Misses (what.Binding i))))
    go None = tt
    go (Some e) = tt

fact_none : (bounds : List Bound) (k : ℕ) → TellsNone (fact_objection bounds k)
fact_none bounds k = go (slice_get bounds k)
  where
    known : (o : Option (Interval Ratio)) → TellsNone (option_map_or (λ interval. None) o (Some (objection.WideFact k)))
    known None = tt
    known (Some i) = tt

    go : (o : Option Bound) → TellsNone (option_map_or (λ bound. option_map_or (λ interval. None) bound.range (Some (objection.WideFact k))) o (Some (objection.Misses (what.Fact k))))
    go None = tt
    go (Some b) = known b.range

lines_none : (s : Constraints) (r : Multipliers) → TellsNone (line_objection s r)
lines_none s r = either_none _ _ (given_none (λ m. binding_objection s.equations m.0) (λ m. binding_none s.equations m.0) r.bindings)
    (either_none _ _ (given_none (λ m. fact_objection s.bounds m.0) (λ m. fact_none s.bounds m.0) r.lows) (given_none (λ m. fact_objection s.bounds m.0) (λ m. fact_none s.bounds m.0) r.highs))

-- ---- the judgement

module _ (s : Constraints) (r : Multipliers) where
  pub accepted_sums : IsJudgement s (Infeasible r) Accepted → HasSums s r
  accepted_sums h = record {
    points = λ p l. summed (Point p) IsNothing (coefficient_terms s r p) (h.1.0 p l);
    constant = summed Constant (FallsShort s r) (constant_terms s r) h.1.1;
  }

  pub wide_passes : (told : What) (w : Wide) → IsJudgement s (Infeasible r) (TooWide told w) → PassesInRefutation s r w
  wide_passes told w (inl e) = absurd (subst TellsNone (sym e) (lines_none s r))
  wide_passes told w (inr (none, inl (p, l, before, met))) = inl (p, l, stopped told (Point p) w IsNothing (coefficient_terms s r p) met)
  wide_passes told w (inr (none, inr (also, met))) = inr (stopped told Constant w (FallsShort s r) (constant_terms s r) met)

-- ---- the judgement of a certificate that is a refutation

named_passes : (s : Constraints) (r : Multipliers) (j : Judgement) (w : Wide) → IsJudgement s (Infeasible r) j → NamesPassing j w → PassesInRefutation s r w
named_passes s r Accepted w h e = absurd e
named_passes s r (Misses told) w h e = absurd e
named_passes s r (WideFact k) w h e = absurd e
named_passes s r (TooWide told v) w h e = subst (λ (u : Wide). PassesInRefutation s r u) e (wide_passes s r told v h)

pub certificate_passes : (s : Constraints) (r : Multipliers) (c : Certificate) (j : Judgement) (w : Wide) → c ≡ Infeasible r → IsJudgement s c j → NamesPassing j w → PassesInRefutation s r w
certificate_passes s r c j w e h = named_passes s r j w (subst (λ (x : Certificate). IsJudgement s x j) e h)

pub certificate_sums : (s : Constraints) (r : Multipliers) (c : Certificate) (j : Judgement) → c ≡ Infeasible r → IsJudgement s c j → (Proves s c → (j ≡ Accepted) ⊎ IsTooWide j) → ¬ IsTooWide j → Proves s (Infeasible r) → HasSums s r
certificate_sums s r c j e h told none proves = go (told (subst (Proves s) (sym e) proves))
  where
    go : (j ≡ Accepted) ⊎ IsTooWide j → HasSums s r
    go (inl same) = accepted_sums s r (subst (λ (x : Judgement). IsJudgement s (Infeasible r) x) same (subst (λ (x : Certificate). IsJudgement s x j) e h))
    go (inr wide) = absurd (none wide)

pub same_refutation : (c : Certificate) (r q : Multipliers) → c ≡ Infeasible r → c ≡ Infeasible q → q ≡ r
same_refutation c r q e f = inner (sym f ∙ e)
  where
    inner : Infeasible q ≡ Infeasible r → q ≡ r
    inner g = cc
