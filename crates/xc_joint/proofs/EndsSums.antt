-- The checker's sums at the points of a refutation by the two ends of an empty point.
use Rattle.std.proofs.Common.{◌≡◌, ◌++◌, ◌==◌, ℕ, Bool, true, false, cond, List, [], ◌∷◌, map, Ok, pos, refl, sym, ap, subst, ◌∙◌, arith}
use Rattle.xc_joint.proofs.Crossing.{in_middle}
use Rattle.xc_joint.proofs.Placed.{placed_in}
use Rattle.xc_joint.specs.Causes.{IsFirstEmpty, IsOfFirstEmpty}
use Rattle.xc_joint.specs.Steps.UnitSums.{HasSums}
use Rattle.xc_model.proofs.NumbersOver.{sum_of_fits, difference_of_fits}
use Rattle.xc_model.specs.Fraction.{IsNumberOver}
use Rattle.xc_model.specs.Ratio.{Ratio, fraction_of}
use Rattle.xc_system.specs.Kept.{Multipliers}
use Rattle.xc_lists.specs.Members.{IsIn}
use Rattle.xc_system.specs.Systems.{Constraints, facts_of, point_at}
use Rattle.xc_system.specs.declared.types.Component.{Component}
use Rattle.xc_verify.specs.Infeasible.{coefficient_terms, constant_terms}
use Rattle.xc_verify.specs.Sums.{Term, plus, minus, IsSumOf, zero_ratio}

module _ (one : Ratio) (n : one.num ≡ pos 1) (d : one.den ≡ pos 1) where
  whole_one : IsNumberOver (fraction_of one) (pos 1) 1
  whole_one = record { positive = omega arith; cross = rw (n, d) refl }

  whole_zero : IsNumberOver (fraction_of zero_ratio) (pos 0) 1
  whole_zero = record { positive = omega arith; cross = refl }

  both : IsSumOf (plus one ∷ minus one ∷ []) (Ok zero_ratio)
  both = (
    Ok one,
    (sum_of_fits zero_ratio one (pos 0) (pos 1) 1 whole_zero whole_one (record { den = omega arith; left = omega arith; right = omega arith; sum = omega arith }), record { cross = rw (n, d) refl }),
    (
      Ok zero_ratio,
      (difference_of_fits one one (pos 1) (pos 1) 1 whole_one whole_one (record { den = omega arith; left = omega arith; right = omega arith; sum = omega arith }), record { cross = rw (n, d) refl }),
      refl,
    ),
  )

  -- at a point, both ends count or none does
  at_point : (b : Bool) → (x : Ratio) × IsSumOf (cond b (plus one ∷ []) [] ++ cond b (minus one ∷ []) []) (Ok x)
  at_point true = (zero_ratio, both)
  at_point false = (zero_ratio, refl)

abbrev ends : ℕ → ℕ → Ratio → Multipliers
ends k m one = record { bindings = []; lows = (k, one) ∷ []; highs = (m, one) ∷ [] }

module _ (s : Constraints) (c : Component) (r : Multipliers) (low high : ℕ) (own : IsOfFirstEmpty s c r low high) where
  owner_of : (k : ℕ) (front back : List ℕ) → facts_of s.bounds own.point ≡ front ++ k ∷ back → point_at s.bounds k ≡ own.point
  owner_of k front back e = placed_in s own.point k (subst (λ (l : List ℕ). IsIn k l) (sym e) (in_middle k front back))

  split : (one : Ratio) (p : ℕ) → coefficient_terms s (ends low high one) p ≡ cond (own.point == p) (plus one ∷ []) [] ++ cond (own.point == p) (minus one ∷ []) []
  split one p = ap (λ (q : ℕ). terms (q == p) (point_at s.bounds high == p)) (owner_of low own.tightest.0.front own.tightest.0.back own.tightest.0.there)
      ∙ ap (λ (q : ℕ). terms (own.point == p) (q == p)) (owner_of high own.tightest.1.front own.tightest.1.back own.tightest.1.there)
      ∙ told (own.point == p)
    where
      -- the terms by whether the ends are of the point
      terms : Bool → Bool → List Term
      terms a b = map (λ (m : ℕ × Ratio). plus m.1) (cond a ((low, one) ∷ []) []) ++ map (λ (m : ℕ × Ratio). minus m.1) (cond b ((high, one) ∷ []) [])

      told : (b : Bool) → terms b b ≡ cond b (plus one ∷ []) [] ++ cond b (minus one ∷ []) []
      told true = refl
      told false = refl

  pub ends_sums : ((x : Ratio) × IsSumOf (constant_terms s r) (Ok x)) → HasSums s r
  ends_sums constant = record {
    points = λ p h. subst (λ (q : Multipliers). (x : Ratio) × IsSumOf (coefficient_terms s q p) (Ok x)) (sym own.lists.is)
        (subst (λ (ts : List Term). (x : Ratio) × IsSumOf ts (Ok x)) (sym (split own.lists.one p)) (at_point own.lists.one own.lists.num own.lists.den (own.point == p)));
    constant = constant;
  }

-- the first empty point that was found is the first
pub first_is : (s : Constraints) (c : Component) (r : Multipliers) (low high : ℕ) → IsOfFirstEmpty s c r low high → (p : ℕ) → IsFirstEmpty s c p → (l h : ℕ) × IsOfFirstEmpty s c r l h
first_is s c r low high own p first = (low, high, own)
