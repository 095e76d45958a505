-- The ranges of points that are bounded, and the facts of a component without a wide one.
use Rattle.std.proofs.Common.{◌≡◌, ℕ, List, [], ◌∷◌, map, Option, Some, None, inl, inr, refl, sym, ap, subst, arith}
use Rattle.std.proofs.lemmas.List.{length-map}
use Rattle.std.specs.Prelude.{is_none}
use Rattle.xc_interval.specs.Ranges.{AllKnown}
use Rattle.xc_interval.specs.declared.interval.Interval.{Interval}
use Rattle.xc_joint.specs.Causes.{HasNoWide}
use Rattle.xc_joint.specs.ComponentProblems.{IsTightestRange}
use Rattle.xc_joint.specs.Lists.{AreEach}
use Rattle.xc_joint.specs.Steps.OneForest.{IsBounded}
use Rattle.xc_joint.proofs.Placed.{placed_in}
use Rattle.xc_lists.proofs.Members.{in_places}
use Rattle.xc_lists.specs.Members.{IsIn}
use Rattle.xc_model.specs.Ratio.{Ratio}
use Rattle.xc_system.specs.Systems.{Constraints, facts_of, range_at}
use Rattle.xc_system.specs.declared.types.Bound.{Bound}
use Rattle.xc_system.specs.declared.types.Component.{Component}

-- all facts of the points are known
abbrev pub HasKnown : Constraints → List ℕ → Type 0
HasKnown s points = (p : ℕ) → IsIn p points → AllKnown (map (range_at s.bounds) (facts_of s.bounds p))

module _ (s : Constraints) where
  pub bounded_tightest : (points : List ℕ) (ranges : List (Interval Ratio)) → AreEach (IsBounded s) points ranges → AreEach (IsTightestRange s) points ranges
  bounded_tightest [] [] h = tt
  bounded_tightest [] (r ∷ rs) h = absurd h
  bounded_tightest (p ∷ ps) [] h = absurd h
  bounded_tightest (p ∷ ps) (r ∷ rs) h = (
    record {
      low_fact = h.0.span.low;
      high_fact = h.0.span.high;
      low_first = h.0.is.low;
      high_first = h.0.is.high;
      low = h.0.of.low;
      high = h.0.of.high;
      low_known = h.0.of.low_known;
      high_known = h.0.of.high_known;
      low_is = h.0.of.low_is;
      high_is = h.0.of.high_is;
    },
    bounded_tightest ps rs h.1,
  )

  pub bounded_known : (points : List ℕ) (ranges : List (Interval Ratio)) → AreEach (IsBounded s) points ranges → HasKnown s points
  bounded_known [] ranges h p i = absurd i
  bounded_known (q ∷ qs) [] h p i = absurd h
  bounded_known (q ∷ qs) (r ∷ rs) h p (inl e) = subst (λ (x : ℕ). AllKnown (map (range_at s.bounds) (facts_of s.bounds x))) (sym e) h.0.is.known
  bounded_known (q ∷ qs) (r ∷ rs) h p (inr i) = bounded_known qs rs h.1 p i

  -- a component without a wide fact has known ones alone
  pub unwide_known : (c : Component) → HasNoWide s c → HasKnown s c.points
  unwide_known c none p there = by (facts_of s.bounds p) (λ k i. i)
    where
      one : (k : ℕ) → IsIn k (facts_of s.bounds p) → range_at s.bounds k ≡ None → ⊥
      one k i e = none k (record {
        there = let at = in_places (map (λ (b : Bound). b.point) s.bounds) p k i in omega (arith, at.0, length-map s.bounds (λ (b : Bound). b.point));
        own = subst (λ q. IsIn q c.points) (sym (placed_in s p k i)) there;
        wide = ap is_none e;
      })

      next : (k : ℕ) (ks : List ℕ) → IsIn k (facts_of s.bounds p) → AllKnown (map (range_at s.bounds) ks) → (o : Option (Interval Ratio)) → range_at s.bounds k ≡ o → AllKnown (o ∷ map (range_at s.bounds) ks)
      next k ks i rest None e = absurd (one k i e)
      next k ks i rest (Some r) e = rest

      by : (ks : List ℕ) → ((k : ℕ) → IsIn k ks → IsIn k (facts_of s.bounds p)) → AllKnown (map (range_at s.bounds) ks)
      by [] own = tt
      by (k ∷ ks) own = next k ks (own k (inl refl)) (by ks (λ j i. own j (inr i))) (range_at s.bounds k) refl
