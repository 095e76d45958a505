-- What is known along the run, and at its end.
use Rattle.std.proofs.Common.{◌≡◌, ℕ, zero, suc, ◌+◌, ◌<◌, ◌≤◌, Bool, ◌⊎◌, inl, inr, ⊎_elim, refl, sym, subst, arith}
use Rattle.std.proofs.lemmas.Bool.{cases_lt}
use Rattle.xc_corners.specs.Choices.{corner_after_exchange, Exchange, Exchanges, IsReachedBy, IsLast, IsFeasible, IsConflict}
use Rattle.xc_corners.specs.Corners.{Corner, Factors, IsSolvedForm}
use Rattle.xc_corners.specs.Operations.{StandsAt, at_first, in_exchange, in_step, PassesAt, IsBasic, IsOther, IsFactor, StandsInExchange, StandsInStep}
use Rattle.xc_corners.specs.Problems.{IsWholeProblem}
use Rattle.xc_corners.specs.WholeNumbers.{whole_problem}
use Rattle.xc_corners.specs.declared.problem.Problem.{Problem}
use Rattle.xc_frac.specs.declared.wide.Wide.{Wide}
use Rattle.xc_pivot.specs.CornerLaws.{CornerLaws}
use Rattle.xc_pivot.specs.Firsts.{PassesFirst}
use Rattle.xc_pivot.specs.States.{IsChoice, HasNoChoice}
use Rattle.xc_pivot.specs.Steps.{PassesNext}
use Rattle.xc_pivot.specs.Walks.{NothingPasses}
use Rattle.xc_pivot.specs.declared.types.Choice.{Choice}
use Rattle.xc_pivot.specs.declared.types.Place.{Place}
use Rattle.std.proofs.Common.{List}
use Rattle.xc_pivot.proofs.Transfer.{exchange_moves, step_moves}

module _ (problem : Problem) (w : IsWholeProblem (whole_problem problem)) (x : Corner) (t : Factors) (solved : IsSolvedForm (whole_problem problem) x t) where
  -- the choice is an exchange
  abbrev pub exchange_of : (places : List Place) (choice : Choice) → IsChoice (whole_problem problem) places x t choice
      → Exchange (whole_problem problem) x choice.leaving.variable choice.entering.variable (corner_after_exchange (whole_problem problem) x choice.leaving.above choice.leaving.variable choice.entering.variable)
  exchange_of places choice chosen = record { factors = t; solved = solved; above = choice.leaving.above; leaves = chosen.leaving.leaves; enters = chosen.entering.enters; next = refl }

  -- an operation that passes in it passes at the corner
  pub passes_at : (places : List Place) (choice : Choice) (v : Wide) → IsChoice (whole_problem problem) places x t choice → PassesNext (whole_problem problem) x t choice v → PassesAt problem x v
  passes_at places choice v chosen h = record {
    stands = ⊎_elim
        (λ (o : StandsInExchange (IsBasic (whole_problem problem) x) (IsOther (whole_problem problem) x) (IsFactor t) choice.leaving.variable choice.entering.variable v). in_exchange choice.leaving.variable choice.entering.variable _ (exchange_of places choice chosen) o)
        (λ (o : StandsInStep (whole_problem problem) x t choice.leaving.above choice.leaving.variable choice.entering.variable v). in_step choice.leaving.variable choice.entering.variable _ (exchange_of places choice chosen) o)
        h.stands;
    passes = h.passes;
  }

  module _ (laws : CornerLaws) (first_fits : (v : Wide) → ¬ PassesFirst problem v) where
    -- where none passes in it, none passes at the corner
    pub none_at : (places : List Place) (choice : Choice) → IsChoice (whole_problem problem) places x t choice → ((v : Wide) → ¬ PassesNext (whole_problem problem) x t choice v) → (v : Wide) → ¬ PassesAt problem x v
    none_at places choice chosen fits v h = go h.stands
      where
        b : ℕ
        b = choice.leaving.variable

        go : StandsAt problem x v → ⊥
        go (at_first is o) = first_fits v (record { stands = o; passes = h.passes })
        go (in_exchange d r y e o) =
            let same = laws.choice (whole_problem problem) x y _ d r choice.leaving.variable choice.entering.variable w e (exchange_of places choice chosen) in
            let moved = exchange_moves laws (whole_problem problem) x e.factors t e.solved solved w.unit d r (e.leaves.is_variable, e.leaves.basic) (e.enters.is_variable, e.enters.can.other) v o in
            fits v (record { stands = inl (subst (λ k. StandsInExchange (IsBasic (whole_problem problem) x) (IsOther (whole_problem problem) x) (IsFactor t) k choice.entering.variable v) same.0 (subst (λ k. StandsInExchange (IsBasic (whole_problem problem) x) (IsOther (whole_problem problem) x) (IsFactor t) d k v) same.1 moved)); passes = h.passes })
        go (in_step d r y e o) =
            let same = laws.choice (whole_problem problem) x y _ d r choice.leaving.variable choice.entering.variable w e (exchange_of places choice chosen) in
            let moved = step_moves laws (whole_problem problem) x e.factors t e.solved solved w.unit d r (e.leaves.is_variable, e.leaves.basic) (e.enters.is_variable, e.enters.can.other) e.above v o in
            let side = (laws.leaving (whole_problem problem) x e.factors t e.above choice.leaving.above d choice.leaving.variable w e.solved solved e.leaves chosen.leaving.leaves).0 in
            fits v (record {
              stands = inr (subst (λ a. StandsInStep (whole_problem problem) x t a choice.leaving.variable choice.entering.variable v) side
                  (subst (λ k. StandsInStep (whole_problem problem) x t e.above k choice.entering.variable v) same.0 (subst (λ k. StandsInStep (whole_problem problem) x t e.above d k v) same.1 moved)));
              passes = h.passes;
            })

    module _ (none : HasNoChoice (whole_problem problem) x t) where
      no_exchange : (b q : ℕ) (y : Corner) → ¬ Exchange (whole_problem problem) x b q y
      no_exchange b q y e = ⊎_elim
          (λ (f : IsFeasible (whole_problem problem) x t). laws.feasible (whole_problem problem) x y t b q solved f e)
          (λ (f : (above : Bool) × (d : ℕ) × IsConflict (whole_problem problem) x t above d). laws.conflict (whole_problem problem) x y t f.0 f.1 b q w solved f.2 e)
          none

      -- at the last corner none passes
      none_here : (v : Wide) → ¬ PassesAt problem x v
      none_here v h = go h.stands
        where
          go : StandsAt problem x v → ⊥
          go (at_first is o) = first_fits v (record { stands = o; passes = h.passes })
          go (in_exchange d r y e o) = no_exchange d r y e
          go (in_step d r y e o) = no_exchange d r y e

      none_from : (k : ℕ) (y : Corner) (v : Wide) → Exchanges (whole_problem problem) k x y → ¬ PassesAt problem y v
      none_from zero y v e = subst (λ (z : Corner). ¬ PassesAt problem z v) e (none_here v)
      none_from (suc k) y v (z, b, q, e, es) = absurd (no_exchange b q z e)

      none_back : (y : Corner) (v : Wide) (m : ℕ) → Exchanges (whole_problem problem) m y x → m ≡ 0 → ¬ PassesAt problem y v
      none_back y v zero e same = subst (λ (z : Corner). ¬ PassesAt problem z v) (sym e) (none_here v)
      none_back y v (suc m) e same = absurd (omega (arith, same))

      -- and so none at any corner of the run
      pub nothing_at_all : (n : ℕ) → IsReachedBy (whole_problem problem) n x → ((k : ℕ) (y : Corner) (v : Wide) → k < n → IsReachedBy (whole_problem problem) k y → ¬ PassesAt problem y v) → NothingPasses problem
      nothing_at_all n reached before y v (k, r) = go (cases_lt k n)
        where
          go : ((k < n) ⊎ (n ≤ k)) → ¬ PassesAt problem y v
          go (inl h) = before k y v h r
          go (inr h) = ⊎_elim
              (λ (i : (m : ℕ) × Exchanges (whole_problem problem) m x y × (k ≡ n + m)). none_from i.0 y v i.1)
              (λ (i : (m : ℕ) × Exchanges (whole_problem problem) m y x × (n ≡ k + m)). none_back y v i.0 i.1 (omega (arith, i.2)))
              (laws.along (whole_problem problem) n k x y w reached r)

      pub is_last : (n : ℕ) → IsReachedBy (whole_problem problem) n x → IsLast (whole_problem problem) x
      is_last n reached = record { reached = (n, reached); factors = t; solved = solved; ends = none }
