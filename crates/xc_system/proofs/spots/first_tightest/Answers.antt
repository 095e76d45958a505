use Rattle.std.proofs.Common.{◌≡◌, ℕ, ◌∷◌, get_or, take, sym, subst, ◌⊎◌, inl, inr}
use Rattle.std.specs.Prelude.{IsSome}
use Rattle.xc_system.proofs.Tightness.{first_alone, first_more, graded, one_more}
use Rattle.xc_system.specs.Spots.{HasTighter, IsFirstTightest}
use Rattle.xc_system.specs.Systems.{range_at}
use Rattle.xc_system.proofs.spots.first_tightest.Goals as goal

one_of : (P : ℕ → Type 0) (new f k : ℕ) (A B : Type 0) → P f → P k → ((new ≡ f) × A) ⊎ ((new ≡ k) × B) → P new
one_of P new f k A B a b (inl h) = subst P (sym h.0) a
one_of P new f k A B a b (inr h) = subst P (sym h.0) b

pub loop-fact-init : goal.loop-fact-init
loop-fact-init c = record { known = c.requires.first; first = first_alone _ c.args.first }

pub loop-fact-preserved : goal.loop-fact-preserved
loop-fact-preserved c =
    let bounds = c.args.bounds.now in
    let f = get_or c.args.others.now c.loop-fact.fact-index 0 in
    record {
      known = one_of (λ k. IsSome (range_at bounds k)) c.tighter_of-tightest.result f c.loop-fact.tightest (HasTighter c.args.side bounds f c.loop-fact.tightest) (HasTighter c.args.side bounds f c.loop-fact.tightest → ⊥)
          (c.requires.others c.loop-fact.fact-index 0 c.loop-fact-test.true) c.loop-fact.invariant.known c.tighter_of-tightest.ensures;
      first = subst (λ facts. IsFirstTightest (HasTighter c.args.side bounds) facts c.tighter_of-tightest.result) (sym (one_more c.args.first c.args.others.now c.loop-fact.fact-index c.loop-fact-test.true))
          (first_more (HasTighter c.args.side bounds) (c.args.first ∷ take c.loop-fact.fact-index c.args.others.now) c.loop-fact.tightest f c.tighter_of-tightest.result (graded c.args.side bounds c.tighter_ends.ensures.low_numbers c.tighter_ends.ensures.high_numbers) c.tighter_of-tightest.ensures c.loop-fact.invariant.first);
    }
