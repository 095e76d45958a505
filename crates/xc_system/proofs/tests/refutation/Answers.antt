use Rattle.std.proofs.Common.{◌≡◌, ℕ, List, [], arith, sym, subst}
use Rattle.std.specs.List.Sorted.{IsStrictlySortedBy}
use Rattle.xc_model.specs.Ratio.{Ratio}
use Rattle.xc_system.proofs.tests.refutation.Goals as goal
use Rattle.xc_system.specs.Kept.{IsRefutation}

-- nothing multiplied
none : IsRefutation (record { bindings = []; lows = []; highs = [] })
unfolding IsStrictlySortedBy
none = record {
  bindings_ascend = tt;
  lows_ascend = tt;
  highs_ascend = tt;
  bindings_count = λ k d h. absurd (omega arith);
  lows_positive = λ k d h. absurd (omega arith);
  highs_positive = λ k d h. absurd (omega arith);
}

nothing : (bindings lows highs : List (ℕ × Ratio)) → bindings ≡ [] → lows ≡ [] → highs ≡ [] → IsRefutation (record { bindings = bindings; lows = lows; highs = highs })
nothing bindings lows highs b l h =
    subst (λ (bs : List (ℕ × Ratio)). IsRefutation (record { bindings = bs; lows = lows; highs = highs })) (sym b)
    (subst (λ (ls : List (ℕ × Ratio)). IsRefutation (record { bindings = []; lows = ls; highs = highs })) (sym l)
    (subst (λ (hs : List (ℕ × Ratio)). IsRefutation (record { bindings = []; lows = []; highs = hs })) (sym h) none))

pub of-made-requires : goal.of-made-requires
of-made-requires c d = nothing d.new-bindings.result.items d.new-lows.result.items d.new-highs.result.items d.new-bindings.ensures.items d.new-lows.ensures.items d.new-highs.ensures.items
