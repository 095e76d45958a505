use Rattle.std.proofs.Common.{◌≡◌, ◌++◌, ◌∷◌, [], ℕ, List, ap, refl, ◌∙◌}
use Rattle.xc_joint.proofs.EmptyPoints.{ends_kept}
use Rattle.xc_model.specs.Ratio.{Ratio}
use Rattle.xc_joint.proofs.empties.ends_refutation.Goals as goal

pub of-requires : goal.of-requires
of-requires c =
    let lows : c.push.new.self.items ≡ (c.args.low, c.one-factor.result) ∷ [] = c.in_ok-push.ensures.items ∙ ap (λ (ms : List (ℕ × Ratio)). ms ++ (c.args.low, c.one-factor.result) ∷ []) c.new-lows.ensures.items in
    let highs : c.push-2.new.self.items ≡ (c.args.high, c.one-factor.result) ∷ [] = c.in_ok-push-2.ensures.items ∙ ap (λ (ms : List (ℕ × Ratio)). ms ++ (c.args.high, c.one-factor.result) ∷ []) c.new-highs.ensures.items in
    rw (c.new-bindings.ensures.items, lows, highs) (ends_kept c.args.low c.args.high c.one-factor.result c.one-factor.ensures.num)

pub returns : goal.returns
returns c =
    let lows : c.push.new.self.items ≡ (c.args.low, c.one-factor.result) ∷ [] = c.in_ok-push.ensures.items ∙ ap (λ (ms : List (ℕ × Ratio)). ms ++ (c.args.low, c.one-factor.result) ∷ []) c.new-lows.ensures.items in
    let highs : c.push-2.new.self.items ≡ (c.args.high, c.one-factor.result) ∷ [] = c.in_ok-push-2.ensures.items ∙ ap (λ (ms : List (ℕ × Ratio)). ms ++ (c.args.high, c.one-factor.result) ∷ []) c.new-highs.ensures.items in
    record { one = c.one-factor.result; num = c.one-factor.ensures.num; den = c.one-factor.ensures.den; is = rw (c.of.ensures, c.new-bindings.ensures.items, lows, highs) refl }
