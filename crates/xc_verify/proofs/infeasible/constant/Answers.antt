use Rattle.std.proofs.Common.{Ok, List, subst}
use Rattle.xc_model.specs.Ratio.{Ratio}
use Rattle.xc_system.specs.declared.types.Bound.{Bound}
use Rattle.xc_system.specs.declared.types.Side.TheVariants.{Low, High}
use Rattle.xc_verify.proofs.Results.{sum_append}
use Rattle.xc_verify.specs.Infeasible.{Line, value_terms}
use Rattle.xc_verify.specs.Sums.{IsSum, zero_ratio}
use Rattle.xc_verify.proofs.infeasible.constant.Goals as goal

pub returns : goal.returns
returns c =
    let s = c.args.system.now in
    let r = c.args.refutation.now in
    let low = c.with_values-lows.result in
    let lows : IsSum (Ok zero_ratio) (value_terms Low s.bounds r.lows) low =
    subst (λ (ms : List Line). IsSum (Ok zero_ratio) (value_terms Low s.bounds ms) low) c.lows.ensures.is
    (subst (λ (bs : List Bound). IsSum (Ok zero_ratio) (value_terms Low bs c.lows.result.now) low) c.bounds.ensures.is
    (subst (λ (x : Ratio). IsSum (Ok x) (value_terms Low c.bounds.result.now c.lows.result.now) low) c.zero.ensures c.with_values-lows.ensures)) in
    let highs : IsSum low (value_terms High s.bounds r.highs) c.with_values.result =
    subst (λ (ms : List Line). IsSum low (value_terms High s.bounds ms) c.with_values.result) c.highs.ensures.is
    (subst (λ (bs : List Bound). IsSum low (value_terms High bs c.highs.result.now) c.with_values.result) c.bounds-2.ensures.is c.with_values.ensures) in
    sum_append (Ok zero_ratio) low c.with_values.result (value_terms Low s.bounds r.lows) (value_terms High s.bounds r.highs) lows highs
