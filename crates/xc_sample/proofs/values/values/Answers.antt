use Rattle.std.proofs.Common.{◌∷◌, ◌+◌, ◌-◌, [], ap, sym, subst, ◌∙◌, length, length-append}
use Rattle.xc_sample.proofs.Lists.{last_more}
use Rattle.xc_sample.specs.Samples.{value}
use Rattle.xc_sample.specs.Steps.Backwards.{AreLastValues}
use Rattle.xc_sample.proofs.values.values.Goals as goal

pub loop-done-preserved : goal.loop-done-preserved
loop-done-preserved c =
    let values = c.loop-done.values.items in
    let next = c.next_value-next.result in
    record {
      each = ap length c.in_ok-push.ensures.items ∙ length-append values (next ∷ []) ∙ ap (λ k. k + 1) c.loop-done.invariant.each;
      last = subst (AreLastValues c.args.count) (sym c.in_ok-push.ensures.items)
          (last_more c.args.count values next c.loop-done.invariant.last
          (c.next_value-next.ensures ∙ ap (λ k. value c.args.count (c.args.count - 1 - k)) (sym c.loop-done.invariant.each)));
    }
