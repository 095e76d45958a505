use Rattle.std.proofs.Common.{◌≡◌, ℕ, Bool, List, length, ap, subst, arith}
use Rattle.xc_corners.specs.Operations.{IsLowSum}
use Rattle.xc_interval.specs.declared.interval.Interval.{Interval}
use Rattle.xc_model.specs.Ratio.{Ratio}
use Rattle.xc_pivot.specs.Deltas.{of_part}
use Rattle.xc_pivot.specs.Firsts.{LowStays}
use Rattle.xc_pivot.proofs.Summed.{low_sum_more, low_next, low_none, zero_parts_are}
use Rattle.xc_pivot.proofs.filling.low_value.Goals as goal

pub loop-column-init : goal.loop-column-init
loop-column-init c = record { is = zero_parts_are c.zero-value.result c.zero-value.ensures.real c.zero-value.ensures.tiny; stays = low_none c.args.problem.now c.args.row }

pub loop-column-preserved : goal.loop-column-preserved
loop-column-preserved c =
    let l = c.loop-column in
    let o = c.in-Ok.ensures.is in
    record {
      is = λ k. low_sum_more c.args.problem.now c.args.row k l.column (of_part l.value k) (of_part o.product k) (of_part c.in-Ok.more k) (l.invariant.is k) (o.is_product k) (o.gives k);
      stays = low_next c.args.problem.now c.args.row l.column l.value c.in-Ok.more l.invariant.stays l.invariant.is o;
    }

pub returns : goal.returns
returns c =
    let l = c.loop-column in
    let end : l.column ≡ length c.args.problem.now.ranges = omega (arith, l.auto.column-end, c.loop-column-test.false, ap (λ (rs : List (Interval Ratio)). length rs) c.as_slice.ensures) in
    record {
      is = subst (λ (n : ℕ). (k : Bool) → IsLowSum c.args.problem.now c.args.row k n (of_part l.value k)) end l.invariant.is;
      stays = subst (λ (n : ℕ). LowStays c.args.problem.now c.args.row n) end l.invariant.stays;
      passes = tt;
    }
