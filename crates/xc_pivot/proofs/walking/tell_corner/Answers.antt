use Rattle.std.proofs.Common.{◌≡◌, sym, subst, List, ℕ, ◌+◌, arith}
use Rattle.xc_corners.specs.Corners.{corner_of}
use Rattle.xc_pivot.specs.States.{is_row, is_high}
use Rattle.xc_pivot.specs.Walks.{IsListOf}
use Rattle.xc_pivot.specs.declared.types.Place.TheVariants.{Row}
use Rattle.xc_pivot.proofs.Listed.{none_yet, read_there, one_further, corner_is}
use Rattle.xc_pivot.proofs.walking.tell_corner.Goals as goal

pub loop-variable-init : goal.loop-variable-init
loop-variable-init c = record {
  basic = subst (λ (l : List ℕ). IsListOf is_row c.args.places.now 0 l) (sym c.requires.basic) (none_yet is_row c.args.places.now);
  high = subst (λ (l : List ℕ). IsListOf is_high c.args.places.now 0 l) (sym c.requires.high) (none_yet is_high c.args.places.now);
}

pub loop-variable-preserved : goal.loop-variable-preserved
loop-variable-preserved c = let at = read_there c.args.places.now c.loop-variable.variable (Row 0) c.loop-variable-test.true in
    record {
      basic = subst (λ (l : List ℕ). IsListOf is_row c.args.places.now (c.loop-variable.variable + 1) l) (sym c.in_ok-push_number_if.ensures)
          (one_further is_row c.args.places.now c.loop-variable.variable c.loop-variable.basic.items _ at c.loop-variable.invariant.basic c.is_basic.result c.is_basic.ensures);
      high = subst (λ (l : List ℕ). IsListOf is_high c.args.places.now (c.loop-variable.variable + 1) l) (sym c.in_ok-push_number_if-2.ensures)
          (one_further is_high c.args.places.now c.loop-variable.variable c.loop-variable.high.items _ at c.loop-variable.invariant.high c.is_on_high.result c.is_on_high.ensures);
    }

pub returns : goal.returns
returns c m n x placed = subst (λ lists. corner_of lists ≡ x) (sym c.of.ensures)
    (corner_is m n x c.args.places.now c.loop-variable.variable c.loop-variable.basic.items c.loop-variable.high.items (omega (arith, c.loop-variable-test.false, c.loop-variable.auto.variable-end)) placed c.loop-variable.invariant.basic c.loop-variable.invariant.high)
