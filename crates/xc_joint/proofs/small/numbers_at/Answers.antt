use Rattle.std.proofs.Common.{[], ◌∷◌, ◌++◌, ◌*◌, sym, ap, ◌∙◌, subst, append-nil, append_assoc}
use Rattle.std.specs.List.{AllByRecursion}
use Rattle.xc_joint.specs.Widths.{HaveParts, IsWholeOver}
use Rattle.xc_joint.proofs.Turns.{next_of, push_all}
use Rattle.std.proofs.Math.ListN.{drop_of_length-le}
use Rattle.xc_joint.specs.Small.{AreAt}
use Rattle.xc_model.specs.Ratio.{fraction_of}
use Rattle.xc_joint.proofs.small.numbers_at.Goals as goal

pub returns-clause-are : goal.returns-clause-are
returns-clause-are c =
    subst (AreAt (fraction_of c.args.small) c.args.values.now) (append-nil c.loop-value.numbers.items)
    (c.loop-value.invariant.are [] (subst (λ left. AreAt (fraction_of c.args.small) left []) (sym (drop_of_length-le c.args.values.now c.loop-value-test.false)) tt))

pub returns-clause-room : goal.returns-clause-room
returns-clause-room c = λ w room parts o. (o.factor, o.few, (c.loop-value.invariant.room w room parts o).0)

pub returns-in-Err-clause-room : goal.returns-in-Err-clause-room
returns-in-Err-clause-room c = λ w room parts o.
    let next = next_of c.args.values.now c.loop-value.value-index c.value-item.result c.loop-value-test.true c.value-item.is in
    let left = subst (HaveParts w) next (c.loop-value.invariant.room w room parts o).1 in
    c.in-Err.ensures.room w room left.0 o

pub loop-value-preserved : goal.loop-value-preserved
loop-value-preserved c =
    let s = fraction_of c.args.small in
    let next = next_of c.args.values.now c.loop-value.value-index c.value-item.result c.loop-value-test.true c.value-item.is in
    let grown = c.in_ok-push-in-Ok.ensures.items in
    record {
      are = λ rest h.
          let all = c.loop-value.invariant.are (c.in-Ok.number ∷ rest) (subst (λ left. AreAt s left (c.in-Ok.number ∷ rest)) (sym next) (c.in-Ok.ensures.is, h)) in
          subst (AreAt s c.args.values.now) (sym (append_assoc c.loop-value.numbers.items (c.in-Ok.number ∷ []) rest) ∙ ap (λ xs. xs ++ rest) (sym grown)) all;
      room = λ w room parts o.
          let before = c.loop-value.invariant.room w room parts o in
          let left = subst (HaveParts w) next before.1 in
          (subst (AllByRecursion (IsWholeOver (w.d * 2 * o.factor))) (sym grown) (push_all (IsWholeOver (w.d * 2 * o.factor)) c.loop-value.numbers.items c.in-Ok.number before.0 (c.in-Ok.ensures.room w room left.0 o)), left.1);
    }
