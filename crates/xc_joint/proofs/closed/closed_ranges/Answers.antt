use Rattle.std.proofs.Common.{◌≡◌, [], ◌∷◌, ◌++◌, map, sym, ap, ◌∙◌, subst, append-nil, append_assoc}
use Rattle.std.proofs.Math.ListN.{drop_of_length-le}
use Rattle.xc_joint.proofs.Turns.{next_of}
use Rattle.xc_joint.specs.Small.{closed_pairs, pairs}
use Rattle.xc_joint.proofs.closed.closed_ranges.Goals as goal

pub returns : goal.returns
returns c =
    let none = drop_of_length-le c.args.ranges.now c.loop-range-test.false in
    subst (λ xs. map pairs xs ≡ map closed_pairs c.args.ranges.now) (append-nil c.loop-range.closed.items) (c.loop-range.invariant [] (sym (ap (λ left. map closed_pairs left) none)))

pub loop-range-preserved : goal.loop-range-preserved
loop-range-preserved c =
    let next = next_of c.args.ranges.now c.loop-range.range-index c.range-item.result c.loop-range-test.true c.range-item.is in
    let grown = c.in_ok-push.ensures.items in
    λ rest h.
    let here = c.closed_range.ensures in
    let both : map pairs (c.closed_range.result ∷ rest) ≡ map closed_pairs (c.range-item.result ∷ _) = λ i. here i ∷ h i in
    let all = c.loop-range.invariant (c.closed_range.result ∷ rest) (both ∙ ap (λ left. map closed_pairs left) (sym next)) in
    subst (λ xs. map pairs xs ≡ map closed_pairs c.args.ranges.now) (sym (append_assoc c.loop-range.closed.items (c.closed_range.result ∷ []) rest) ∙ ap (λ xs. xs ++ rest) (sym grown)) all
