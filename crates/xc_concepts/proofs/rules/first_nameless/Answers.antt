use Rattle.std.proofs.Common.{◌≡◌, ◌+◌, arith, ap, sym, subst, ◌∙◌, length, filter_map}
use Rattle.xc_concepts.proofs.Least.{IsLeast, has_place, least_more, least_within, first_least}
use Rattle.xc_lists.proofs.Ranges.{gathered_more}
use Rattle.xc_lists.specs.Places.{before, places, first_place, least}
use Rattle.xc_concepts.specs.Rules.{nameless_at}
use Rattle.xc_concepts.proofs.rules.first_nameless.Goals as goal

pub loop-at-preserved : goal.loop-at-preserved
loop-at-preserved c =
    let given = nameless_at c.args.tree.now in
    let at = c.loop-at.at in
    let first = c.loop-at.first in
    record {
      least = subst (IsLeast (filter_map given (before (at + 1)))) (sym (c.least-first.ensures ∙ ap (least first) c.nameless_at.ensures.place))
          (subst (λ list. IsLeast list (least first (given at))) (sym (gathered_more given at)) (least_more (filter_map given (before at)) first (given at) c.loop-at.invariant.least));
      within = rw c.least-first.ensures (least_within (length c.args.tree.now) first c.nameless_at.result c.loop-at.invariant.within c.nameless_at.ensures.within);
    }

pub returns : goal.returns
returns c =
    let nodes = c.args.tree.now in
    let given = nameless_at nodes in
    let all : c.loop-at.at ≡ length nodes = omega (arith, c.loop-at.auto.at-end, c.loop-at-test.false, c.count-at-end.ensures) in
    first_least (filter_map given (before c.loop-at.at)) (length nodes) c.loop-at.first c.loop-at.invariant.least c.loop-at.invariant.within
    ∙ ap (λ k. first_place (has_place (filter_map given (before k))) (places nodes)) all
