use Rattle.std.proofs.Common.{◌≡◌, ◌++◌, sym, ap, subst, ◌∙◌}
use Rattle.std.proofs.lemmas.List.{append-nil}
use Rattle.std.specs.List.Sorted.{IsStrictlySortedBy}
use Rattle.std.specs.Map.{keys_of}
use Rattle.xc_report.specs.Dimensions.{IsAscending}
use Rattle.xc_report.proofs.SameKeys.{cmp_is}
use Rattle.xc_report.proofs.dimensions.Key.of.Goals as goal

-- the parts are the map's entries, which stand in the order of their dimensions
pub invariant_of-result : goal.invariant_of-result
invariant_of-result c =
    let all : c.loop-part.parts.items ≡ c.args.map.entries =
    sym (append-nil c.loop-part.parts.items) ∙ ap (λ left. c.loop-part.parts.items ++ left) (sym c.in-None.ensures.steps.0) ∙ c.loop-part.invariant.moved in
    let sorted = c.into_iter-part-iterator.ensures.into_iter_gives.5 in
    let by_kind : IsAscending c.args.map.entries = subst (λ cmp. IsStrictlySortedBy cmp (keys_of c.args.map.entries)) (λ i a b. cmp_is a b i) sorted in
    subst IsAscending (sym (c.of.ensures ∙ all)) by_kind
