use Rattle.std.proofs.Common.{length, sym, ap, subst, ◌∙◌}
use Rattle.xc_joint.specs.Small.{closed_pairs}
use Rattle.xc_joint.specs.Steps.Multiplied.{IsListed, IsSigned, named_bindings}
use Rattle.xc_joint.specs.Lists.{AreEach}
use Rattle.xc_joint.specs.Steps.OneForest.{IsRangeOf, IsRowOf}
use Rattle.xc_joint.specs.Steps.UnitSums.{HasUnits}
use Rattle.xc_joint.proofs.Ascending.{are_kept}
use Rattle.xc_joint.proofs.Each.{each_length}
use Rattle.xc_joint.proofs.ForestRanges.{map_size}
use Rattle.xc_joint.proofs.Placed.{placed_in}
use Rattle.xc_joint.proofs.UnitLists.{contradiction_of, has_units, made_of}
use Rattle.xc_system.specs.Refutations.{IsContradictionOf}
use Rattle.xc_joint.proofs.refuting.refutation.Goals as goal

pub sorted_low_facts-requires : goal.sorted_low_facts-requires
sorted_low_facts-requires c = c.requires.contradicts.each_end ∙ map_size closed_pairs c.requires.ranges ∙ each_length (IsRangeOf c.args.system.now) c.args.spans.now c.requires.ranges c.requires.ranges_are

pub sorted_high_facts-requires : goal.sorted_high_facts-requires
sorted_high_facts-requires c = c.requires.contradicts.each_end ∙ map_size closed_pairs c.requires.ranges ∙ each_length (IsRangeOf c.args.system.now) c.args.spans.now c.requires.ranges c.requires.ranges_are

pub named_bindings-requires : goal.named_bindings-requires
named_bindings-requires c = c.requires.contradicts.each_row ∙ each_length (IsRowOf c.args.system.now c.args.component.now.points) c.args.component.now.equations c.requires.rows c.requires.rows_are ∙ sym (ap (λ xs. length xs) c.as_slice.ensures)

pub of-requires : goal.of-requires
of-requires c = are_kept c.args.system.now c.args.component.now c.args.spans.now c.args.by.now c.args.ends.now _ (placed_in c.args.system.now) c.requires
    (made_of c.args.component.now c.args.spans.now c.args.by.now c.args.ends.now c.in_ok-low_facts.low_facts.items c.in_ok-high_facts.high_facts.items _ _ _ c.in_ok-low_facts.ensures.lists c.in_ok-high_facts.ensures.lists c.in_ok-low_facts.ensures.ascend c.in_ok-high_facts.ensures.ascend
    (subst (λ ks. AreEach IsListed ks c.in_ok-lows.lows.items) c.as_slice-2.ensures.value c.in_ok-lows.ensures)
    (subst (λ ks. AreEach IsListed ks c.in_ok-highs.highs.items) c.as_slice-3.ensures.value c.in_ok-highs.ensures)
    (subst (λ es. AreEach IsSigned es c.in_ok-bindings.bindings.items) (c.as_slice-4.ensures.value ∙ c.in_ok-equations.ensures ∙ ap (λ is. named_bindings is c.args.by.now) c.as_slice.ensures) c.in_ok-bindings.ensures))

pub returns-clause-contradicts : goal.returns-clause-contradicts
returns-clause-contradicts c = subst (IsContradictionOf c.args.system.now c.args.component.now) (sym c.of.ensures) (contradiction_of c.sums_are_over.ensures c.args.system.now c.args.component.now c.args.spans.now c.args.by.now c.args.ends.now _ c.requires
    (made_of c.args.component.now c.args.spans.now c.args.by.now c.args.ends.now c.in_ok-low_facts.low_facts.items c.in_ok-high_facts.high_facts.items _ _ _ c.in_ok-low_facts.ensures.lists c.in_ok-high_facts.ensures.lists c.in_ok-low_facts.ensures.ascend c.in_ok-high_facts.ensures.ascend
    (subst (λ ks. AreEach IsListed ks c.in_ok-lows.lows.items) c.as_slice-2.ensures.value c.in_ok-lows.ensures)
    (subst (λ ks. AreEach IsListed ks c.in_ok-highs.highs.items) c.as_slice-3.ensures.value c.in_ok-highs.ensures)
    (subst (λ es. AreEach IsSigned es c.in_ok-bindings.bindings.items) (c.as_slice-4.ensures.value ∙ c.in_ok-equations.ensures ∙ ap (λ is. named_bindings is c.args.by.now) c.as_slice.ensures) c.in_ok-bindings.ensures)))

pub returns-clause-units : goal.returns-clause-units
returns-clause-units c = subst HasUnits (sym c.of.ensures) (has_units c.args.component.now c.args.spans.now c.args.by.now c.args.ends.now _
    (made_of c.args.component.now c.args.spans.now c.args.by.now c.args.ends.now c.in_ok-low_facts.low_facts.items c.in_ok-high_facts.high_facts.items _ _ _ c.in_ok-low_facts.ensures.lists c.in_ok-high_facts.ensures.lists c.in_ok-low_facts.ensures.ascend c.in_ok-high_facts.ensures.ascend
    (subst (λ ks. AreEach IsListed ks c.in_ok-lows.lows.items) c.as_slice-2.ensures.value c.in_ok-lows.ensures)
    (subst (λ ks. AreEach IsListed ks c.in_ok-highs.highs.items) c.as_slice-3.ensures.value c.in_ok-highs.ensures)
    (subst (λ es. AreEach IsSigned es c.in_ok-bindings.bindings.items) (c.as_slice-4.ensures.value ∙ c.in_ok-equations.ensures ∙ ap (λ is. named_bindings is c.args.by.now) c.as_slice.ensures) c.in_ok-bindings.ensures)))
