use Rattle.std.proofs.Common.{◌<◌, ◌∙◌, ℕ, Bool, List, get_or, length, refl, sym, ap, subst, arith}
use Rattle.std.proofs.lemmas.List.{with_items_is}
use Rattle.std.proofs.lemmas.Option.{slice_get_read}
use Rattle.std.specs.List.Sorted.{IsStrictlySortedBy}
use Rattle.std.specs.Ordering.{nat_cmp}
use Rattle.xc_joint.specs.Answers.{HasNoCauses}
use Rattle.xc_joint.proofs.Gathering.{all_answer, refuted_answer, values_step, wide_step}
use Rattle.xc_joint.specs.Steps.Settling.{HaveCause, IsFound}
use Rattle.xc_joint.specs.declared.settling.Found.{Found}
use Rattle.xc_model.specs.Ratio.{Ratio}
use Rattle.xc_system.specs.declared.types.Certificate.TheVariants.{Feasible}
use Rattle.xc_verify.specs.Judgements.{IsJudgement, Proves}
use Rattle.xc_verify.specs.declared.types.Judgement.TheVariants.{Accepted}
use Rattle.xc_joint.proofs.settling.gather.Goals.{in-Values+in_ok-push-in-Values, in-Wide+in_ok-push-in-Wide}
use Rattle.xc_joint.proofs.settling.gather.Goals as goal

pub settle_one-requires-clause-component : goal.settle_one-requires-clause-component
settle_one-requires-clause-component c = c.requires.components.each c.loop-component.component-index c.component-item.result
    (slice_get_read c.args.components.now (length c.args.components.now) c.loop-component.component-index c.component-item.result refl c.loop-component-test.true c.component-item.is)

pub returns-in-Refuted : goal.returns-in-Refuted
returns-in-Refuted c = refuted_answer c.proofs_are_accepted.ensures.contradictions c.args.system.now c.args.components.now c.requires.components c.loop-component.component-index c.component-item.result
    (slice_get_read c.args.components.now (length c.args.components.now) c.loop-component.component-index c.component-item.result refl c.loop-component-test.true c.component-item.is)
    c.loop-component.parts.items c.loop-component.all.items c.loop-component.invariant.each c.loop-component.invariant.gathered c.components_decide.ensures.contradiction c.points.ensures.system
    c.in-Refuted.refutation (subst (λ (f : Found). IsFound c.args.system.now c.component-item.result f) c.in-Refuted.is c.in_ok-refutation.ensures.found)

pub put_values-requires-clause-inside : goal.put_values-requires-clause-inside
put_values-requires-clause-inside c =
    let s = c.args.system.now in
    let part = c.component-item.result in
    let is = c.requires.components.each c.loop-component.component-index part
    (slice_get_read c.args.components.now (length c.args.components.now) c.loop-component.component-index part refl c.loop-component-test.true c.component-item.is) in
    subst (λ (ps : List ℕ). (k d : ℕ) → k < length ps → get_or ps k d < length c.as_mut_slice.result.now) (sym c.as_slice.ensures)
    (subst (λ (n : ℕ). (k d : ℕ) → k < length part.points → get_or part.points k d < n) (sym (ap length c.as_mut_slice.ensures.value ∙ c.loop-component.invariant.count)) (c.components_are_closed.ensures.points s part is))

pub put_values-requires-clause-ascend : goal.put_values-requires-clause-ascend
put_values-requires-clause-ascend c = subst (λ (ps : List ℕ). IsStrictlySortedBy nat_cmp ps) (sym c.as_slice.ensures)
    (c.requires.components.each c.loop-component.component-index c.component-item.result
    (slice_get_read c.args.components.now (length c.args.components.now) c.loop-component.component-index c.component-item.result refl c.loop-component-test.true c.component-item.is)).points_ascend

pub loop-component-preserved : goal.loop-component-preserved
loop-component-preserved c =
    let s = c.args.system.now in
    let cs = c.args.components.now in
    let n = c.loop-component.component-index in
    let part = c.component-item.result in
    let there = slice_get_read cs (length cs) n part refl c.loop-component-test.true c.component-item.is in
    let now = c.match-branch-3 in
    elim c.match-branch-3.branch [
      | in-Values+in_ok-push-in-Values w ↦
          let t = values_step c.links_are_equivalences.ensures s cs c.requires.components n part there c.loop-component.parts.items c.loop-component.all.items c.loop-component.invariant.count c.loop-component.invariant.each c.loop-component.invariant.gathered
          c.loop-component.caused c.loop-component.invariant.caused now.parts.items now.all.items now.caused
          w.in-Values.values w.as_slice.result.now w.as_slice-in-Values.result.now w.as_mut_slice.result.now w.put_values.new.all
          (subst (λ (f : Found). IsFound s part f) w.in-Values.is c.in_ok-refutation.ensures.found) w.as_slice.ensures w.as_slice-in-Values.ensures w.as_mut_slice.ensures.value
          w.put_values.ensures.length w.put_values.ensures.among w.put_values.ensures.kept
          (ap (λ v. v.items) w.parts-is ∙ w.in_ok-push-in-Values.ensures.items)
          (ap (λ v. v.items) w.all-is ∙ with_items_is c.loop-component.all w.put_values.new.all (w.put_values.ensures.length ∙ ap length w.as_mut_slice.ensures.value ∙ sym c.loop-component.all.ok.0)) w.caused-is in
          record { count = t.0; each = t.1; gathered = t.2; caused = t.3; sums = c.settle_one.ensures.sums ∙ c.loop-component.invariant.sums; stops = c.settle_one.ensures.stops ∙ c.loop-component.invariant.stops }
      | in-Wide+in_ok-push-in-Wide w ↦
          let t = wide_step c.links_are_equivalences.ensures s cs c.requires.components n part there c.loop-component.parts.items c.loop-component.all.items c.loop-component.invariant.count c.loop-component.invariant.each c.loop-component.invariant.gathered
          c.loop-component.caused c.loop-component.invariant.caused now.parts.items now.all.items now.caused
          w.in-Wide.cause (subst (λ (f : Found). IsFound s part f) w.in-Wide.is c.in_ok-refutation.ensures.found)
          (ap (λ v. v.items) w.parts-is ∙ w.in_ok-push-in-Wide.ensures.items) (ap (λ v. v.items) w.all-is) w.caused-is in
          record { count = t.0; each = t.1; gathered = t.2; caused = t.3; sums = c.settle_one.ensures.sums ∙ c.loop-component.invariant.sums; stops = c.settle_one.ensures.stops ∙ c.loop-component.invariant.stops }
    ]

pub returns : goal.returns
returns c =
    let s = c.args.system.now in
    subst (λ (xs : List Ratio). Proves s (Feasible xs) × IsJudgement s (Feasible xs) Accepted × HasNoCauses s) (sym c.of-2.ensures)
    (all_answer c.proofs_are_accepted.ensures.solutions s c.args.components.now c.requires.components c.loop-component.parts.items c.loop-component.all.items
    (omega (arith, c.loop-component.invariant.each, c.loop-component-test.false, c.loop-component.auto.component-index-end))
    c.loop-component.invariant.count c.loop-component.invariant.gathered (subst (λ (b : Bool). HaveCause c.loop-component.parts.items b) c.if-caused.false c.loop-component.invariant.caused)
    c.links_are_equivalences.ensures c.components_decide.ensures.joined c.points.ensures.system)
