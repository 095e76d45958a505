use Rattle.std.proofs.Common.{◌<◌, All, length, ap, sym, subst, ◌∙◌, inl, inr, codes, Some, None}
use Rattle.std.proofs.lemmas.Result.{err_from_is_err_and}
use Rattle.xc_calc.proofs.Drawing.{end_within, fault_by_source, fault_by_target}
use Rattle.xc_calc.specs.Rules.{locator_fault}
use Rattle.xc_lists.specs.Places.{first_given}
use Rattle.xc_calc.proofs.linked.add_element.Goals as goal

pub concepts_at-requires : goal.concepts_at-requires
concepts_at-requires c =
    let nodes = c.args.tree.now in
    subst (All (λ k. k < length nodes)) (sym c.in_ok-sources.ensures.sources) (end_within nodes c.args.at (codes "from"))

pub concepts_at-requires-2 : goal.concepts_at-requires-2
concepts_at-requires-2 c =
    let nodes = c.args.tree.now in
    subst (All (λ k. k < length nodes)) (sym c.in_ok-sources.ensures.targets) (end_within nodes c.args.at (codes "to"))

pub returns-in_err-from-clause-fault : goal.returns-in_err-from-clause-fault
returns-in_err-from-clause-fault c =
    let p = err_from_is_err_and c.from_residual-in_err-from.result c.from_residual-in_err-from.ensures.1 in
    let given = first_given (locator_fault c.args.concepts.now c.args.tree.now) in
    rw (p.1, p.2) (elim c.in_err-from.ensures.fault [
      | inl memory ↦ inl memory
      | inr first ↦ inr (fault_by_source c.args.concepts.now c.args.tree.now c.args.at c.in_ok-drawn.ensures.sound c.in_ok-sources.ensures.sound _
          (ap given (sym c.in_ok-sources.ensures.sources) ∙ first))
    ])

pub returns-in_err-to-clause-fault : goal.returns-in_err-to-clause-fault
returns-in_err-to-clause-fault c =
    let p = err_from_is_err_and c.from_residual-in_err-to.result c.from_residual-in_err-to.ensures.1 in
    let given = first_given (locator_fault c.args.concepts.now c.args.tree.now) in
    rw (p.1, p.2) (elim c.in_err-to.ensures.fault [
      | inl memory ↦ inl memory
      | inr first ↦ inr (fault_by_target c.args.concepts.now c.args.tree.now c.args.at c.in_ok-drawn.ensures.sound c.in_ok-sources.ensures.sound (Some _)
          (ap given (sym c.in_ok-sources.ensures.sources) ∙ c.in_ok-from.ensures.sound)
          (ap given (sym c.in_ok-sources.ensures.targets) ∙ first))
    ])

pub returns-clause-sound : goal.returns-clause-sound
returns-clause-sound c =
    let given = first_given (locator_fault c.args.concepts.now c.args.tree.now) in
    fault_by_target c.args.concepts.now c.args.tree.now c.args.at c.in_ok-drawn.ensures.sound c.in_ok-sources.ensures.sound None
    (ap given (sym c.in_ok-sources.ensures.sources) ∙ c.in_ok-from.ensures.sound)
    (ap given (sym c.in_ok-sources.ensures.targets) ∙ c.in_ok-to.ensures.sound)
