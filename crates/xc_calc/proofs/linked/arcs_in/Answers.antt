use Rattle.std.proofs.Common.{◌++◌, length, ap, sym, ◌∙◌, inl, inr, arith}
use Rattle.std.proofs.lemmas.Result.{err_from_is_err_and}
use Rattle.xc_calc.proofs.Drawing.{gathered_all}
use Rattle.xc_calc.specs.Linked.{arcs_at}
use Rattle.xc_calc.specs.Rules.{broken_at}
use Rattle.xc_lists.proofs.Ranges.{first_here, first_step}
use Rattle.xc_calc.proofs.linked.arcs_in.Goals as goal

pub returns-in_err-add_node-clause-fault : goal.returns-in_err-add_node-clause-fault
returns-in_err-add_node-clause-fault c =
    let p = err_from_is_err_and c.from_residual-in_err-add_node.result c.from_residual-in_err-add_node.ensures.1 in
    let nodes = c.args.tree.now in
    let broken = broken_at c.args.kind c.args.concepts.now nodes in
    rw (p.1, p.2) (elim c.in_err-add_node.ensures.fault [
      | inl memory ↦ inl memory
      | inr first ↦ inr (sym c.loop-at.invariant.left ∙ first_here broken c.loop-at.at (length nodes) _ (omega (arith, c.loop-at-test.true, c.count-at-end.ensures)) first)
    ])

pub loop-at-preserved : goal.loop-at-preserved
loop-at-preserved c =
    let nodes = c.args.tree.now in
    let broken = broken_at c.args.kind c.args.concepts.now nodes in
    let arcs = arcs_at c.args.kind c.args.concepts.now nodes in
    let at = c.loop-at.at in
    record {
      arcs = c.in_ok-add_node.ensures.added ∙ ap (λ xs. xs ++ arcs at) c.loop-at.invariant.arcs ∙ sym (gathered_all arcs at);
      left = first_step broken at (length nodes) (omega (arith, c.loop-at-test.true, c.count-at-end.ensures)) c.in_ok-add_node.ensures.sound ∙ c.loop-at.invariant.left;
    }
