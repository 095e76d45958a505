use Rattle.std.proofs.Common.{Some, None, arith, ap, sym, ◌∙◌, codes, length, if◌then◌else◌}
use Rattle.xc_concepts.proofs.Repeats.{concept_repeated, texts_more}
use Rattle.xc_concepts.specs.Rules.{repeats_concept}
use Rattle.xc_concepts.specs.Schemas.{top_name}
use Rattle.xc_lists.proofs.Ranges.{first_here, first_step}
use Rattle.xc_lists.specs.Places.{place_where}
use Rattle.xc_concepts.proofs.rules.first_repeated_concept.Goals as goal

pub returns-then-branch : goal.returns-then-branch
returns-then-branch c =
    let nodes = c.args.tree.now in
    let schemas = c.args.concepts.now in
    let at = c.loop-at.at in
    let tested = concept_repeated schemas nodes at c.target_space.result.now c.loop-at.locals.keys c.top_name-local.result c.target_space.ensures c.top_name-local.ensures c.loop-at.invariant.names in
    sym (sym c.loop-at.invariant.left
    ∙ first_here (place_where (repeats_concept schemas nodes)) at (length nodes) at (omega (arith, c.loop-at-test.true, c.count-at-end.ensures))
    (ap (λ b. if b then Some at else None) (sym tested ∙ sym c.in_ok-note_concept_name.ensures.taken ∙ c.if-branch.true)))

pub loop-at-preserved : goal.loop-at-preserved
loop-at-preserved c =
    let nodes = c.args.tree.now in
    let schemas = c.args.concepts.now in
    let at = c.loop-at.at in
    let name = c.top_name-local.result in
    let tested = concept_repeated schemas nodes at c.target_space.result.now c.loop-at.locals.keys name c.target_space.ensures c.top_name-local.ensures c.loop-at.invariant.names in
    record {
      names = texts_more c.loop-at.locals.keys c.note_concept_name.new.locals.keys (top_name nodes (codes "element")) at name c.top_name-local.ensures c.loop-at.invariant.names c.in_ok-note_concept_name.ensures.more;
      left =
          first_step (place_where (repeats_concept schemas nodes)) at (length nodes) (omega (arith, c.loop-at-test.true, c.count-at-end.ensures))
          (ap (λ b. if b then Some at else None) (sym tested ∙ sym c.in_ok-note_concept_name.ensures.taken ∙ c.if-branch.false))
          ∙ c.loop-at.invariant.left;
    }
