use Rattle.std.proofs.Common.{ℕ, List, Option, Some, None, arith, ap, sym, ◌∙◌, length, if◌then◌else◌}
use Rattle.xc_concepts.proofs.Repeats.{text_repeated, texts_more}
use Rattle.xc_concepts.specs.Rules.{id_at, repeats_id}
use Rattle.xc_lists.proofs.Ranges.{first_step}
use Rattle.xc_lists.specs.Places.{place_where}
use Rattle.xc_concepts.proofs.rules.first_repeated_id.Goals as goal

pub loop-at-preserved : goal.loop-at-preserved
loop-at-preserved c =
    let nodes = c.args.tree.now in
    let at = c.loop-at.at in
    let id = c.id_at.result in
    let given : ℕ → Option (List ℕ) = id_at nodes in
    let tested = text_repeated c.loop-at.ids.keys given at id c.id_at.ensures c.loop-at.invariant.ids in
    record {
      ids = texts_more c.loop-at.ids.keys c.note_text.new.texts.keys given at id c.id_at.ensures c.loop-at.invariant.ids c.in_ok-note_text.ensures.more;
      left =
          first_step (place_where (repeats_id nodes)) at (length nodes) (omega (arith, c.loop-at-test.true, c.count-at-end.ensures))
          (ap (λ b. if b then Some at else None) (sym tested ∙ sym c.in_ok-note_text.ensures.there ∙ c.if-branch.false))
          ∙ c.loop-at.invariant.left;
    }
