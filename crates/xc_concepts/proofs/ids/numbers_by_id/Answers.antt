use Rattle.std.proofs.Common.{◌∙◌}
use Rattle.std.specs.BTreeMap.{get_by_text}
use Rattle.xc_concepts.proofs.NumbersByIds.{numbers_step}
use Rattle.xc_concepts.proofs.ids.numbers_by_id.Goals as goal

pub loop-concept-preserved : goal.loop-concept-preserved
loop-concept-preserved c = λ id.
    numbers_step c.args.concepts.now c.loop-concept.concept-index c.concept-item.result id (get_by_text c.loop-concept.numbers id) (get_by_text c.note_id.new.numbers id) c.loop-concept-test.true c.concept-item.is (c.in_ok-note_id.ensures id)
    ∙ c.loop-concept.invariant id
