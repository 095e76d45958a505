use Rattle.std.proofs.Common.{sym, ◌∙◌, ◌++◌, option_to_list}
use Rattle.xc_lists.proofs.Ranges.{gathered_more}
use Rattle.xc_concepts.specs.Declarations.{named_type_at}
use Rattle.xc_concepts.proofs.reading.read_types.Goals as goal

pub loop-at-preserved : goal.loop-at-preserved
loop-at-preserved c = c.in_ok-push_some.ensures ∙ (λ i. c.loop-at.invariant i ++ option_to_list (c.in_ok-named_type_at.ensures i)) ∙ sym (gathered_more (named_type_at c.args.tree.now) c.loop-at.at)
