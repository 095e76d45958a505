use Rattle.std.proofs.Common.{◌∙◌}
use Rattle.xc_lists.proofs.Anys.{any_flat}
use Rattle.xc_concepts.specs.Held.{is_typed_as}
use Rattle.xc_concepts.proofs.typed.is_typed.Goals as goal

pub returns : goal.returns
returns c = c.one_has_typed.ensures ∙ any_flat (λ s. s.concepts) (is_typed_as c.args.number.0) c.args.schemas.now
