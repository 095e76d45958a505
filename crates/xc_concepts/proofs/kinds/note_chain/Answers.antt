use Rattle.xc_concepts.proofs.KnownKinds.{is_computed}
use Rattle.xc_concepts.specs.Steps.Links.{as_name}
use Rattle.xc_concepts.proofs.kinds.note_chain.Goals as goal

pub returns : goal.returns
returns c = λ types bases kinds long. c.in_ok-note_kind.ensures types bases kinds (is_computed types (as_name c.args.first.now) c.walk-kind.result.0 (c.walk-kind.ensures types bases kinds long))
