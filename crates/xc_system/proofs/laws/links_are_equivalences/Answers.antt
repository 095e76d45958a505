use Rattle.xc_system.proofs.Links.{linked_sym, linked_trans}
use Rattle.xc_system.specs.Components.{itself}
use Rattle.xc_system.proofs.laws.links_are_equivalences.Goals as goal

pub returns : goal.returns
returns c es = record { reflexive = λ p. itself p; symmetric = linked_sym es; transitive = linked_trans es }
