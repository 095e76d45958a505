use Rattle.xc_names.proofs.Found.{numbers_are_places}
use Rattle.xc_names.proofs.laws.numbers_are_places.Goals as goal

pub returns : goal.returns
returns c = numbers_are_places
