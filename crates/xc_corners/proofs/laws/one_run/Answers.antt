use Rattle.xc_corners.specs.Choices.{first_corner}
use Rattle.xc_corners.proofs.OneChoice.{one_next}
use Rattle.xc_corners.proofs.Runs as runs
use Rattle.xc_corners.proofs.laws.one_run.Goals as goal

pub returns : goal.returns
returns c = record {
  choice = λ p x y z b q d r h e f. one_next p h x b q d r y z e f;
  run = λ p n y z h e f. runs.one_run p h n (first_corner p) y z e f;
  on = λ p n y z b q r e. runs.one_more p n (first_corner p) y z b q r e;
  along = λ p m n y z h e f. runs.along p h m n (first_corner p) y z e f;
  feasible = λ p x y t b q f w e. runs.feasible_last p x t b q y f w e;
  conflict = λ p x y t above b d q h f k e. runs.conflict_last p h x t above b d q y f k e;
}
