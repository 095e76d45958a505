use Rattle.xc_corners.proofs.Contradicted.{contradicted}
use Rattle.xc_corners.proofs.Refuted.{refuted}
use Rattle.xc_corners.proofs.WholeProblems.{whole_too}
use Rattle.xc_corners.specs.Conflicts.{multiplier}
use Rattle.xc_corners.specs.WholeNumbers.{whole_problem}
use Rattle.xc_corners.proofs.laws.conflicts_contradict.Goals as goal

pub returns : goal.returns
returns c = record {
  refutes = λ p x t above b h f k. refuted p x t above b k h f;
  contradicts = λ problem x t above b m h at a.
      contradicted problem (multiplier x t above b) t.over m at.solved.positive (refuted (whole_problem problem) x t above b at.conflict (whole_too problem h) at.solved) a;
}
