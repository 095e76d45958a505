use Rattle.xc_corners.proofs.FirstCorner.{first_solved, reached_solved}
use Rattle.xc_corners.proofs.Pivoting.{exchange_solves}
use Rattle.xc_corners.proofs.SolvedForms.{one_solved_form}
use Rattle.xc_corners.proofs.laws.solved_forms.Goals as goal

pub returns : goal.returns
returns c = record {
  one = λ p x s t b j f g hb hj eb ej. one_solved_form p x s t f g b j hb hj eb ej;
  next = λ p x t above b q f hb hq eb eq some. exchange_solves p x t above b q hb hq eb eq some f;
  first = first_solved;
  reached = λ p x h r. reached_solved p h x r;
}
