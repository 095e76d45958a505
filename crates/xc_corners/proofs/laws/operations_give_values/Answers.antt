use Rattle.xc_corners.proofs.StepNumbers.{entering_exact, basic_exact, leaving_exact, other_exact}
use Rattle.xc_corners.proofs.laws.operations_give_values.Goals as goal

pub returns : goal.returns
returns c = record {
  entering = λ p x t above b q c v s r h. entering_exact p x t h.solved above b q h.leaving h.entering h.basic h.other h.some h.unit c v s r;
  basic = λ p x t above b q k c v m r h. basic_exact p x t h.solved above b q h.leaving h.entering h.basic h.other h.some h.unit c k v m r;
  leaving = λ p x t above b q c f h. leaving_exact p x t h.solved above b q h.leaving h.entering h.basic h.other h.some h.unit c f;
  others = λ p x t above b q j c v h. other_exact p x t h.solved above b q h.leaving h.entering h.basic h.other h.some h.unit c j v;
}
