use Rattle.xc_corners.proofs.ExchangeNumbers.{own_exact, other_exact, own_times_exact, other_added_exact}
use Rattle.xc_corners.proofs.laws.operations_give_factors.Goals as goal

pub returns : goal.returns
returns c = record {
  entering = λ t b q j u h. (own_exact t b q h.over h.some u, other_exact t b q h.over h.some j u);
  leaving = λ t b q k f u m h. own_times_exact t b q h.over h.some k f u m;
  others = λ t b q k j f m r h. other_added_exact t b q h.over h.some k j f m r;
}
