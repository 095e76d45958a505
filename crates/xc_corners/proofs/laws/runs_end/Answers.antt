use Rattle.xc_corners.proofs.FewExchanges.{not_back, few_exchanges}
use Rattle.xc_corners.proofs.laws.runs_end.Goals as goal

pub returns : goal.returns
returns c = record {
  never_back = λ p r n x y u w q b h e m f k l. not_back p h r n x y u w q b e m f k l;
  few = λ p n x y h e. few_exchanges p h n x y e;
}
