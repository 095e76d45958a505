use Rattle.xc_report.proofs.Kept.{kept_on}
use Rattle.xc_report.proofs.numbered.numbered_part.Goals as goal

pub returns-clause-part : goal.returns-clause-part
returns-clause-part c = λ later keeps. record {
  dimension = c.in_ok-dimension.ensures.dimension later (kept_on _ _ _ c.in_ok-value.ensures.names.kept keeps);
  value = c.in_ok-value.ensures.value later keeps;
}
