use Rattle.std.proofs.Common.{ap}
use Rattle.xc_joint.proofs.EmptyPoints.{one_ratio}
use Rattle.xc_model.specs.Ratio.{Ratio}
use Rattle.xc_joint.proofs.empties.one.Goals as goal

pub returns-clause-num : goal.returns-clause-num
returns-clause-num c = ap (λ (r : Ratio). r.num) (c.lowest_terms.ensures.unique c.one.result one_ratio (record { cross = c.one.ensures.cross }))

pub returns-clause-den : goal.returns-clause-den
returns-clause-den c = ap (λ (r : Ratio). r.den) (c.lowest_terms.ensures.unique c.one.result one_ratio (record { cross = c.one.ensures.cross }))
