use Rattle.xc_model.proofs.LowestTerms.{cross_tells, one_lowest}
use Rattle.xc_frac.proofs.laws.lowest_terms.Goals as goal

pub returns-clause-cross : goal.returns-clause-cross
returns-clause-cross c = cross_tells

pub returns-clause-unique : goal.returns-clause-unique
returns-clause-unique c = one_lowest
