use Rattle.xc_frac.proofs.ClearedTerms.{gcd_some}
use Rattle.xc_frac.proofs.LeastCommons.{least_common_by_gcd}
use Rattle.xc_frac.proofs.multiples.cofactor.Goals as goal

pub nonzero_div-result : goal.nonzero_div-result
nonzero_div-result c = gcd_some _ _ _ c.requires c.gcd.ensures

pub returns : goal.returns
returns c = least_common_by_gcd _ _ _ c.requires c.gcd.ensures
