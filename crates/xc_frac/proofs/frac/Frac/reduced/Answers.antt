use Rattle.std.proofs.Common.{rules}
use Rattle.std.specs.Prelude.{FitsSigned}
use Rattle.std.specs.Int.{w128}
use Rattle.std.proofs.lemmas.Int.{to_z-of_z}
use Rattle.xc_frac.proofs.ClearedTerms.{cleared_ratio}
use Rattle.xc_frac.proofs.frac.Frac.reduced.Goals as goal

pub returns : goal.returns
returns c =
    let n = c.ranges.num in
    let d = c.ranges.den in
    let p : FitsSigned w128 c.cleared-num.result.0 = search rules in
    let q : FitsSigned w128 c.cleared-num.result.1 = search rules in
    simp to_z-of_z (cleared_ratio _ _ _ _ (simp to_z-of_z at c.cleared-num.ensures.cleared))
