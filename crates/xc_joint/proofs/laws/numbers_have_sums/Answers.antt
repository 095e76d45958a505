use Rattle.xc_joint.proofs.ForestRanges.{are_ranges_of}
use Rattle.xc_joint.proofs.PartSums.{have_sums}
use Rattle.xc_joint.proofs.laws.numbers_have_sums.Goals as goal

pub returns : goal.returns
returns c s k is forest ranges rows bounded are xs solve whole =
    let w = whole (record { system = s; component = k; narrow = forest.narrow; are = are_ranges_of s k ranges bounded }) in
    have_sums s k is forest.narrow forest.once ranges rows bounded are xs solve w.0 w.1 w.2
