use Rattle.std.proofs.Common.{rules}
use Rattle.std.specs.Prelude.{FitsSigned}
use Rattle.std.specs.Int.{w128}
use Rattle.std.proofs.lemmas.Int.{to_z-of_z}
use Rattle.xc_decimal.proofs.Spelled.{whole_reads}
use Rattle.xc_decimal.proofs.fractions.whole.Goals as goal

pub returns-in-Some : goal.returns-in-Some
returns-in-Some c =
    let fits : FitsSigned w128 c.in-Some.num = search rules in
    whole_reads c.args.num.now c.in-Some.num c.in-Some.ensures c.lowest.result (simp to_z-of_z at c.lowest.ensures)
