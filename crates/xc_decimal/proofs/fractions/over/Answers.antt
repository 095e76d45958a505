use Rattle.std.proofs.Common.{rules}
use Rattle.std.specs.Prelude.{FitsSigned}
use Rattle.std.specs.Int.{w128}
use Rattle.std.proofs.lemmas.Int.{to_z-of_z}
use Rattle.xc_decimal.proofs.Spelled.{over_reads, over_one}
use Rattle.xc_decimal.proofs.fractions.over.Goals as goal

pub returns-then-den-lt2 : goal.returns-then-den-lt2
returns-then-den-lt2 c = over_one c.args.num.now c.in-Some.num c.in-Some.ensures c.args.den.now c.in-Some-natural.den c.in-Some-natural.ensures c.if-den-lt2.true

pub returns-else-den-lt2 : goal.returns-else-den-lt2
returns-else-den-lt2 c =
    let fits : FitsSigned w128 c.in-Some.num = search rules in
    over_reads c.args.num.now c.in-Some.num c.in-Some.ensures c.args.den.now c.in-Some-natural.den c.in-Some-natural.ensures c.lowest.result c.if-den-lt2.false (simp to_z-of_z at c.lowest.ensures)
