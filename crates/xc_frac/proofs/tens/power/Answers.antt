use Rattle.std.proofs.Common.{◌^◌, ◌<◌, arith, rules}
use Rattle.xc_frac.proofs.PowersOfTen.{power_narrow, power_positive}
use Rattle.xc_frac.proofs.tens.power.Goals as goal

pub pow-requires : goal.pow-requires
pow-requires c =
    let small : 10 ^ c.args.places < 2 ^ 126 = power_narrow c.args.places c.requires in
    search rules

pub returns-clause-narrow : goal.returns-clause-narrow
returns-clause-narrow c = omega (arith, c.pow.ensures, power_narrow c.args.places c.requires)

pub returns-clause-positive : goal.returns-clause-positive
returns-clause-positive c = omega (arith, c.pow.ensures, power_positive c.args.places)
