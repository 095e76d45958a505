use Rattle.std.specs.Prelude.{int_div}
use Rattle.std.specs.Int.{w128}
use Rattle.std.proofs.lemmas.Int.{quot_is, fits_signed_from_abs}
use Rattle.std.proofs.Common.{arith}
use Rattle.xc_model.specs.Width.{IsNarrow}
use Rattle.xc_model.proofs.Integers.{factor_below}
use Rattle.xc_frac.proofs.ClearedTerms.{quotient_by_divisor}
use Rattle.xc_frac.proofs.integers.exact_quotient.Goals as goal

narrow : (c : goal.Start) → IsNarrow (int_div c.args.n c.args.s)
narrow c = omega (arith, c.requires.narrow, factor_below (int_div c.args.n c.args.s) c.args.s c.args.n (quotient_by_divisor c.args.n c.args.s c.requires.divides) c.requires.some)

pub returns-clause-exact : goal.returns-clause-exact
returns-clause-exact c =
    rw (quot_is w128 c.args.n c.args.s c.ranges.n c.ranges.s (fits_signed_from_abs w128 _ (narrow c))) (quotient_by_divisor c.args.n c.args.s c.requires.divides)

pub returns-clause-narrow : goal.returns-clause-narrow
returns-clause-narrow c = rw (quot_is w128 c.args.n c.args.s c.ranges.n c.ranges.s (fits_signed_from_abs w128 _ (narrow c))) (narrow c)
