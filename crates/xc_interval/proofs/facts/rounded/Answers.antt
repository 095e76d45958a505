use Rattle.std.proofs.Common.{refl, inl, inr}
use Rattle.std.proofs.lemmas.Result.{err_from_is_err_and}
use Rattle.xc_model.specs.Ratio.{fraction_of}
use Rattle.xc_frac.specs.declared.wide.Op.TheVariants.{Add, Sub}
use Rattle.xc_interval.specs.Reported.{half_of}
use Rattle.xc_interval.proofs.Passing.{passes_with, not_with, sum_same, difference_same}
use Rattle.xc_interval.proofs.facts.rounded.Goals as goal

pub returns-in_err-high-clause-passes : goal.returns-in_err-high-clause-passes
returns-in_err-high-clause-passes c d same =
    let p = err_from_is_err_and c.from_residual-in_err-high.result c.from_residual-in_err-high.ensures.1 in
    rw (p.1, p.2) (inr (
      not_with c.args.value c.args.half (half_of d) same Sub c.in_ok-low.ensures.fits,
      passes_with c.args.value c.args.half (half_of d) same Add _ c.in_err-high.ensures.operands c.in_err-high.ensures.passes,
    ))

pub returns-clause-ends : goal.returns-clause-ends
returns-clause-ends c d same = record {
  low = record { at = difference_same c.args.value c.args.half (half_of d) same (fraction_of c.in_ok-low.low) c.in_ok-low.ensures.exact; opens = refl };
  high = record { at = sum_same c.args.value c.args.half (half_of d) same (fraction_of c.in_ok-high.high) c.in_ok-high.ensures.exact; opens = refl };
}

pub returns-clause-fits : goal.returns-clause-fits
returns-clause-fits c d same w (inl first) = not_with c.args.value c.args.half (half_of d) same Sub c.in_ok-low.ensures.fits w first
returns-clause-fits c d same w (inr second) = not_with c.args.value c.args.half (half_of d) same Add c.in_ok-high.ensures.fits w second.1
