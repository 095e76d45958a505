use Rattle.xc_points.proofs.FactEnds.{narrow_value}
use Rattle.xc_points.proofs.intervals.interval_near.Goals as goal
use Rattle.std.proofs.Common.{inr}

pub returns-in-Ok : goal.returns-in-Ok
returns-in-Ok c = record {
  narrow = narrow_value c.args.mode c.args.decimals c.args.value c.to_frac.result c.lowest_terms.ensures.unique c.requires c.to_frac.ensures.over c.in-Ok.ensures.fits;
  numbers = c.in-Ok.ensures.admits c.args.value.digits c.args.value.places c.to_frac.ensures.over;
  some = c.in-Ok.ensures.some;
}

pub returns-in-Err : goal.returns-in-Err
returns-in-Err c = inr (record { value = c.to_frac.result; is = c.to_frac.ensures.over; operation = c.in-Err.field-0; passes = c.in-Err.ensures.passes })
