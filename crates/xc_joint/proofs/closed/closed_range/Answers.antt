use Rattle.std.proofs.Common.{pos, negsuc}
use Rattle.xc_interval.specs.Ends.{is_open}
use Rattle.xc_interval.specs.declared.ends.End.TheVariants.{Closed}
use Rattle.xc_joint.proofs.Exact.{exact_tiny}
use Rattle.xc_model.specs.Ratio.{fraction_of}
use Rattle.xc_joint.proofs.closed.closed_range.Goals as goal

pub returns : goal.returns
returns c =
    let low = exact_tiny (is_open c.args.range.now.low) c.low_tiny.result (pos 1) c.low_tiny.ensures.same in
    let high = exact_tiny (is_open c.args.range.now.high) c.high_tiny.result (negsuc 0) c.high_tiny.ensures.same in
    λ i. record { low = Closed (record { real = fraction_of (c.value.ensures i); tiny = low i }); high = Closed (record { real = fraction_of (c.value-2.ensures i); tiny = high i }) }
