use Rattle.xc_verdict.proofs.Narrow.{narrow_if, not_narrow}
use Rattle.xc_verdict.proofs.width.is_narrow.Goals as goal

pub returns-in-Some : goal.returns-in-Some
returns-in-Some c = narrow_if c.args.points.now c.args.binding.now c.in-Some.scale c.width.result c.fits.result c.in-Some.ensures.some c.width.ensures c.fits.ensures

pub returns-in-None : goal.returns-in-None
returns-in-None c = (λ no_. absurd (cc), λ narrow. absurd (not_narrow c.args.points.now c.args.binding.now c.in-None.ensures.none narrow))
