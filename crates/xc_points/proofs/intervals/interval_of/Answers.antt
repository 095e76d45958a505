use Rattle.xc_points.proofs.FactEnds.{as_fact}
use Rattle.xc_points.proofs.intervals.interval_of.Goals as goal
use Rattle.xc_report.specs.declared.reports.Reading.TheVariants as read

pub returns-in-Number : goal.returns-in-Number
returns-in-Number c = as_fact c.args.mode c.args.fact.now (read.Number c.in-Number.value) c.interval_around.result c.in-Number.is c.interval_around.ensures
