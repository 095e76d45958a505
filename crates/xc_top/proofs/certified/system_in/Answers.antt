use Rattle.std.proofs.Common.{length}
use Rattle.xc_top.proofs.Few.{few_ends}
use Rattle.xc_top.proofs.certified.system_in.Goals as goal

pub system-requires-clause-few_facts : goal.system-requires-clause-few_facts
system-requires-clause-few_facts c = few_ends c.args.mode c.args.report.now.facts c.in_ok-points.points.ends (length c.args.networks.items) c.in_ok-points.ensures.points.ends c.requires
