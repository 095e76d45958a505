use Rattle.std.proofs.Common.{length, ◌∙◌}
use Rattle.xc_top.proofs.Few.{ends_length, few_ends}
use Rattle.xc_top.proofs.joint.answer_joint.Goals as goal

pub system-requires-clause-few_facts : goal.system-requires-clause-few_facts
system-requires-clause-few_facts c = few_ends c.args.mode c.args.report.now.facts c.in_ok-findings.findings.points.ends (length c.args.networks.items) c.in_ok-findings.ensures.points.ends c.requires

pub part_of-requires : goal.part_of-requires
part_of-requires c = c.in_ok-system.ensures.facts ∙ ends_length c.args.mode c.args.report.now.facts c.in_ok-findings.findings.points.ends c.in_ok-findings.ensures.points.ends
