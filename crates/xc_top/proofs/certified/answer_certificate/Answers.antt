use Rattle.xc_top.proofs.Few.{bounds_length}
use Rattle.xc_top.proofs.certified.answer_certificate.Goals as goal

pub answer_judgement-requires : goal.answer_judgement-requires
answer_judgement-requires c = bounds_length c.args.mode c.args.networks.items c.args.report.now.facts c.in_ok-system.system c.in_ok-system.ensures.system
