use Rattle.std.proofs.Common.{◌∙◌}
use Rattle.xc_report.proofs.SameKeys.{put_is}
use Rattle.xc_report.proofs.numbered.put.Goals as goal

pub returns : goal.returns
returns c = c.in_ok-insert.ensures.entries ∙ put_is c.args.map.now.entries c.args.dimension c.args.value
