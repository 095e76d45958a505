use Rattle.std.proofs.Common.{◌∙◌, ap}
use Rattle.xc_top.proofs.Parts.{put_last}
use Rattle.xc_top.proofs.taxonomy.keep_linkbase.Goals as goal
use Rattle.xc_top.specs.Taxonomies.{linkbase_in, linkbases_in}

pub returns-in_ok-push : goal.returns-in_ok-push
returns-in_ok-push c = ap linkbases_in c.in_ok-push.ensures.items ∙ put_last linkbase_in c.args.linkbases.now.items c.args.document
