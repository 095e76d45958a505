use Rattle.std.proofs.Common.{rules, ◌≡◌, ◌++◌}
use Rattle.xc_names.specs.Names.{with_name}
use Rattle.xc_report.proofs.Behind.{added_more}
use Rattle.xc_report.proofs.Kept.{kept_on}
use Rattle.xc_report.proofs.gained.add_gained.Goals as goal

pub loop-number-preserved : goal.loop-number-preserved
loop-number-preserved c =
    let name = c.name-name.result.now in
    let more : c.number.new.self ≡ with_name name.space name.local c.loop-number.names = search rules in
    record {
      kept = kept_on _ _ _ c.loop-number.invariant.kept c.number.ensures.kept;
      all = added_more c.loop-number.names c.number.new.self c.args.gained.now (c.args.names.now ++ c.args.gained.now) c.loop-number.number name
          c.requires c.loop-number.invariant.all c.name-name.ensures.name more;
    }
