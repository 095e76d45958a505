use Rattle.xc_top.proofs.Writable.{writable}
use Rattle.xc_top.proofs.joint.part_of.Goals as goal

pub joint_lines-requires : goal.joint_lines-requires
joint_lines-requires c = writable c.args.system c.args.report.now.facts c.in_ok-joint.joint c.points-points.ensures.small.points c.requires c.in_ok-joint.ensures

pub returns : goal.returns
returns c = record {
  kept = c.points-points.ensures.system;
  small = c.points-points.ensures.small;
  joint = c.in_ok-joint.joint;
  said = c.in_ok-joint.ensures;
  lines = c.in_ok-joint_lines.ensures;
  contradicted = c.is_contradicted.ensures;
  caused = c.is_caused.ensures;
}
