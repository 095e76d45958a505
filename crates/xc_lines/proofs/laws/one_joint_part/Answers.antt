use Rattle.xc_lines.proofs.JointParts.{one_joint_part}
use Rattle.xc_lines.proofs.laws.one_joint_part.Goals as goal

pub returns : goal.returns
returns c = one_joint_part
