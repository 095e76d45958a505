use Rattle.xc_calc.proofs.Roles.{put_in_role}
use Rattle.xc_calc.proofs.networks.put_arc.Goals as goal

pub returns : goal.returns
returns c = λ arcs so_far role. put_in_role arcs c.args.listed.now role c.role.result _ _ c.role.ensures (so_far role) (c.in_ok-put_last.ensures role)
