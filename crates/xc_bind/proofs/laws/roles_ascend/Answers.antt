use Rattle.xc_bind.proofs.RolesInOrder.{roles_in_order}
use Rattle.xc_bind.proofs.laws.roles_ascend.Goals as goal

pub returns : goal.returns
returns c = roles_in_order
