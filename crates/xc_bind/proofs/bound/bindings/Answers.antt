use Rattle.std.proofs.Common.{◌≡◌, ◌≤◌, ◌*◌, All, length, arith, subst, sym}
use Rattle.std.proofs.lemmas.Grind.{common_steps}
use Rattle.xc_bind.proofs.Placing.{all_placed, all_of_networks, few_bindings}
use Rattle.xc_bind.specs.Bindings.{bindings_of}
use Rattle.xc_bind.specs.Placed.{IsOfNetworks, IsPlaced}
use Rattle.xc_bind.proofs.bound.bindings.Goals as goal

pub returns-clause-networks : goal.returns-clause-networks
returns-clause-networks c =
    let exact : c.loop-at.list.items ≡ bindings_of c.args.networks.now c.args.points.now.points = grind (arith, common_steps) in
    subst (λ bs. All (IsOfNetworks c.args.networks.now) bs) (sym exact) (all_of_networks c.args.networks.now c.args.points.now.points)

pub returns-clause-points : goal.returns-clause-points
returns-clause-points c =
    let exact : c.loop-at.list.items ≡ bindings_of c.args.networks.now c.args.points.now.points = grind (arith, common_steps) in
    subst (λ bs. All (IsPlaced c.args.points.now.points) bs) (sym exact) (all_placed c.args.networks.now c.args.points.now.points)

pub returns-clause-few : goal.returns-clause-few
returns-clause-few c =
    let exact : c.loop-at.list.items ≡ bindings_of c.args.networks.now c.args.points.now.points = grind (arith, common_steps) in
    subst (λ bs. length bs ≤ length c.args.networks.now * length c.args.points.now.points) (sym exact) (few_bindings c.args.networks.now c.args.points.now.points)
