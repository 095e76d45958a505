use Rattle.std.proofs.Common.{ap, sym, length, subst}
use Rattle.std.proofs.lemmas.Result.{IfOk-weaker}
use Rattle.xc_bind.proofs.Owning.{made, small_made}
use Rattle.xc_bind.proofs.constraints.system.Goals as goal
use Rattle.xc_bind.specs.Systems.{IsSystemOf}
use Rattle.xc_system.specs.Systems.{Constraints}

pub of-requires-clause-system : goal.of-requires-clause-system
of-requires-clause-system c = (made c.args.points.now c.args.bindings.now c.in_ok-owners.owners.items c.as_slice.result.now c.ends.result.now c.in_ok-bounds.bounds.items c.in_ok-equations.equations.items c.as_slice-list.result.now
    c.as_slice-list.ensures.kept c.in_ok-owners.ensures c.as_slice.ensures.value c.ends.ensures c.as_slice-list.ensures.points c.in_ok-bounds.ensures c.requires.placed c.in_ok-equations.ensures).system

pub of-requires-clause-small : goal.of-requires-clause-small
of-requires-clause-small c = small_made c.args.points.now c.args.bindings.now _ (made c.args.points.now c.args.bindings.now c.in_ok-owners.owners.items c.as_slice.result.now c.ends.result.now c.in_ok-bounds.bounds.items c.in_ok-equations.equations.items c.as_slice-list.result.now
    c.as_slice-list.ensures.kept c.in_ok-owners.ensures c.as_slice.ensures.value c.ends.ensures c.as_slice-list.ensures.points c.in_ok-bounds.ensures c.requires.placed c.in_ok-equations.ensures) (ap length c.as_slice-list.ensures.points) c.requires.few_points c.requires.few_facts c.requires.few_bindings

pub returns : goal.returns
returns c = IfOk-weaker _ _ _
    (λ (s : Constraints) e. subst (IsSystemOf c.args.points.now c.args.bindings.now) (sym e) (made c.args.points.now c.args.bindings.now c.in_ok-owners.owners.items c.as_slice.result.now c.ends.result.now c.in_ok-bounds.bounds.items c.in_ok-equations.equations.items c.as_slice-list.result.now
    c.as_slice-list.ensures.kept c.in_ok-owners.ensures c.as_slice.ensures.value c.ends.ensures c.as_slice-list.ensures.points c.in_ok-bounds.ensures c.requires.placed c.in_ok-equations.ensures).is)
    c.of.ensures
