use Rattle.std.proofs.Common.{◌≡◌, map, IfOk, ap, subst, ◌∙◌}
use Rattle.xc_calc.proofs.Roles.{answer_networks}
use Rattle.xc_calc.specs.Effective.{effective_arcs}
use Rattle.xc_calc.specs.Networks.{some_role, arcs_of}
use Rattle.xc_calc.proofs.arcs.Arcs.effective.Goals as goal

pub returns : goal.returns
returns c =
    let effective = map (λ a. a.now) c.in_ok-effective.effective.items in
    let ensures = c.networks_of.ensures in
    answer_networks (λ v. v.items) c.args.self.now.arcs effective c.in_ok-roles.roles.keys c.networks_of.result
    (c.in_ok-effective.ensures ∙ ap effective_arcs (c.as_slice.ensures.value ∙ ap (λ a. a.arcs) c.self.view_is))
    (λ role. c.in_ok-roles.ensures role ∙ ap (λ xs. some_role (map (λ a. a.now) xs) role) c.as_slice-2.ensures.value)
    ensures.ascending
    ensures.roles
    (subst (λ xs. IfOk c.networks_of.result (λ n. map (λ n. n.arcs) n.items ≡ map (λ n. arcs_of (map (λ a. a.now) xs) n.role) n.items)) c.as_slice-3.ensures.value ensures.arcs)
