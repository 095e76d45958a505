use Rattle.std.proofs.Common.{◌+◌, ◌||◌, ap, sym, ◌∙◌, drop, map}
use Rattle.std.specs.Str.{bytes_eq}
use Rattle.xc_calc.proofs.Roles.{has_text, role_noted, role_step}
use Rattle.xc_calc.specs.Networks.{some_role}
use Rattle.xc_lists.proofs.Anys.{or_along}
use Rattle.xc_calc.proofs.networks.roles_of.Goals as goal

pub loop-arc-preserved : goal.loop-arc-preserved
loop-arc-preserved c = λ role.
    let arcs = c.args.arcs.now in
    let old = c.loop-arc.roles.keys in
    let rest = some_role (map (λ a. a.now) (drop (c.loop-arc.arc-index + 1) arcs)) role in
    ap (λ ks. has_text ks role || rest) c.in_ok-insert.ensures.keys
    ∙ ap (λ b. b || rest) (role_noted old c.role.result role)
    ∙ or_along (has_text old role) (bytes_eq role c.role.result.now) rest
    ∙ ap (λ t. has_text old role || (bytes_eq role t || rest)) c.role.ensures
    ∙ ap (λ b. has_text old role || b) (sym (role_step arcs c.loop-arc.arc-index c.arc-item.result c.loop-arc-test.true c.arc-item.is role))
    ∙ c.loop-arc.invariant role
