use Rattle.std.proofs.Common.{◌≡◌, ◌<◌, length, None, subst, sym, ap, ◌∙◌}
use Rattle.std.specs.Prelude.{option_map}
use Rattle.xc_elements.specs.Declarations.{set_by}
use Rattle.xc_elements.proofs.PathLaws.{Climbs, climbs_more, parent_earlier, height}
use Rattle.xc_elements.proofs.trees.first_declared.Goals as goal

pub loop-at-smaller : goal.loop-at-smaller
loop-at-smaller c =
    let here = subst (λ at. Climbs c.args.nodes.now c.args.node c.args.prefix.now at) c.in-Some.is c.loop-at.invariant in
    let within : c.in-Some.number < length c.args.nodes.now = here.within in
    subst (λ at. height c.index-nodes-number.result.parent < height at) (sym c.in-Some.is) (parent_earlier c.args.nodes.now c.in-Some.number c.index-nodes-number.result c.requires.tree within c.index-nodes-number.is)

pub loop-at-preserved : goal.loop-at-preserved
loop-at-preserved c =
    let here = subst (λ at. Climbs c.args.nodes.now c.args.node c.args.prefix.now at) c.in-Some.is c.loop-at.invariant in
    let none : None ≡ set_by c.index-nodes-number.result.declared c.args.prefix.now =
    sym (ap (λ o. option_map (λ value. value.now) o) c.in-None.is) ∙ c.get.ensures
    in
    climbs_more c.args.nodes.now c.args.node c.in-Some.number c.index-nodes-number.result c.args.prefix.now c.requires.tree here.within c.index-nodes-number.is none here
