use Rattle.std.proofs.Common.{map, drop, ◌+◌, ap, sym, ◌∙◌}
use Rattle.std.specs.BTreeSet.{insert_key}
use Rattle.xc_calc.proofs.AttributeSets.{map_put, put_step}
use Rattle.xc_calc.specs.Steps.Sets.{attribute_of, by_attribute, put_all}
use Rattle.xc_calc.proofs.common.set_of_attributes.Goals as goal

pub loop-attribute-preserved : goal.loop-attribute-preserved
loop-attribute-preserved c =
    let attributes = c.args.attributes.now in
    let i = c.loop-attribute.attribute-index in
    let old = c.loop-attribute.set.keys in
    ap (λ s. put_all s (drop (i + 1) attributes)) (ap (map attribute_of) c.in_ok-insert.ensures.keys ∙ map_put old c.compared_of.result ∙ ap (insert_key by_attribute (map attribute_of old)) c.compared_of.ensures)
    ∙ sym (put_step (map attribute_of old) attributes i c.attribute-item.result c.loop-attribute-test.true c.attribute-item.is)
    ∙ c.loop-attribute.invariant
