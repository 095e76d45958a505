use Rattle.std.proofs.Common.{◌∙◌, List, ap, length, refl, slice_get, sym}
use Rattle.std.proofs.lemmas.Option.{slice_get_read}
use Rattle.xc_system.proofs.tests.description.Goals as goal
use Rattle.xc_system.specs.declared.types.Component.{Component}

pub is_narrow_forest-narrow-requires : goal.is_narrow_forest-narrow-requires
is_narrow_forest-narrow-requires c =
    let items = c.as_slice-component-items.result.now in
    let n = c.loop-component.component-index in
    c.in_ok-components.ensures.each n c.component-item.result
    (ap (λ (l : List Component). slice_get l n) (sym c.as_slice-component-items.ensures.value) ∙ slice_get_read items (length items) n c.component-item.result refl c.loop-component-test.true c.component-item.is)
