use Rattle.std.proofs.Common.{◌≡◌, ◌+◌, arith, ap, sym, ◌∙◌, drop, length, length-append}
use Rattle.xc_concepts.proofs.Flat.{flat_step}
use Rattle.xc_concepts.specs.Declarations.{types_in}
use Rattle.xc_concepts.proofs.kind.count_types.Goals as goal

pub overflow_add-count : goal.overflow_add-count
overflow_add-count c = omega (arith, c.loop-schema.invariant.small, c.loop-schema-test.true, c.well_formed.0.0, c.as_slice.type_inv.0)

pub loop-schema-preserved : goal.loop-schema-preserved
loop-schema-preserved c =
    let schemas = c.args.schemas.now in
    let i = c.loop-schema.schema-index in
    let types = c.as_slice.result.now in
    let rest = types_in (drop (i + 1) schemas) in
    let step : length (types_in (drop i schemas)) ≡ length types + length rest =
    ap length (flat_step (λ s. s.types) schemas i c.schema-item.result c.loop-schema-test.true c.schema-item.is)
    ∙ length-append c.schema-item.result.types rest
    ∙ ap (λ ts. length ts + length rest) (sym c.as_slice.ensures) in
    record {
      counted = omega (arith, step, c.loop-schema.invariant.counted);
      small = omega (arith, c.loop-schema.invariant.small, c.as_slice.type_inv.0);
    }
