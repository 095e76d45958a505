use Rattle.std.proofs.Common.{ap, ◌∙◌, length, take}
use Rattle.xc_forest.proofs.Results.{solves}
use Rattle.xc_forest.proofs.propagation.settle_by_values.Goals as goal

pub returns : goal.returns
returns g c =
    let count = ap length c.as_slice.ensures in
    let are = c.of.ensures ∙ c.truncate.ensures.items ∙ ap (λ n. take n c.in_ok-values.values.items) count in
    rw are (solves g.E.Exact.parts c.args.forest.now c.args.links.now c.requires.listing c.requires.rows c.requires.ranges c.in_ok-values.values.items c.in_ok-values.ensures)
