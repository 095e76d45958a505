use Rattle.std.proofs.Common.{ap, ◌∙◌, length, take, drop}
use Rattle.xc_forest.proofs.Results.{contradicts}
use Rattle.xc_forest.proofs.propagation.settle_by_multipliers.Goals as goal

pub returns : goal.returns
returns g c =
    let count = ap length c.as_slice-points.ensures in
    let rows_are = c.of.ensures ∙ c.in_ok-rows.ensures.tail ∙ ap (λ n. drop n c.in_ok-ends.ends.items) count in
    let ends_are = c.of-2.ensures ∙ c.in_ok-rows.ensures.items ∙ ap (λ n. take n c.in_ok-ends.ends.items) count in
    rw (rows_are, ends_are) (contradicts g.E.Exact.parts c.args.forest.now c.args.links.now c.requires.listing c.requires.rows c.in_ok-ends.ends.items c.in_ok-ends.ensures)
