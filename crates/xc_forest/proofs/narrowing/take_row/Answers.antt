use Rattle.std.proofs.Common.{arith, refl, inl, inr}
use Rattle.xc_forest.specs.Forests.{ranges_of}
use Rattle.xc_forest.specs.Steps.Links.{link_at}
use Rattle.xc_forest.specs.Steps.Scaled.{scale_of}
use Rattle.xc_forest.proofs.Narrowings.{linked, link_row, known_here, hold_at, row_clashes, row_step}
use Rattle.xc_forest.proofs.narrowing.take_row.Goals as goal

pub index-of_row-requires : goal.index-of_row-requires
index-of_row-requires g c =
    let link = link_at c.args.links.now c.args.k in
    let b = known_here g.E.Exact.parts c.args.forest.now c.args.links.now c.requires.listing c.args.k c.requires.there c.args.spans.now.items c.args.undos.now.items c.requires.narrowed link refl link.vertex (inl refl) in
    omega (arith, b, c.args.spans.now.ok.0)

pub index-of_point-requires : goal.index-of_point-requires
index-of_point-requires g c =
    let link = link_at c.args.links.now c.args.k in
    let to = linked g.E.Exact.parts c.args.forest.now c.args.links.now c.requires.listing c.args.k c.requires.there c.args.spans.now.items c.args.undos.now.items c.requires.narrowed link refl in
    let leaf = link_row _ _ _ link c.requires.last c.requires.kind to in
    let b = known_here g.E.Exact.parts c.args.forest.now c.args.links.now c.requires.listing c.args.k c.requires.there c.args.spans.now.items c.args.undos.now.items c.requires.narrowed link refl link.next (inr leaf.left) in
    omega (arith, b, c.args.spans.now.ok.0)

pub index_mut-requires : goal.index_mut-requires
index_mut-requires g c =
    let link = link_at c.args.links.now c.args.k in
    let to = linked g.E.Exact.parts c.args.forest.now c.args.links.now c.requires.listing c.args.k c.requires.there c.args.spans.now.items c.args.undos.now.items c.requires.narrowed link refl in
    let leaf = link_row _ _ _ link c.requires.last c.requires.kind to in
    let b = known_here g.E.Exact.parts c.args.forest.now c.args.links.now c.requires.listing c.args.k c.requires.there c.args.spans.now.items c.args.undos.now.items c.requires.narrowed link refl link.next (inr leaf.left) in
    omega (arith, b, c.args.spans.now.ok.0)

pub returns-then-is_empty : goal.returns-then-is_empty
returns-then-is_empty g c =
    let link = link_at c.args.links.now c.args.k in
    let to = linked g.E.Exact.parts c.args.forest.now c.args.links.now c.requires.listing c.args.k c.requires.there c.args.spans.now.items c.args.undos.now.items c.requires.narrowed link refl in
    let leaf = link_row _ _ _ link c.requires.last c.requires.kind to in
    let x = hold_at g.E.Exact.parts c.args.forest.now c.args.links.now c.requires.listing c.args.k c.requires.there c.args.spans.now.items c.args.undos.now.items c.requires.narrowed link refl link.next c.index-of_point.result.now (inr leaf.left) c.index-of_point.ensures in
    let y = hold_at g.E.Exact.parts c.args.forest.now c.args.links.now c.requires.listing c.args.k c.requires.there c.args.spans.now.items c.args.undos.now.items c.requires.narrowed link refl link.vertex c.index-of_row.result.now (inl refl) c.index-of_row.ensures in
    let m = c.meet-common.ensures _ _ (scale_of (ranges_of g.E.Exact.parts c.args.forest.now.ranges)) x (c.span_with_sign.ensures _ _ y) in
    row_clashes g.E.Exact.parts c.args.forest.now c.args.links.now c.requires.listing c.args.k c.requires.there c.args.spans.now.items c.args.undos.now.items c.requires.narrowed link refl leaf c.meet-common.result.low_of_second c.meet-common.result.high_of_second m.0 m.2 (c.if-is_empty.ensures m.0 _ m.1) c.clash_of.result c.clash_of.ensures.row c.clash_of.ensures.point c.clash_of.ensures.row_by c.clash_of.ensures.point_by

pub returns : goal.returns
returns g c =
    let link = link_at c.args.links.now c.args.k in
    let to = linked g.E.Exact.parts c.args.forest.now c.args.links.now c.requires.listing c.args.k c.requires.there c.args.spans.now.items c.args.undos.now.items c.requires.narrowed link refl in
    let leaf = link_row _ _ _ link c.requires.last c.requires.kind to in
    let x = hold_at g.E.Exact.parts c.args.forest.now c.args.links.now c.requires.listing c.args.k c.requires.there c.args.spans.now.items c.args.undos.now.items c.requires.narrowed link refl link.next c.index-of_point.result.now (inr leaf.left) c.index-of_point.ensures in
    let y = hold_at g.E.Exact.parts c.args.forest.now c.args.links.now c.requires.listing c.args.k c.requires.there c.args.spans.now.items c.args.undos.now.items c.requires.narrowed link refl link.vertex c.index-of_row.result.now (inl refl) c.index-of_row.ensures in
    let m = c.meet-common.ensures _ _ (scale_of (ranges_of g.E.Exact.parts c.args.forest.now.ranges)) x (c.span_with_sign.ensures _ _ y) in
    rw c.in_ok-push.ensures.items (row_step g.E.Exact.parts c.args.forest.now c.args.links.now c.requires.listing c.args.k c.requires.there c.args.spans.now.items c.args.undos.now.items c.requires.narrowed link refl leaf c.meet-common.result.low_of_second c.meet-common.result.high_of_second c.meet-common.result.bounds m.0 m.1 m.2 (c.if-is_empty.ensures m.0 _ m.1))
