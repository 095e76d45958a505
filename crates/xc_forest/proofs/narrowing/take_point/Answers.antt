use Rattle.std.proofs.Common.{arith, refl, inl, inr}
use Rattle.std.specs.Prelude.{reverse}
use Rattle.xc_forest.specs.Steps.Links.{link_at}
use Rattle.xc_forest.proofs.Narrowings.{linked, link_point, known_here, hold_at, can_lessen, trail_here, point_step}
use Rattle.xc_forest.proofs.narrowing.take_point.Goals as goal

pub index-of_row-requires : goal.index-of_row-requires
index-of_row-requires g c =
    let link = link_at c.args.links.now c.args.k in
    let to = linked g.E.Exact.parts c.args.forest.now c.args.links.now c.requires.listing c.args.k c.requires.there c.args.spans.now.items c.args.undos.now.items c.requires.narrowed link refl in
    let leaf = link_point _ _ _ link c.requires.last c.requires.kind to in
    let b = known_here g.E.Exact.parts c.args.forest.now c.args.links.now c.requires.listing c.args.k c.requires.there c.args.spans.now.items c.args.undos.now.items c.requires.narrowed link refl link.next (inr leaf.left) in
    omega (arith, b, c.args.spans.now.ok.0)

pub row_without_point-requires : goal.row_without_point-requires
row_without_point-requires g c =
    let link = link_at c.args.links.now c.args.k in
    let to = linked g.E.Exact.parts c.args.forest.now c.args.links.now c.requires.listing c.args.k c.requires.there c.args.spans.now.items c.args.undos.now.items c.requires.narrowed link refl in
    let leaf = link_point _ _ _ link c.requires.last c.requires.kind to in
    let x = hold_at g.E.Exact.parts c.args.forest.now c.args.links.now c.requires.listing c.args.k c.requires.there c.args.spans.now.items c.args.undos.now.items c.requires.narrowed link refl link.next c.index-of_row.result.now (inr leaf.left) c.index-of_row.ensures in
    let y = hold_at g.E.Exact.parts c.args.forest.now c.args.links.now c.requires.listing c.args.k c.requires.there c.args.spans.now.items c.args.undos.now.items c.requires.narrowed link refl link.vertex c.index-of_point.result.now (inl refl) c.index-of_point.ensures in
    let t = trail_here g.E.Exact.parts c.args.forest.now c.args.links.now c.requires.listing c.args.k c.requires.there c.args.spans.now.items c.args.undos.now.items c.requires.narrowed link refl in
    can_lessen g.E.Exact.parts c.args.forest.now c.args.links.now c.requires.listing (reverse c.args.undos.now.items) _ _ t g.E.Exact.passes c.requires.room link.minus link.next link.vertex c.index-of_row.result.now c.index-of_point.result.now (inr leaf.left) (inl refl) x y

pub index_mut-requires : goal.index_mut-requires
index_mut-requires g c =
    let link = link_at c.args.links.now c.args.k in
    let to = linked g.E.Exact.parts c.args.forest.now c.args.links.now c.requires.listing c.args.k c.requires.there c.args.spans.now.items c.args.undos.now.items c.requires.narrowed link refl in
    let leaf = link_point _ _ _ link c.requires.last c.requires.kind to in
    let b = known_here g.E.Exact.parts c.args.forest.now c.args.links.now c.requires.listing c.args.k c.requires.there c.args.spans.now.items c.args.undos.now.items c.requires.narrowed link refl link.next (inr leaf.left) in
    omega (arith, b, c.args.spans.now.ok.0)

pub returns : goal.returns
returns g c =
    let link = link_at c.args.links.now c.args.k in
    let to = linked g.E.Exact.parts c.args.forest.now c.args.links.now c.requires.listing c.args.k c.requires.there c.args.spans.now.items c.args.undos.now.items c.requires.narrowed link refl in
    let leaf = link_point _ _ _ link c.requires.last c.requires.kind to in
    let x = hold_at g.E.Exact.parts c.args.forest.now c.args.links.now c.requires.listing c.args.k c.requires.there c.args.spans.now.items c.args.undos.now.items c.requires.narrowed link refl link.next c.index-of_row.result.now (inr leaf.left) c.index-of_row.ensures in
    let y = hold_at g.E.Exact.parts c.args.forest.now c.args.links.now c.requires.listing c.args.k c.requires.there c.args.spans.now.items c.args.undos.now.items c.requires.narrowed link refl link.vertex c.index-of_point.result.now (inl refl) c.index-of_point.ensures in
    rw c.in_ok-push.ensures.items (point_step g.E.Exact.parts c.args.forest.now c.args.links.now c.requires.listing c.args.k c.requires.there c.args.spans.now.items c.args.undos.now.items c.requires.narrowed link refl leaf c.index-of_row.result.now c.index-of_point.result.now c.row_without_point.result x y (c.row_without_point.ensures _ _ _ x y))
