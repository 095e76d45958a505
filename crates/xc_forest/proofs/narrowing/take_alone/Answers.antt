use Rattle.std.proofs.Common.{arith, ap, refl, inl, length}
use Rattle.xc_forest.specs.Forests.{ranges_of}
use Rattle.xc_forest.specs.Steps.Links.{link_at}
use Rattle.xc_forest.proofs.Narrowings.{linked, link_alone, known_here, hold_at, alone_point, alone_low, alone_high, alone_row, zero_over}
use Rattle.xc_forest.proofs.narrowing.take_alone.Goals as goal

pub offset_bounds-spans-vertex : goal.offset_bounds-spans-vertex
offset_bounds-spans-vertex g c =
    let link = link_at c.args.links.now c.args.k in
    let b = known_here g.E.Exact.parts c.args.forest.now c.args.links.now c.requires.listing c.args.k c.requires.there c.args.spans.now c.args.undos.now.items c.requires.narrowed link refl link.vertex (inl refl) in
    omega arith

pub bounds-spans-vertex : goal.bounds-spans-vertex
bounds-spans-vertex g c =
    let link = link_at c.args.links.now c.args.k in
    known_here g.E.Exact.parts c.args.forest.now c.args.links.now c.requires.listing c.args.k c.requires.there c.args.spans.now c.args.undos.now.items c.requires.narrowed link refl link.vertex (inl refl)

pub returns-then-vertex-as_slice : goal.returns-then-vertex-as_slice
returns-then-vertex-as_slice g c =
    let link = link_at c.args.links.now c.args.k in
    let lone = link_alone _ _ link c.requires.alone (linked g.E.Exact.parts c.args.forest.now c.args.links.now c.requires.listing c.args.k c.requires.there c.args.spans.now c.args.undos.now.items c.requires.narrowed link refl) in
    let o = hold_at g.E.Exact.parts c.args.forest.now c.args.links.now c.requires.listing c.args.k c.requires.there c.args.spans.now c.args.undos.now.items c.requires.narrowed link refl link.vertex c.index-spans-vertex.result (inl refl) c.index-spans-vertex.is in
    rw c.in_ok-push.ensures.items (alone_point g.E.Exact.parts c.args.forest.now c.args.links.now c.requires.listing c.args.k c.requires.there c.args.spans.now c.args.undos.now.items c.requires.narrowed link refl lone c.index-spans-vertex.result o (omega (arith, ap length c.as_slice.ensures)))

pub returns-then-is_less : goal.returns-then-is_less
returns-then-is_less g c =
    let link = link_at c.args.links.now c.args.k in
    let lone = link_alone _ _ link c.requires.alone (linked g.E.Exact.parts c.args.forest.now c.args.links.now c.requires.listing c.args.k c.requires.there c.args.spans.now c.args.undos.now.items c.requires.narrowed link refl) in
    let o = hold_at g.E.Exact.parts c.args.forest.now c.args.links.now c.requires.listing c.args.k c.requires.there c.args.spans.now c.args.undos.now.items c.requires.narrowed link refl link.vertex c.index-spans-vertex.result (inl refl) c.index-spans-vertex.is in
    let z = zero_over (ranges_of g.E.Exact.parts c.args.forest.now.ranges) (g.E.Exact.parts c.zero-zero.result) c.zero-zero.ensures in
    rw c.lone_clash.ensures (alone_low g.E.Exact.parts c.args.forest.now c.args.links.now c.requires.listing c.args.k c.requires.there c.args.spans.now c.args.undos.now.items c.requires.narrowed link refl lone c.index-spans-vertex.result o (omega (arith, ap length c.as_slice.ensures)) (c.if-is_less.ensures _ _ _ z o.low))

pub returns-then-is_less-2 : goal.returns-then-is_less-2
returns-then-is_less-2 g c =
    let link = link_at c.args.links.now c.args.k in
    let lone = link_alone _ _ link c.requires.alone (linked g.E.Exact.parts c.args.forest.now c.args.links.now c.requires.listing c.args.k c.requires.there c.args.spans.now c.args.undos.now.items c.requires.narrowed link refl) in
    let o = hold_at g.E.Exact.parts c.args.forest.now c.args.links.now c.requires.listing c.args.k c.requires.there c.args.spans.now c.args.undos.now.items c.requires.narrowed link refl link.vertex c.index-spans-vertex.result (inl refl) c.index-spans-vertex.is in
    let z = zero_over (ranges_of g.E.Exact.parts c.args.forest.now.ranges) (g.E.Exact.parts c.zero-zero.result) c.zero-zero.ensures in
    rw c.lone_clash-then-is_less-2.ensures (alone_high g.E.Exact.parts c.args.forest.now c.args.links.now c.requires.listing c.args.k c.requires.there c.args.spans.now c.args.undos.now.items c.requires.narrowed link refl lone c.index-spans-vertex.result o (omega (arith, ap length c.as_slice.ensures)) (c.if-is_less-2.ensures _ _ _ o.high z))

pub returns : goal.returns
returns g c =
    let link = link_at c.args.links.now c.args.k in
    let lone = link_alone _ _ link c.requires.alone (linked g.E.Exact.parts c.args.forest.now c.args.links.now c.requires.listing c.args.k c.requires.there c.args.spans.now c.args.undos.now.items c.requires.narrowed link refl) in
    let o = hold_at g.E.Exact.parts c.args.forest.now c.args.links.now c.requires.listing c.args.k c.requires.there c.args.spans.now c.args.undos.now.items c.requires.narrowed link refl link.vertex c.index-spans-vertex.result (inl refl) c.index-spans-vertex.is in
    let z = zero_over (ranges_of g.E.Exact.parts c.args.forest.now.ranges) (g.E.Exact.parts c.zero-zero.result) c.zero-zero.ensures in
    rw c.in_ok-push-2.ensures.items (alone_row g.E.Exact.parts c.args.forest.now c.args.links.now c.requires.listing c.args.k c.requires.there c.args.spans.now c.args.undos.now.items c.requires.narrowed link refl lone c.index-spans-vertex.result o (omega (arith, ap length c.as_slice.ensures)) c.zero-zero.result c.zero-zero.ensures (c.if-is_less.ensures _ _ _ z o.low) (c.if-is_less-2.ensures _ _ _ o.high z))
