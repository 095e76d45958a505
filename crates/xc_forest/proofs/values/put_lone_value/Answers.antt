use Rattle.std.proofs.Common.{arith}
use Rattle.xc_forest.proofs.Undoings.{alone_known, alone_back}
use Rattle.xc_forest.proofs.values.put_lone_value.Goals as goal

pub index_mut-requires : goal.index_mut-requires
index_mut-requires g c = omega (arith, alone_known g.E.Exact.parts c.args.forest.now c.args.links.now c.requires.listing c.args.undos.now c.args.vertex c.args.value c.args.values.now.items c.requires.settled, c.args.values.now.ok.0)

pub returns : goal.returns
returns g c = alone_back g.E.Exact.parts c.args.forest.now c.args.links.now c.requires.listing c.args.undos.now c.args.vertex c.args.value c.args.values.now.items c.requires.settled
