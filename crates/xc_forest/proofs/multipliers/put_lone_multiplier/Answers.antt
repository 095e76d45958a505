use Rattle.std.proofs.Common.{arith}
use Rattle.xc_forest.proofs.Refutings.{alone_known, alone_back}
use Rattle.xc_forest.proofs.multipliers.put_lone_multiplier.Goals as goal

pub index_mut-requires : goal.index_mut-requires
index_mut-requires g c = omega (arith, alone_known g.E.Exact.parts c.args.forest.now c.args.links.now c.requires.listing c.args.undos.now c.args.vertex c.args.value c.args.multipliers.now.items c.requires.refuted, c.args.multipliers.now.ok.0)

pub returns : goal.returns
returns g c = alone_back g.E.Exact.parts c.args.forest.now c.args.links.now c.requires.listing c.args.undos.now c.args.vertex c.args.value c.args.multipliers.now.items c.requires.refuted
