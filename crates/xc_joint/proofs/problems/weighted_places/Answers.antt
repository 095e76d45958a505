use Rattle.xc_joint.specs.ComponentProblems.{IsWeightedPlace}
use Rattle.xc_joint.specs.Lists.{AreEach}
use Rattle.std.proofs.Common.{sym, subst}
use Rattle.xc_lists.specs.Members.{IsIn}
use Rattle.xc_joint.proofs.Each.{each_end}
use Rattle.xc_joint.proofs.problems.weighted_places.Goals as goal

pub place_of-requires-clause-there : goal.place_of-requires-clause-there
place_of-requires-clause-there c = subst (λ e. IsIn e.point c.args.points.now) (sym c.entry-item.is) (c.requires.own c.loop-entry.entry-index c.entry-item.result c.loop-entry-test.true)

pub returns : goal.returns
returns c = subst (AreEach (IsWeightedPlace c.args.points.now) c.args.entries.now) (sym c.of.ensures) (each_end (IsWeightedPlace c.args.points.now) c.args.entries.now c.loop-entry.entry-index c.loop-entry.places.items c.loop-entry.invariant c.loop-entry-test.false)
