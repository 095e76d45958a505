use Rattle.std.proofs.Common.{refl, sym, subst, length}
use Rattle.xc_corners.specs.Choices.{first_corner}
use Rattle.xc_corners.specs.Operations.{at_first}
use Rattle.xc_corners.specs.WholeNumbers.{whole_problem}
use Rattle.xc_pivot.specs.States.{ArePlaces}
use Rattle.xc_pivot.proofs.FirstPlaces.{first_placed}
use Rattle.xc_pivot.proofs.walking.walk_to_end.Goals as goal

pub returns-in-Err-clause-some : goal.returns-in-Err-clause-some
returns-in-Err-clause-some c = record {
  corner = first_corner (whole_problem c.args.problem.now);
  placed = subst (λ ps. ArePlaces (length c.args.problem.now.rows) (length c.args.problem.now.ranges) (first_corner (whole_problem c.args.problem.now)) ps.items) (sym c.in-Err.ensures.places)
      (first_placed (length c.args.problem.now.ranges) (length c.args.problem.now.rows) c.args.state.now.places.items c.requires.places c.requires.shaped.places c.basic_variables.ensures.first (whole_problem c.args.problem.now)
      (c.problems_are_whole.ensures.variables c.args.problem.now).0 (c.problems_are_whole.ensures.variables c.args.problem.now).1);
  reached = (0, refl);
  passes = record { stands = at_first refl c.in-Err.ensures.passes.stands; passes = c.in-Err.ensures.passes.passes };
}
