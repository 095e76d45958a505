use Rattle.xc_joint.proofs.Crossing.{cross_at}
use Rattle.xc_joint.proofs.EndsContradict.{ends_contradict, ends_uncaused}
use Rattle.xc_joint.specs.Causes.{IsOfFirstEmpty}
use Rattle.xc_system.specs.Systems.{facts_of}
use Rattle.xc_joint.proofs.empties.refute_empty.Goals as goal

pub returns-in-Ok : goal.returns-in-Ok
returns-in-Ok c =
    let s = c.args.system.now in
    let part = c.args.component.now in
    let found = c.args.found in
    let r = c.in_ok-refutation.refutation in
    let own : IsOfFirstEmpty s part r found.low found.high = record { point = found.point; first = c.requires.found.first; tightest = c.requires.found.tightest; lists = c.in_ok-refutation.ensures } in
    record {
      own = own;
      contradicts = ends_contradict s part r found.low found.high own
          (cross_at c.numbers_are_ordered.ensures.total c.numbers_are_ordered.ensures.single c.ends_tell.ensures.numbers c.tighter_ends.ensures.low_numbers c.tighter_ends.ensures.high_numbers
          s.bounds (facts_of s.bounds found.point) found.low found.high c.requires.found.first.empty c.requires.found.tightest.0 c.requires.found.tightest.1);
      uncaused = ends_uncaused s part c.lowest_terms.ensures.unique c.one_sum.ensures r found.low found.high c.in-Ok.field-0 own c.in-Ok.ensures;
      constant = (c.in-Ok.field-0, c.in-Ok.ensures);
    }

pub returns-in-Err : goal.returns-in-Err
returns-in-Err c = record {
  refutation = c.in_ok-refutation.refutation;
  own = record { point = c.args.found.point; first = c.requires.found.first; tightest = c.requires.found.tightest; lists = c.in_ok-refutation.ensures };
  passes = c.in-Err.ensures;
}
