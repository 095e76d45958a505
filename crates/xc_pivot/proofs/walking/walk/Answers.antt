use Rattle.std.proofs.Common.{◌≡◌, sym, subst, length, List}
use Rattle.xc_corners.specs.Choices.{IsLast, IsReached}
use Rattle.xc_corners.specs.Corners.{Corner, CornerLists, corner_of}
use Rattle.xc_corners.specs.Operations.{PassesAt}
use Rattle.xc_corners.specs.WholeNumbers.{whole_problem}
use Rattle.xc_corners.specs.declared.problem.Problem.{Problem}
use Rattle.xc_frac.specs.declared.wide.Wide.{Wide}
use Rattle.xc_pivot.specs.States.{ArePlaces}
use Rattle.xc_pivot.specs.Walks.{TellsCorner, IsLastCorner, IsTooWideAt, NothingPasses, IfLast, IfTooWide, EndsTooWide}
use Rattle.xc_pivot.specs.declared.types.Place.{Place}
use Rattle.xc_pivot.proofs.walking.walk.Goals as goal
use Rattle.xc_pivot.proofs.walking.walk.Goals.{in-None, in-Some}

module _ (problem : Problem) (ps qs : List Place) (same : ps ≡ qs) (lists : CornerLists) (tells : TellsCorner ps lists) where
  told : (x : Corner) → ArePlaces (length problem.rows) (length problem.ranges) x qs → x ≡ corner_of lists
  told x placed = sym (tells (length problem.rows) (length problem.ranges) x (subst (λ zs. ArePlaces (length problem.rows) (length problem.ranges) x zs) (sym same) placed))

  last_told : (x : Corner) → ArePlaces (length problem.rows) (length problem.ranges) x qs → IsLast (whole_problem problem) x → IsLastCorner problem lists
  last_told x placed last = subst (λ y. IsLast (whole_problem problem) y) (told x placed) last

  wide_told : (v : Wide) → EndsTooWide problem qs v → IsTooWideAt problem lists v
  wide_told v end = subst (λ x. IsReached (whole_problem problem) x × PassesAt problem x v) (told end.corner end.placed) (end.reached, end.passes)

pub returns-clause-last : goal.returns-clause-last
returns-clause-last c = elim c.match-end.branch [
  | in-None w ↦ subst (λ r. IfLast (IsLastCorner c.args.problem.now) r) (sym w.result-is)
      (last_told c.args.problem.now c.as_slice.result.now c.walk_to_end-end.new.state.places.items c.as_slice.ensures.value c.in_ok-corner.corner c.in_ok-corner.ensures w.in-None.ensures.none.corner w.in-None.ensures.none.at.placed w.in-None.ensures.none.last)
  | in-Some w ↦ subst (λ r. IfLast (IsLastCorner c.args.problem.now) r) (sym w.result-is) tt
]

pub returns-clause-fits : goal.returns-clause-fits
returns-clause-fits c = elim c.match-end.branch [
  | in-None w ↦ subst (λ r. IfLast (λ lists. NothingPasses c.args.problem.now) r) (sym w.result-is) w.in-None.ensures.none.nothing
  | in-Some w ↦ subst (λ r. IfLast (λ lists. NothingPasses c.args.problem.now) r) (sym w.result-is) tt
]

pub returns-clause-too_wide : goal.returns-clause-too_wide
returns-clause-too_wide c = elim c.match-end.branch [
  | in-None w ↦ subst (λ r. IfTooWide (IsTooWideAt c.args.problem.now) r) (sym w.result-is) tt
  | in-Some w ↦ subst (λ r. IfTooWide (IsTooWideAt c.args.problem.now) r) (sym w.result-is)
      (wide_told c.args.problem.now c.as_slice.result.now c.walk_to_end-end.new.state.places.items c.as_slice.ensures.value c.in_ok-corner.corner c.in_ok-corner.ensures w.in-Some.wide w.in-Some.ensures.some)
]
