-- The problem of a component, with the facts that bound its points.
use Rattle.std.specs.Prelude.{List}
use Rattle.xc_corners.specs.declared.problem.Problem.{Problem}
use Rattle.xc_joint.specs.ComponentProblems.{IsWeightedRow}
use Rattle.xc_joint.specs.Lists.{AreEach}
use Rattle.xc_joint.specs.Steps.OneForest.{IsRangeOf, IsSpanOf}
use Rattle.xc_joint.specs.declared.one_forest.Span.{Span}
use Rattle.xc_system.specs.Systems.{Constraints}
use Rattle.xc_system.specs.declared.types.Component.{Component}

-- the ranges of the problem are those between the ends of these facts, which bound the points of the component
pub record IsProblemBy (s : Constraints) (c : Component) (spans : List Span) (problem : Problem) : Type 0 where
  pub bounded : AreEach (IsSpanOf s) c.points spans
  pub ranges : AreEach (IsRangeOf s) spans problem.ranges
  pub rows : AreEach (IsWeightedRow s c.points) c.equations problem.rows
