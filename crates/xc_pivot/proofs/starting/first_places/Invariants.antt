use Rattle.std.proofs.Common.{◌≡◌, length}
use Rattle.xc_pivot.specs.Firsts.{AreFirstPlaces}
use Rattle.xc_pivot.proofs.starting.first_places.Given as goal

abbrev pub invariant-loop-variable : goal.invariant-loop-variable
invariant-loop-variable l = record {
  count : length l.places.items ≡ l.variable;
  places : AreFirstPlaces l.columns l.places.items;
}
