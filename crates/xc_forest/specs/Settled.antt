-- What settles a forest.
use Rattle.std.specs.Prelude.{map}
use Rattle.xc_forest.specs.Forests.{Solves, Contradicts, ranges_of}
use Rattle.xc_forest.specs.declared.types.Forest.{Forest}
use Rattle.xc_forest.specs.declared.types.Settled.{Settled}
use Rattle.xc_forest.specs.declared.types.Settled.TheVariants.{Feasible, Infeasible}
use Rattle.xc_model.specs.Parts.{Parts}

-- values solve the forest, or multipliers contradict it
abbrev pub Settles : {E : Type 0} → (E → Parts) → Forest E → Settled E → Type 0
Settles parts forest (Feasible values) = Solves forest.rows (ranges_of parts forest.ranges) (map parts values)
Settles parts forest (Infeasible rows ends) = Contradicts forest.rows (ranges_of parts forest.ranges) rows ends
