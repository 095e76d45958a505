use Rattle.std.proofs.Common.{◌++◌, List}
use Rattle.std.specs.Vec.Iter.{into_iter_items}
use Rattle.xc_report.specs.Numbered.{AreParts}
use Rattle.xc_report.specs.Steps.Gained.{MayGain, Lasts, all_names}
use Rattle.xc_report.specs.declared.dimensions.Dimension.{Dimension}
use Rattle.xc_report.specs.declared.dimensions.DimValue.{DimValue}
use Rattle.xc_report.proofs.numbered.numbered_parts.Given as goal

-- for names that keep their numbers, the parts so far and those of what is left are those of all
abbrev pub invariant-loop-part : goal.invariant-loop-part
invariant-loop-part l = record {
  can : (goal.iterator-loop-part).can_next l.part-iterator;
  ends : (goal.iterator-loop-part).is_finite l.part-iterator;
  names : MayGain l.fn.names l.names;
  each : Lasts (all_names l.names) (λ later. (rest : List (Dimension × DimValue)) → AreParts later (into_iter_items l.part-iterator) rest → AreParts later l.fn.parts.items (l.numbered.items ++ rest));
}
