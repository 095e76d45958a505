use Rattle.std.proofs.Common.{◌≡◌, List, fold}
use Rattle.std.specs.Vec.Iter.{into_iter_items}
use Rattle.std.specs.BTreeMap.{insert_entry}
use Rattle.xc_report.specs.Dimensions.{dimension_cmp, in_order}
use Rattle.xc_report.specs.declared.dimensions.Dimension.{Dimension}
use Rattle.xc_report.specs.declared.dimensions.DimValue.{DimValue}
use Rattle.xc_report.proofs.numbered.key_of_parts.Given as goal

-- the map, with the parts that are left put in, is that of all
abbrev pub invariant-loop-dimension : goal.invariant-loop-dimension
invariant-loop-dimension l = record {
  can : (goal.iterator-loop-dimension).can_next l.dimension-iterator;
  ends : (goal.iterator-loop-dimension).is_finite l.dimension-iterator;
  put : fold (λ (ordered : List (Dimension × DimValue)) part. insert_entry dimension_cmp ordered part.0 part.1) l.map.entries (into_iter_items l.dimension-iterator) ≡ in_order l.fn.parts.items;
}
