-- The names of dimensions of taxonomies.
use Rattle.std.specs.Prelude.{ℕ, List, Option, Some, None}
use Rattle.xc_report.specs.declared.stated.DimensionName.{DimensionName}
use Rattle.xc_report.specs.declared.stated.DimensionName.TheVariants as dimension
use Rattle.xc_report.specs.declared.stated.StatedPart.{StatedPart}

-- the parts of the name of a taxonomy's dimension
abbrev pub name_parts : DimensionName → Option (List ℕ × List ℕ)
name_parts (dimension.Taxonomy name) = Some (name.space, name.local)
name_parts _ = None

-- those of a part's dimension
abbrev pub part_name : StatedPart → Option (List ℕ × List ℕ)
part_name part = name_parts part.dimension
