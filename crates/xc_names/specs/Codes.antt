-- The codes with which faults of names are printed.
use Rattle.std.specs.Prelude.{ℕ, List, Option, Some, None, codes}
use Rattle.xc_names.specs.declared.expansion.NameFault.{NameFault}
use Rattle.xc_names.specs.declared.expansion.NameFault.TheVariants.{Memory, NotName, NoPrefix}

-- the code of a fault of a name that `sum` is given; want of memory has none
abbrev pub code_of : NameFault → Option (List ℕ)
code_of Memory = None
code_of NotName = Some (codes "xc:badSumName")
code_of NoPrefix = Some (codes "xc:badSumName")
