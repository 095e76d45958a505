-- The codes with which faults of documents are printed, and the places beside them.
use Rattle.std.specs.Prelude.{ℕ, List, Option, Some, None, codes, option_map}
use Rattle.xc_elements.specs.DocumentTrees.{byte_of}
use Rattle.xc_elements.specs.declared.fault.TreeFault.{TreeFault}
use Rattle.xc_elements.specs.declared.fault.TreeFault.TheVariants.{Memory, NotUtf8, NotItem, Doctype, Unbalanced, TooDeep, NoSpace, SameAttribute}

-- the code of a fault; want of memory has none
abbrev pub code_of : TreeFault → Option (List ℕ)
code_of Memory = None
code_of (NotUtf8 byte) = Some (codes "xc:notUtf8")
code_of (NotItem byte) = Some (codes "xc:notItem")
code_of (Doctype byte) = Some (codes "xc:doctype")
code_of (Unbalanced byte) = Some (codes "xc:unbalanced")
code_of (TooDeep byte) = Some (codes "xc:tooDeep")
code_of (NoSpace byte) = Some (codes "xc:noSpace")
code_of (SameAttribute byte) = Some (codes "xc:sameAttribute")

-- the byte at which a fault that has a code stands
abbrev pub place_of : TreeFault → Option ℕ
place_of fault = option_map (λ code. byte_of fault) (code_of fault)
