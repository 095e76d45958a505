-- The printed codes of the faults of linkbases, and their places.
use Rattle.std.specs.Prelude.{ℕ, List, codes, Option, Some, None}
use Rattle.xc_calc.specs.declared.fault.LinkFault.{LinkFault}
use Rattle.xc_calc.specs.declared.fault.LinkFault.TheVariants.{Memory, BadWeight, ZeroWeight, BadOrder, BadPriority, BadUse, NoLocator, Unresolved, UnknownType, NodeNotDecimal}

-- the code of a fault; want of memory has none
abbrev pub code_of : LinkFault → Option (List ℕ)
code_of Memory = None
code_of (BadWeight at) = Some (codes "xc:badWeight")
code_of (ZeroWeight at) = Some (codes "xc:zeroWeight")
code_of (BadOrder at) = Some (codes "xc:badOrder")
code_of (BadPriority at) = Some (codes "xc:badPriority")
code_of (BadUse at) = Some (codes "xc:badUse")
code_of (NoLocator at) = Some (codes "xc:noLocator")
code_of (Unresolved at) = Some (codes "xc:unresolved")
code_of (UnknownType at) = Some (codes "xc:unknownType")
code_of (NodeNotDecimal at) = Some (codes "xc:nodeNotDecimal")

-- the number of the node at which a rule is broken
abbrev pub place_of : LinkFault → Option ℕ
place_of Memory = None
place_of (BadWeight at) = Some at
place_of (ZeroWeight at) = Some at
place_of (BadOrder at) = Some at
place_of (BadPriority at) = Some at
place_of (BadUse at) = Some at
place_of (NoLocator at) = Some at
place_of (Unresolved at) = Some at
place_of (UnknownType at) = Some at
place_of (NodeNotDecimal at) = Some at
