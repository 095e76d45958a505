-- The printed codes of the faults of schemas, and their places.
use Rattle.std.specs.Prelude.{ℕ, List, codes, Option, Some, None}
use Rattle.xc_concepts.specs.declared.fault.SchemaFault.{SchemaFault}
use Rattle.xc_concepts.specs.declared.fault.SchemaFault.TheVariants.{Memory, SameFile, BadPrefix, SameId, SameConcept}

-- the code of a fault; want of memory has none
abbrev pub code_of : SchemaFault → Option (List ℕ)
code_of Memory = None
code_of SameFile = Some (codes "xc:sameFile")
code_of (BadPrefix at) = Some (codes "xc:badPrefix")
code_of (SameId at) = Some (codes "xc:sameId")
code_of (SameConcept at) = Some (codes "xc:sameConcept")

-- the number of the node at which a rule is broken; a file's name has none
abbrev pub place_of : SchemaFault → Option ℕ
place_of Memory = None
place_of SameFile = None
place_of (BadPrefix at) = Some at
place_of (SameId at) = Some at
place_of (SameConcept at) = Some at
