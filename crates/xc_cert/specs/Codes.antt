-- The printed code of the fault of certificate texts, and its place.
use Rattle.std.specs.Prelude.{ℕ, List, codes, Option, Some, None}
use Rattle.xc_cert.specs.declared.fault.CertFault.{CertFault}
use Rattle.xc_cert.specs.declared.fault.CertFault.TheVariants.{Memory, NotCertificate}

-- the code of a fault; want of memory has none
abbrev pub code_of : CertFault → Option (List ℕ)
code_of Memory = None
code_of (NotCertificate n) = Some (codes "xc:notCertificate")

-- the number of the line
abbrev pub place_of : CertFault → Option ℕ
place_of Memory = None
place_of (NotCertificate n) = Some n
