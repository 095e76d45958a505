-- What follows from the definitions for all bytes and certificates.
use Rattle.std.specs.Prelude.{◌≡◌, ℕ, List, ◌++◌}
use Rattle.xc_cert.specs.Certificates.{certificate_text, IsCertificate, IsPassedText, IsTextOf}
use Rattle.xc_cert.specs.Faults.{IsFaultAt}
use Rattle.xc_system.specs.declared.types.Certificate.{Certificate}

-- bytes are a text of one certificate at most
abbrev pub OneCertificate : Type 0
OneCertificate = (bytes : List ℕ) (one other : Certificate) → IsTextOf bytes one → IsTextOf bytes other → one ≡ other

-- and where they are one, no line of theirs is at fault
abbrev pub TextOrFault : Type 0
TextOrFault = (bytes : List ℕ) (certificate : Certificate) (n : ℕ) → IsTextOf bytes certificate → ¬ IsFaultAt bytes n

-- bytes have one first line at fault at most
abbrev pub OneFault : Type 0
OneFault = (bytes : List ℕ) (one other : ℕ) → IsFaultAt bytes one → IsFaultAt bytes other → one ≡ other

-- what is written of a certificate is a text of it, whatever lines other than `certificate 1` stand before
abbrev pub WrittenIsText : Type 0
WrittenIsText = (front : List ℕ) (certificate : Certificate) → IsPassedText front → IsCertificate certificate → IsTextOf (front ++ certificate_text certificate) certificate

-- such lines, one text of them behind the other, are such lines
abbrev pub PassedTextsJoin : Type 0
PassedTextsJoin = (one other : List ℕ) → IsPassedText one → IsPassedText other → IsPassedText (one ++ other)
