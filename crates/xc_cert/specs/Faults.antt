-- The first line that fits nowhere in a certificate text, behind those before it.
use Rattle.std.specs.Prelude.{◌≡◌, ℕ, ◌+◌, List, [], ◌∷◌, ◌++◌, length, codes, Result, Ok, Err}
use Rattle.xc_cert.specs.Certificates.{IsTextOf}
use Rattle.xc_lists.specs.TextLines.{IsLine, AreLines, text_of}
use Rattle.xc_cert.specs.declared.fault.CertFault.{CertFault}
use Rattle.xc_cert.specs.declared.fault.CertFault.TheVariants.{Memory, NotCertificate}
use Rattle.xc_system.specs.declared.types.Certificate.{Certificate}

-- with more behind them, these lines are a certificate text
pub record Begin (lines : List (List ℕ)) : Type 0 where
  pub more : List ℕ
  pub certificate : Certificate
  pub text : IsTextOf (text_of lines ++ more) certificate

-- line number n is the first that fits nowhere: the lines before it begin a certificate text, and with the line that follows them,
-- where one does, they begin none. Where lines are wanting, or what follows is not ended by a line feed, it is the number of finished
-- lines and 1.
pub record IsFaultAt (bytes : List ℕ) (n : ℕ) : Type 0 where
  pub before : List (List ℕ)
  pub rest : List ℕ
  pub are_lines : AreLines before
  pub cut : bytes ≡ text_of before ++ rest
  pub number : n ≡ length before + 1
  pub begin : Begin before
  pub no_text : (certificate : Certificate) → ¬ IsTextOf bytes certificate
  pub unfit : (line more : List ℕ) → IsLine line → rest ≡ line ++ codes "\n" ++ more → ¬ Begin (before ++ line ∷ [])

-- what is answered: a certificate of which the bytes are a text, or the line at which they are none; memory may have run out
abbrev pub Answers : List ℕ → Result Certificate CertFault → Type 0
Answers bytes (Ok certificate) = IsTextOf bytes certificate
Answers bytes (Err Memory) = Unit {0}
Answers bytes (Err (NotCertificate n)) = IsFaultAt bytes n
