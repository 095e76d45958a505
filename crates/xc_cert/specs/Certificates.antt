-- Certificate texts (this project's own): lines that are passed over, the line `certificate 1`, a body, and the line `end`.
use Rattle.std.specs.Prelude.{◌≡◌, ◌≢◌, ℕ, ◌<◌, ◌≤◌, ◌^◌, List, [], ◌∷◌, ◌++◌, length, map, codes, decimal}
use Rattle.std.specs.List.{enumerate_from, AllByRecursion}
use Rattle.xc_decimal.specs.Spelling.{spelling}
use Rattle.xc_lists.specs.TextLines.{IsLine, text_of}
use Rattle.xc_model.specs.Ratio.{Ratio}
use Rattle.xc_system.specs.Kept.{Multipliers, IsRefutation}
use Rattle.xc_system.specs.declared.types.Certificate.{Certificate}
use Rattle.xc_system.specs.declared.types.Certificate.TheVariants.{Feasible, Infeasible}

-- ---- lines

-- a word, a number and a fraction
abbrev pub numbered_line : List ℕ → ℕ × Ratio → List ℕ
numbered_line word m = word ++ codes " " ++ decimal m.0 ++ codes " " ++ spelling m.1

-- such a line for each
abbrev pub numbered_lines : List ℕ → List (ℕ × Ratio) → List (List ℕ)
numbered_lines word listed = map (numbered_line word) listed

-- ---- certificates

-- the line with which a certificate begins
abbrev pub opening : List ℕ
opening = codes "certificate 1"

-- a value for each point, numbered from 0; or the multipliers of equations, of low ends and of high ends, by their numbers
abbrev pub body_lines : Certificate → List (List ℕ)
body_lines (Feasible values) = codes "feasible" ∷ numbered_lines (codes "value") (enumerate_from 0 values)
body_lines (Infeasible r) = codes "infeasible" ∷ (numbered_lines (codes "binding") r.bindings ++ (numbered_lines (codes "low") r.lows ++ numbered_lines (codes "high") r.highs))

-- the lines that say a certificate
abbrev pub certificate_lines : Certificate → List (List ℕ)
certificate_lines certificate = opening ∷ (body_lines certificate ++ codes "end" ∷ [])

-- and the bytes of these
abbrev pub certificate_text : Certificate → List ℕ
certificate_text certificate = text_of (certificate_lines certificate)

-- the numbers are below 2^32
abbrev pub AreNumbers : List (ℕ × Ratio) → Type 0
AreNumbers listed = AllByRecursion (λ m. m.0 < 2 ^ 32) listed

-- all numbers of a refutation are below 2^32
pub record HasNumbers (r : Multipliers) : Type 0 where
  pub bindings : AreNumbers r.bindings
  pub lows : AreNumbers r.lows
  pub highs : AreNumbers r.highs

-- its values can be numbered
abbrev pub HasFewValues : Certificate → Type 0
HasFewValues (Feasible values) = length values ≤ 2 ^ 32
HasFewValues (Infeasible r) = Unit {0}

-- what a text can say: at most 2^32 values; or a refutation, whose numbers are below 2^32
abbrev pub IsCertificate : Certificate → Type 0
IsCertificate (Feasible values) = length values ≤ 2 ^ 32
IsCertificate (Infeasible r) = IsRefutation r × HasNumbers r

-- ---- texts

-- a line that is passed over: any but `certificate 1`
abbrev pub IsPassed : List ℕ → Type 0
IsPassed line = IsLine line × (line ≢ opening)

-- each of these lines is passed over
abbrev pub ArePassed : List (List ℕ) → Type 0
ArePassed lines = AllByRecursion IsPassed lines

-- the bytes are such lines, each ended by a line feed
pub record IsPassedText (bytes : List ℕ) : Type 0 where
  pub lines : List (List ℕ)
  pub are_passed : ArePassed lines
  pub is : bytes ≡ text_of lines

-- the bytes are a text of the certificate: lines that are passed over, and then those that say it
pub record IsTextOf (bytes : List ℕ) (certificate : Certificate) : Type 0 where
  pub sound : IsCertificate certificate
  pub passed : List (List ℕ)
  pub are_passed : ArePassed passed
  pub is : bytes ≡ text_of (passed ++ certificate_lines certificate)
