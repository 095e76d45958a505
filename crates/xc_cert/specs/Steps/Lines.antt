-- What one line says.
use Rattle.std.specs.Prelude.{◌≡◌, ◌≢◌, ◌<◌, ◌^◌, ◌++◌, ◌∷◌, ℕ, pos, List, Option, Some, None, codes, decimal}
use Rattle.xc_cert.specs.Certificates.{opening, numbered_line}
use Rattle.xc_cert.specs.declared.line.Line.{Line}
use Rattle.xc_cert.specs.declared.line.Line.TheVariants.{Opening, Feasible, Infeasible, End, Numbered, Other}
use Rattle.xc_cert.specs.declared.line.Word.{Word}
use Rattle.xc_cert.specs.declared.line.Word.TheVariants.{Value, Binding, Low, High}
use Rattle.xc_lists.specs.Members.{Lacks}
use Rattle.xc_model.specs.Ratio.{Ratio}

-- what stands before the first such byte, and what behind it; or the byte does not stand there
abbrev pub IsCut : ℕ → List ℕ → Option (List ℕ × List ℕ) → Type 0
IsCut byte text (Some parts) = Lacks byte parts.0 × (text ≡ parts.0 ++ byte ∷ parts.1)
IsCut byte text None = Lacks byte text

-- the first word of a line with a number
abbrev pub word_text : Word → List ℕ
word_text Value = codes "value"
word_text Binding = codes "binding"
word_text Low = codes "low"
word_text High = codes "high"

-- the text is the word of this answer, or none of these words
abbrev pub IsWord : List ℕ → Option Word → Type 0
IsWord text (Some word) = text ≡ word_text word
IsWord text None = (word : Word) → text ≢ word_text word

-- it is the number of this answer, or no number below 2^32
abbrev pub IsNumber : List ℕ → Option ℕ → Type 0
IsNumber text (Some n) = (n < 2 ^ 32) × (text ≡ decimal n)
IsNumber text None = (n : ℕ) → n < 2 ^ 32 → text ≢ decimal n

-- the fraction is the number of this answer, or no number below 2^32
abbrev pub IsWhole : Ratio → Option ℕ → Type 0
IsWhole f (Some n) = (n < 2 ^ 32) × (f.num ≡ pos n) × (f.den ≡ pos 1)
IsWhole f None = (n : ℕ) → n < 2 ^ 32 → f.num ≡ pos n → f.den ≡ pos 1 → ⊥

-- the line is a word, a number below 2^32 and a fraction
abbrev pub HasNumber : List ℕ → Word → ℕ → Ratio → Type 0
HasNumber text word n f = (n < 2 ^ 32) × (text ≡ numbered_line (word_text word) (n, f))

-- it is none of the lines of certificates
pub record IsOther (text : List ℕ) : Type 0 where
  pub opening_ : text ≢ opening
  pub feasible : text ≢ codes "feasible"
  pub infeasible : text ≢ codes "infeasible"
  pub end : text ≢ codes "end"
  pub numbered : (word : Word) (n : ℕ) (f : Ratio) → ¬ HasNumber text word n f

-- the text says this
abbrev pub Says : List ℕ → Line → Type 0
Says text Opening = text ≡ opening
Says text Feasible = text ≡ codes "feasible"
Says text Infeasible = text ≡ codes "infeasible"
Says text End = text ≡ codes "end"
Says text (Numbered word n f) = HasNumber text word n f
Says text Other = IsOther text

-- the parts of a line with a number, or there are none
abbrev pub IsNumbered : List ℕ → Option (Word × ℕ × Ratio) → Type 0
IsNumbered text (Some parts) = HasNumber text parts.0 parts.1 parts.2
IsNumbered text None = (word : Word) (n : ℕ) (f : Ratio) → ¬ HasNumber text word n f
