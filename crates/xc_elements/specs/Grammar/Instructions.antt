-- Processing instructions: XML 1.0, section 2.6.
use Rattle.std.specs.Prelude.{◌≡◌, ◌≢◌, ◌↔◌, ◌⊎◌, ℕ, Bool, List, [], ◌++◌, map, Some, codes}
use Rattle.std.specs.Char.{to_ascii_lowercase}
use Rattle.xc_elements.specs.Items.{Instruction, item}
use Rattle.xc_elements.specs.Grammar.Words.{AreCharacters, BeginsWithSpace, IsPlainName, Occurs}

-- white space and characters without `?>`
pub record IsSpaced (body : List ℕ) : Type 0 where
  pub space : BeginsWithSpace body
  pub characters : AreCharacters body
  pub single : ¬ (Occurs (codes "?>") body)

-- a plain name that is not `xml` in any case: `PITarget`, without a colon as Namespaces in XML 1.0, section 7, asks
pub record IsTarget (target : List ℕ) : Type 0 where
  pub name : IsPlainName target
  pub other : map to_ascii_lowercase target ≢ codes "xml"

-- the text begins with `<?`, a target, nothing or white space and characters without `?>`, and `?>`, and the rest follows: `PI`
pub record IsInstruction (text rest : List ℕ) : Type 0 where
  pub target : List ℕ
  pub body : List ℕ
  pub whole : text ≡ codes "<?" ++ (target ++ (body ++ (codes "?>" ++ rest)))
  pub named : IsTarget target
  pub behind : (body ≡ []) ⊎ IsSpaced body

-- an item is an instruction exactly where the text begins with one
abbrev pub InstructionsAsSpelled : Type 0
InstructionsAsSpelled = (is_first : Bool) (text rest : List ℕ) → (item is_first text ≡ Some (Instruction, rest)) ↔ IsInstruction text rest
