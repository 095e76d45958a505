-- Sections of characters: XML 1.0, section 2.7.
use Rattle.std.specs.Prelude.{◌≡◌, ◌↔◌, ℕ, Bool, List, ◌++◌, Some, codes}
use Rattle.xc_elements.specs.Items.{Section, item}
use Rattle.xc_elements.specs.Grammar.Words.{AreCharacters, Occurs}

-- the text begins with `<![CDATA[`, these characters, without `]]>`, and `]]>`, and the rest follows: `CDSect`
pub record IsSection (text body rest : List ℕ) : Type 0 where
  pub whole : text ≡ codes "<![CDATA[" ++ (body ++ (codes "]]>" ++ rest))
  pub characters : AreCharacters body
  pub single : ¬ (Occurs (codes "]]>") body)

-- an item is a section of these characters exactly where the text begins with it
abbrev pub SectionsAsSpelled : Type 0
SectionsAsSpelled = (is_first : Bool) (text body rest : List ℕ) → (item is_first text ≡ Some (Section body, rest)) ↔ IsSection text body rest
