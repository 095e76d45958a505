-- End tags: XML 1.0, section 3.1.
use Rattle.std.specs.Prelude.{◌≡◌, ◌↔◌, ℕ, Bool, List, ◌++◌, Some, codes}
use Rattle.xc_elements.specs.Items.{Name, End, item}
use Rattle.xc_elements.specs.Grammar.Words.{AreSpaces, IsName}

-- the text begins with `</`, this name, white space or none, and `>`, and the rest follows: `ETag`
pub record IsEndTag (text : List ℕ) (name : Name) (rest : List ℕ) : Type 0 where
  pub written : List ℕ
  pub spaces : List ℕ
  pub whole : text ≡ codes "</" ++ (written ++ (spaces ++ (codes ">" ++ rest)))
  pub named : IsName written name
  pub white : AreSpaces spaces

-- an item is the end tag of this name exactly where the text begins with it
abbrev pub EndTagsAsSpelled : Type 0
EndTagsAsSpelled = (is_first : Bool) (text : List ℕ) (name : Name) (rest : List ℕ) → (item is_first text ≡ Some (End name, rest)) ↔ IsEndTag text name rest
