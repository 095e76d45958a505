-- Comments: XML 1.0, section 2.5.
use Rattle.std.specs.Prelude.{◌≡◌, ◌↔◌, ℕ, Bool, List, ◌++◌, Some, codes}
use Rattle.xc_elements.specs.Items.{Comment, item}
use Rattle.xc_elements.specs.Grammar.Words.{AreCharacters, Occurs, EndsIn}

-- the text begins with `<!--`, characters without `--` that do not end in `-`, and `-->`, and the rest follows: `Comment`
pub record IsComment (text rest : List ℕ) : Type 0 where
  pub body : List ℕ
  pub whole : text ≡ codes "<!--" ++ (body ++ (codes "-->" ++ rest))
  pub characters : AreCharacters body
  pub single : ¬ (Occurs (codes "--") body)
  pub last : ¬ (EndsIn (codes "-") body)

-- an item is a comment exactly where the text begins with one
abbrev pub CommentsAsSpelled : Type 0
CommentsAsSpelled = (is_first : Bool) (text rest : List ℕ) → (item is_first text ≡ Some (Comment, rest)) ↔ IsComment text rest
