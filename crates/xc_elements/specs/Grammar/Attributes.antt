-- Attributes: XML 1.0, section 3.1, with names of Namespaces in XML 1.0, section 4.
use Rattle.std.specs.Prelude.{◌≡◌, ◌↔◌, ℕ, List, ◌∷◌, ◌++◌, Some, codes}
use Rattle.xc_elements.specs.Items.{Pair, attribute}
use Rattle.xc_elements.specs.Grammar.Words.{AreSpaces, IsName}
use Rattle.xc_elements.specs.Grammar.Values.{IsQuote, IsValue}

-- the text begins with a name, an equals sign with white space or none around it, a quote, what is written for the value, and the quote, and the rest follows: `Attribute`
pub record IsAttribute (text : List ℕ) (pair : Pair) (rest : List ℕ) : Type 0 where
  pub written : List ℕ
  pub before : List ℕ
  pub behind : List ℕ
  pub mark : ℕ
  pub quoted : List ℕ
  pub whole : text ≡ written ++ (before ++ (codes "=" ++ (behind ++ (mark ∷ quoted))))
  pub named : IsName written pair.name
  pub white_before : AreSpaces before
  pub white_behind : AreSpaces behind
  pub quote : IsQuote mark
  pub value : IsValue mark quoted pair.value rest

-- what is read as an attribute is this name with this value exactly where the text begins with it
abbrev pub AttributesAsSpelled : Type 0
AttributesAsSpelled = (text : List ℕ) (pair : Pair) (rest : List ℕ) → (attribute text ≡ Some (pair, rest)) ↔ IsAttribute text pair rest
