-- Start tags and tags of empty elements: XML 1.0, section 3.1.
use Rattle.std.specs.Prelude.{◌≡◌, ◌≢◌, ◌↔◌, ℕ, Bool, List, [], ◌∷◌, ◌++◌, Some, codes}
use Rattle.xc_elements.specs.Items.{Name, Pair, Start, Empty, item}
use Rattle.xc_elements.specs.Grammar.Words.{AreSpaces, IsName}
use Rattle.xc_elements.specs.Grammar.Attributes.{IsAttribute}

-- the text begins with white space or none and with what closes the tag, and the rest follows
pub record Closes (closing text rest : List ℕ) : Type 0 where
  pub spaces : List ℕ
  pub whole : text ≡ spaces ++ (closing ++ rest)
  pub white : AreSpaces spaces

-- the text begins with white space and this attribute, and this follows
pub record BeginsWithAttribute (text : List ℕ) (pair : Pair) (after : List ℕ) : Type 0 where
  pub spaces : List ℕ
  pub spaced : List ℕ
  pub whole : text ≡ spaces ++ spaced
  pub some : spaces ≢ []
  pub white : AreSpaces spaces
  pub attribute : IsAttribute spaced pair after

-- the text begins with these attributes, white space before each, and with what closes the tag, and the rest follows: `(S Attribute)* S?`
abbrev pub HasAttributes : List ℕ → List Pair → List ℕ → List ℕ → Type 0
HasAttributes closing [] text rest = Closes closing text rest
HasAttributes closing (p ∷ ps) text rest = (after : List ℕ) × BeginsWithAttribute text p after × HasAttributes closing ps after rest

-- the text begins with `<`, this name, these attributes and what closes the tag, and the rest follows
pub record IsTag (closing text : List ℕ) (name : Name) (pairs : List Pair) (rest : List ℕ) : Type 0 where
  pub written : List ℕ
  pub after : List ℕ
  pub whole : text ≡ codes "<" ++ (written ++ after)
  pub named : IsName written name
  pub attributes : HasAttributes closing pairs after rest

-- an item is the start tag of this name with these attributes exactly where the text begins with it, closed by `>`: `STag`
abbrev pub StartTagsAsSpelled : Type 0
StartTagsAsSpelled = (is_first : Bool) (text : List ℕ) (name : Name) (pairs : List Pair) (rest : List ℕ) → (item is_first text ≡ Some (Start name pairs, rest)) ↔ IsTag (codes ">") text name pairs rest

-- an item is the tag of an empty element, of this name with these attributes, exactly where the text begins with it, closed by `/>`: `EmptyElemTag`
abbrev pub EmptyTagsAsSpelled : Type 0
EmptyTagsAsSpelled = (is_first : Bool) (text : List ℕ) (name : Name) (pairs : List Pair) (rest : List ℕ) → (item is_first text ≡ Some (Empty name pairs, rest)) ↔ IsTag (codes "/>") text name pairs rest
