-- The declaration: XML 1.0, sections 2.8 and 4.3.3. Of its parts the encoding alone is looked at.
use Rattle.std.specs.Prelude.{◌≡◌, ◌≢◌, ◌↔◌, ◌⊎◌, ℕ, zero, suc, Bool, true, List, [], ◌∷◌, ◌++◌, map, Some, codes}
use Rattle.std.specs.Char.{to_ascii_lowercase}
use Rattle.xc_elements.specs.Items.{Declaration, item}
use Rattle.xc_elements.specs.Grammar.Words.{AreCharacters, AreSpaces, IsPlainName, Occurs}
use Rattle.xc_elements.specs.Grammar.Values.{IsQuote}
use Rattle.xc_elements.specs.Grammar.Tags.{Closes}

-- an encoding whose texts are UTF-8: `UTF-8`, `US-ASCII` or `ASCII` in any case
abbrev pub IsEncoding : List ℕ → Type 0
IsEncoding value = (map to_ascii_lowercase value ≡ codes "utf-8") ⊎ ((map to_ascii_lowercase value ≡ codes "us-ascii") ⊎ (map to_ascii_lowercase value ≡ codes "ascii"))

-- the text begins with a plain name, an equals sign with white space or none around it, and characters other than the quote between two quotes, and this follows; a part `encoding` has an encoding that is read
pub record IsPart (text after : List ℕ) : Type 0 where
  pub name : List ℕ
  pub before : List ℕ
  pub behind : List ℕ
  pub mark : ℕ
  pub value : List ℕ
  pub whole : text ≡ name ++ (before ++ (codes "=" ++ (behind ++ (mark ∷ (value ++ (mark ∷ after))))))
  pub plain : IsPlainName name
  pub white_before : AreSpaces before
  pub white_behind : AreSpaces behind
  pub quote : IsQuote mark
  pub characters : AreCharacters value
  pub inside : ¬ (Occurs (mark ∷ []) value)
  pub encoding : name ≡ codes "encoding" → IsEncoding value

-- the text begins with white space and a part, and this follows
pub record BeginsWithPart (text after : List ℕ) : Type 0 where
  pub spaces : List ℕ
  pub spaced : List ℕ
  pub whole : text ≡ spaces ++ spaced
  pub some : spaces ≢ []
  pub white : AreSpaces spaces
  pub part : IsPart spaced after

-- the text begins with so many parts, white space before each, white space or none, and `?>`, and the rest follows
abbrev pub HasParts : ℕ → List ℕ → List ℕ → Type 0
HasParts zero text rest = Closes (codes "?>") text rest
HasParts (suc n) text rest = (after : List ℕ) × BeginsWithPart text after × HasParts n after rest

-- the text begins with `<?xml` and any number of parts, and the rest follows: `XMLDecl`, with parts in any order
pub record IsDeclaration (text rest : List ℕ) : Type 0 where
  pub after : List ℕ
  pub count : ℕ
  pub whole : text ≡ codes "<?xml" ++ after
  pub parts : HasParts count after rest

-- an item is the declaration exactly where it is the first of its document and the text begins with it
abbrev pub DeclarationsAsSpelled : Type 0
DeclarationsAsSpelled = (is_first : Bool) (text rest : List ℕ) → (item is_first text ≡ Some (Declaration, rest)) ↔ ((is_first ≡ true) × IsDeclaration text rest)
