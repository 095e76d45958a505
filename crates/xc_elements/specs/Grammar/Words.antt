-- The words in which the rows of the grammar of XML 1.0 are said.
use Rattle.std.specs.Prelude.{◌≡◌, ◌⊎◌, ℕ, Bool, true, List, [], ◌∷◌, ◌++◌, codes}
use Rattle.xc_chars.specs.Characters.{is_character, is_space, is_name_start, is_name_char}
use Rattle.xc_elements.specs.Items.{Name}

-- each character passes the test
abbrev pub Each : (ℕ → Bool) → List ℕ → Type 0
Each test [] = Unit {0}
Each test (c ∷ cs) = (test c ≡ true) × Each test cs

-- these are characters that a document may have: `Char*` of XML 1.0, section 2.2
abbrev pub AreCharacters : List ℕ → Type 0
AreCharacters text = Each is_character text

-- these are white space, or nothing: `S?` of XML 1.0, section 2.3
abbrev pub AreSpaces : List ℕ → Type 0
AreSpaces text = Each is_space text

-- the word stands somewhere in the text
pub record Occurs (word text : List ℕ) : Type 0 where
  pub before : List ℕ
  pub after : List ℕ
  pub whole : text ≡ before ++ (word ++ after)

-- the text ends in the word
pub record EndsIn (word text : List ℕ) : Type 0 where
  pub before : List ℕ
  pub whole : text ≡ before ++ word

-- the text begins with white space
abbrev pub BeginsWithSpace : List ℕ → Type 0
BeginsWithSpace [] = ⊥
BeginsWithSpace (c ∷ cs) = is_space c ≡ true

-- a name without a colon: `NCName` of Namespaces in XML 1.0, section 3
abbrev pub IsPlainName : List ℕ → Type 0
IsPlainName [] = ⊥
IsPlainName (c ∷ cs) = (is_name_start c ≡ true) × Each is_name_char cs

-- the text is this plain name, which has no prefix: `UnprefixedName` of Namespaces in XML 1.0, section 4
pub record IsUnprefixed (text : List ℕ) (name : Name) : Type 0 where
  pub bare : name.prefix ≡ []
  pub whole : text ≡ name.local
  pub local : IsPlainName name.local

-- the text is a prefix, a colon and a local part: `PrefixedName` of Namespaces in XML 1.0, section 4
pub record IsPrefixed (text : List ℕ) (name : Name) : Type 0 where
  pub whole : text ≡ name.prefix ++ (codes ":" ++ name.local)
  pub prefix : IsPlainName name.prefix
  pub local : IsPlainName name.local

-- the text is this name: `QName` of Namespaces in XML 1.0, section 4
abbrev pub IsName : List ℕ → Name → Type 0
IsName text name = IsUnprefixed text name ⊎ IsPrefixed text name
