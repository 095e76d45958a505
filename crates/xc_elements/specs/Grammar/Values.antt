-- Values of attributes: XML 1.0, sections 2.3, 2.11 and 3.3.3.
use Rattle.std.specs.Prelude.{◌≡◌, ◌≢◌, ◌↔◌, ◌⊎◌, ℕ, true, List, [], ◌∷◌, ◌++◌, map, Some, codes}
use Rattle.xc_chars.specs.Characters.{is_character}
use Rattle.xc_elements.specs.Items.{value_until}
use Rattle.xc_elements.specs.Grammar.References.{StandsFor}

-- a quotation mark or an apostrophe
abbrev pub IsQuote : ℕ → Type 0
IsQuote mark = (mark ≡ 34) ⊎ (mark ≡ 39)

-- a part of a value as it is written
pub data Written : Type 0 where
  -- a character that is no white space but the space
  Plain : ℕ → Written
  -- a tab, a line feed or a carriage return
  White : ℕ → Written
  -- a carriage return and a line feed
  LineEnd : Written
  -- what stands between `&` and `;`, and the character that it stands for
  Referred : List ℕ → ℕ → Written

-- the characters of a part
abbrev pub characters_of : Written → List ℕ
characters_of (Plain c) = c ∷ []
characters_of (White c) = c ∷ []
characters_of LineEnd = 13 ∷ (10 ∷ [])
characters_of (Referred name c) = codes "&" ++ (name ++ codes ";")

-- the character of the value for which a part stands: a space for each white space that is written as a character
abbrev pub meant_by : Written → ℕ
meant_by (Plain c) = c
meant_by (White c) = 32
meant_by LineEnd = 32
meant_by (Referred name c) = c

-- a character of a value, `[^<&"]` or `[^<&']`, other than a tab, a line feed and a carriage return
pub record IsPlain (mark c : ℕ) : Type 0 where
  pub character : is_character c ≡ true
  pub inside : c ≢ mark
  pub no_tag : c ≢ 60
  pub no_reference : c ≢ 38
  pub no_tab : c ≢ 9
  pub no_feed : c ≢ 10
  pub no_return : c ≢ 13

-- the text begins with a line feed
abbrev pub BeginsWithFeed : List ℕ → Type 0
BeginsWithFeed [] = ⊥
BeginsWithFeed (c ∷ cs) = c ≡ 10

-- a tab, a line feed, or a carriage return behind which no line feed stands
abbrev pub IsWhite : ℕ → List ℕ → Type 0
IsWhite c after = (c ≡ 9) ⊎ ((c ≡ 10) ⊎ ((c ≡ 13) × ¬ (BeginsWithFeed after)))

-- the part may stand in a value between these quotes, before this text
abbrev pub MayStand : ℕ → Written → List ℕ → Type 0
MayStand mark (Plain c) after = IsPlain mark c
MayStand mark (White c) after = IsWhite c after
MayStand mark LineEnd after = Unit {0}
MayStand mark (Referred name c) after = StandsFor name c

-- the part stands at the front of the text, and this follows
pub record Stands (mark : ℕ) (part : Written) (text after : List ℕ) : Type 0 where
  pub whole : text ≡ characters_of part ++ after
  pub fit : MayStand mark part after

-- these parts stand at the front of the text, one behind another, then the closing quote, and the rest follows
abbrev pub AreWritten : ℕ → List Written → List ℕ → List ℕ → Type 0
AreWritten mark [] text rest = text ≡ mark ∷ rest
AreWritten mark (p ∷ ps) text rest = (after : List ℕ) × Stands mark p text after × AreWritten mark ps after rest

-- behind its opening quote the text begins with what is written for this value, and the closing quote, and the rest follows: `AttValue`
pub record IsValue (mark : ℕ) (text value rest : List ℕ) : Type 0 where
  pub parts : List Written
  pub written : AreWritten mark parts text rest
  pub meant : map meant_by parts ≡ value

-- what is read up to a quote is this value exactly where the text begins with what is written for it, and the quote
abbrev pub ValuesAsSpelled : Type 0
ValuesAsSpelled = (mark : ℕ) (text value rest : List ℕ) → IsQuote mark → (value_until mark text ≡ Some (value, rest)) ↔ IsValue mark text value rest
