-- References to characters and to predefined entities: XML 1.0, sections 4.1 and 4.6.
use Rattle.std.specs.Prelude.{◌≡◌, ◌≢◌, ◌↔◌, ℕ, ◌+◌, ◌*◌, ◌^◌, Bool, true, List, [], ◌∷◌, ◌++◌, length, Some, codes}
use Rattle.std.specs.Char.{digit_value, is_digit}
use Rattle.xc_chars.specs.Characters.{is_character}
use Rattle.xc_elements.specs.Items.{Reference, item}
use Rattle.xc_elements.specs.Grammar.Words.{Each}

-- the number that these digits write in this base: each counts as often as the digits behind it have numbers
abbrev pub number_of : ℕ → List ℕ → ℕ
number_of base [] = 0
number_of base (d ∷ ds) = digit_value d * base ^ length ds + number_of base ds

-- these digits of a base, one at least, write the number of this character: `CharRef` and its constraint `Legal Character`
pub record IsNumber (base : ℕ) (digits : List ℕ) (c : ℕ) : Type 0 where
  pub some : digits ≢ []
  pub all : Each (λ d. is_digit d base) digits
  pub value : number_of base digits ≡ c
  pub legal : is_character c ≡ true

-- the text is `#`, or `#x`, and digits that write the number of this character: `CharRef`, behind its ampersand
pub record IsNumbered (mark : List ℕ) (base : ℕ) (text : List ℕ) (c : ℕ) : Type 0 where
  pub digits : List ℕ
  pub whole : text ≡ mark ++ digits
  pub number : IsNumber base digits c

-- the text is this word, which stands for this character
pub record IsNamed (word : List ℕ) (meant : ℕ) (text : List ℕ) (c : ℕ) : Type 0 where
  pub whole : text ≡ word
  pub same : c ≡ meant

-- the character that a text stands for between `&` and `;`: one of the five names of section 4.6, or a number in base 10 or 16
pub data StandsFor (text : List ℕ) (c : ℕ) : Type 0 where
  LessThan : IsNamed (codes "lt") 60 text c → StandsFor text c
  GreaterThan : IsNamed (codes "gt") 62 text c → StandsFor text c
  Ampersand : IsNamed (codes "amp") 38 text c → StandsFor text c
  Quotation : IsNamed (codes "quot") 34 text c → StandsFor text c
  Apostrophe : IsNamed (codes "apos") 39 text c → StandsFor text c
  Decimal : IsNumbered (codes "#") 10 text c → StandsFor text c
  Hexadecimal : IsNumbered (codes "#x") 16 text c → StandsFor text c

-- the text begins with `&`, what stands for this character, and `;`, and the rest follows: `Reference`
pub record IsReference (text : List ℕ) (c : ℕ) (rest : List ℕ) : Type 0 where
  pub body : List ℕ
  pub whole : text ≡ codes "&" ++ (body ++ (codes ";" ++ rest))
  pub meant : StandsFor body c

-- an item is a reference to this character exactly where the text begins with one
abbrev pub ReferencesAsSpelled : Type 0
ReferencesAsSpelled = (is_first : Bool) (text : List ℕ) (c : ℕ) (rest : List ℕ) → (item is_first text ≡ Some (Reference c, rest)) ↔ IsReference text c rest
