-- Documents as lists of items, and the places at which they go wrong.
use Rattle.std.specs.Prelude.{◌≡◌, ◌≢◌, ℕ, ◌+◌, ◌==◌, Bool, true, false, List, [], ◌∷◌, ◌++◌, length, Option, Some, None, encode_utf8_all, if◌then◌else◌}
use Rattle.std.specs.Str.{chars, IsUtf8}
use Rattle.xc_elements.specs.Fronts.{one}
use Rattle.xc_elements.specs.Items.{Meaning, item, begins_doctype}

-- ---- the cut into items

-- a part of a text, and what it means as an item
pub record Piece : Type 0 where
  pub text : List ℕ
  pub meaning : Meaning

-- each piece is one item, to its last character; the first of a document may be its declaration
abbrev pub AreItems : Bool → List Piece → Type 0
AreItems is_first [] = Unit {0}
AreItems is_first (p ∷ ps) = (item is_first p.text ≡ Some (p.meaning, [])) × AreItems false ps

-- the texts of the pieces, joined
abbrev pub joined_texts : List Piece → List ℕ
joined_texts [] = []
joined_texts (p ∷ ps) = p.text ++ joined_texts ps

-- the text begins with these items, and this rest follows
pub record Cuts (is_first : Bool) (text : List ℕ) (pieces : List Piece) (rest : List ℕ) : Type 0 where
  pub items : AreItems is_first pieces
  pub whole : text ≡ joined_texts pieces ++ rest

-- whether what follows these pieces is still the first of a document
abbrev pub begins : Bool → List Piece → Bool
begins is_first [] = is_first
begins is_first (p ∷ ps) = false

-- a text has one cut into items at most
abbrev pub OneCut : Type 0
OneCut = (is_first : Bool) (text : List ℕ) (ps qs : List Piece) → Cuts is_first text ps [] → Cuts is_first text qs [] → ps ≡ qs

-- two cuts of a text, up to a place where no item stands, are one
abbrev pub OneFault : Type 0
OneFault = (is_first : Bool) (text : List ℕ) (ps qs : List Piece) (r s : List ℕ) → Cuts is_first text ps r → item (begins is_first ps) r ≡ None → Cuts is_first text qs s → item (begins is_first qs) s ≡ None → (ps ≡ qs) × (r ≡ s)

-- ---- places

-- how many bytes the characters take
abbrev pub bytes_of : List ℕ → ℕ
bytes_of text = length (encode_utf8_all text)

-- a text by its first character, which is left out if it is a byte order mark
abbrev pub behind_mark : Option (ℕ × List ℕ) → List ℕ → List ℕ
behind_mark None text = text
behind_mark (Some x) text = if x.0 == 0xFEFF then x.1 else text

-- a text without the byte order mark at its start
abbrev pub without_mark : List ℕ → List ℕ
without_mark text = behind_mark (one text) text

-- the characters of a document's bytes, without a byte order mark at their start
abbrev pub text_of : List ℕ → List ℕ
text_of bytes = without_mark (chars bytes)

-- behind these items no item stands, and something does
pub record Stops (text : List ℕ) (pieces : List Piece) (rest : List ℕ) : Type 0 where
  pub cut : Cuts true text pieces rest
  pub more : rest ≢ []
  pub none : item (begins true pieces) rest ≡ None

-- the bytes are UTF-8, and behind some items of their text no item stands; the place is counted from the first byte
pub record StopsAt (bytes : List ℕ) (place : ℕ) (is_doctype : Bool) : Type 0 where
  pub utf8 : IsUtf8 bytes
  pub pieces : List Piece
  pub rest : List ℕ
  pub stops : Stops (text_of bytes) pieces rest
  pub here : place + bytes_of rest ≡ length bytes
  pub kind : begins_doctype rest ≡ is_doctype
