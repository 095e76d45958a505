-- The tree that a document stands for, or its first fault.
use Rattle.std.specs.Prelude.{◌≡◌, ℕ, ◌+◌, ◌<◌, ◌⊎◌, Bool, true, false, List, [], ◌∷◌, ◌++◌, length, map, reverse, Some, IsTrue, encode_utf8_all}
use Rattle.std.specs.Str.{IsUtf8}
use Rattle.std.specs.Str.Lossy.{utf8_valid_len}
use Rattle.xc_elements.specs.Items.{Meaning}
use Rattle.xc_elements.specs.Documents.{Piece, Cuts, bytes_of, text_of, StopsAt}
use Rattle.xc_elements.specs.Namespaces.{Tag, space_under}
use Rattle.xc_elements.specs.Scopes.{space_in_scope}
use Rattle.xc_elements.specs.Elements.{begun, tag_in, declared_at, is_unbalanced, is_unfinished, is_too_deep, has_no_space, has_same_attribute, nodes_of}
use Rattle.xc_elements.specs.declared.nodes.Node.{Node}
use Rattle.xc_elements.specs.declared.fault.TreeFault.{TreeFault}
use Rattle.xc_elements.specs.declared.fault.TreeFault.TheVariants.{Memory, NotUtf8, NotItem, Doctype, Unbalanced, TooDeep, NoSpace, SameAttribute}

-- what the pieces mean
abbrev pub meanings : List Piece → List Meaning
meanings pieces = map (λ p. p.meaning) pieces

-- the same, told from the last to the first
abbrev pub meanings_backward : List Piece → List Meaning
meanings_backward pieces = reverse (meanings pieces)

-- ---- faults

-- the bytes are UTF-8, and at this place of them stands an item that has this fault, given the items before it
pub record HasAt (bytes : List ℕ) (place : ℕ) (fault : List Meaning → Meaning → Bool) : Type 0 where
  pub utf8 : IsUtf8 bytes
  pub pieces : List Piece
  pub piece : Piece
  pub rest : List ℕ
  pub cut : Cuts true (text_of bytes) (pieces ++ piece ∷ []) rest
  pub here : place + bytes_of (piece.text ++ rest) ≡ length bytes
  pub faulty : IsTrue (fault (meanings_backward pieces) piece.meaning)

-- the bytes are UTF-8 and made of items, and at their end an element is open, or there was none
pub record EndsAt (bytes : List ℕ) (place : ℕ) : Type 0 where
  pub utf8 : IsUtf8 bytes
  pub pieces : List Piece
  pub cut : Cuts true (text_of bytes) pieces []
  pub here : place ≡ length bytes
  pub faulty : IsTrue (is_unfinished (meanings_backward pieces))

-- the fault stands in the bytes
abbrev pub Stands : List ℕ → TreeFault → Type 0
Stands bytes Memory = ⊥
Stands bytes (NotUtf8 place) = ¬ (IsUtf8 bytes) × (place ≡ utf8_valid_len bytes)
Stands bytes (NotItem place) = StopsAt bytes place false
Stands bytes (Doctype place) = StopsAt bytes place true
Stands bytes (Unbalanced place) = HasAt bytes place is_unbalanced ⊎ EndsAt bytes place
Stands bytes (TooDeep place) = HasAt bytes place is_too_deep
Stands bytes (NoSpace place) = HasAt bytes place has_no_space
Stands bytes (SameAttribute place) = HasAt bytes place has_same_attribute

-- the byte at which a fault stands
abbrev pub byte_of : TreeFault → ℕ
byte_of Memory = 0
byte_of (NotUtf8 place) = place
byte_of (NotItem place) = place
byte_of (Doctype place) = place
byte_of (Unbalanced place) = place
byte_of (TooDeep place) = place
byte_of (NoSpace place) = place
byte_of (SameAttribute place) = place

-- the order of the faults of one place
abbrev pub rank_of : TreeFault → ℕ
rank_of Memory = 0
rank_of (NotUtf8 place) = 0
rank_of (NotItem place) = 1
rank_of (Doctype place) = 1
rank_of (Unbalanced place) = 2
rank_of (TooDeep place) = 3
rank_of (NoSpace place) = 4
rank_of (SameAttribute place) = 5

-- one fault comes before another
abbrev pub IsBefore : TreeFault → TreeFault → Type 0
IsBefore f g = (byte_of f < byte_of g) ⊎ ((byte_of f ≡ byte_of g) × (rank_of f < rank_of g))

-- the fault stands in the bytes, and none that stands there comes before it
pub record IsFirstFault (bytes : List ℕ) (fault : TreeFault) : Type 0 where
  pub stands : Stands bytes fault
  pub first : (other : TreeFault) → Stands bytes other → ¬ (IsBefore other fault)

-- what is answered where there is no tree: memory may have run out, and else it is the first fault
abbrev pub IsRefusal : List ℕ → TreeFault → Type 0
IsRefusal bytes Memory = Unit {0}
IsRefusal bytes fault = IsFirstFault bytes fault

-- ---- trees

-- the bytes are UTF-8 and made of items, no fault stands in them, and the nodes are those of the items
pub record IsTreeOf (bytes : List ℕ) (nodes : List Node) : Type 0 where
  pub utf8 : IsUtf8 bytes
  pub pieces : List Piece
  pub cut : Cuts true (text_of bytes) pieces []
  pub faultless : (fault : TreeFault) → ¬ (Stands bytes fault)
  pub nodes_are : nodes ≡ nodes_of (meanings pieces)

-- ---- laws

-- a document has one tree at most
abbrev pub OneTree : Type 0
OneTree = (bytes : List ℕ) (one other : List Node) → IsTreeOf bytes one → IsTreeOf bytes other → one ≡ other

-- no document has both a tree and a fault
abbrev pub TreeOrFault : Type 0
TreeOrFault = (bytes : List ℕ) (nodes : List Node) (fault : TreeFault) → IsTreeOf bytes nodes → ¬ (IsFirstFault bytes fault)

-- a document has one first fault at most
abbrev pub OneFirstFault : Type 0
OneFirstFault = (bytes : List ℕ) (one other : TreeFault) → IsFirstFault bytes one → IsFirstFault bytes other → one ≡ other

-- a prefix stands for the same where the names of a tag are expanded, and at the tag's node: Namespaces in XML 1.0, section 6.1
abbrev pub OneScope : Type 0
OneScope = (bytes : List ℕ) (nodes : List Node) (tree : IsTreeOf bytes nodes) (before after : List Meaning) (item : Meaning) (tag : Tag) →
    meanings tree.pieces ≡ reverse before ++ item ∷ after → tag_in item ≡ Some tag → (prefix : List ℕ) →
    space_under (declared_at before tag) prefix ≡ space_in_scope nodes (begun before) (encode_utf8_all prefix)
