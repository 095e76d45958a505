-- The elements of a document, by its items.
use Rattle.std.specs.Prelude.{ℕ, zero, suc, ◌+◌, ◌==◌, ◌&&◌, ◌||◌, nat_lt, nat_le, Bool, true, false, not, List, [], ◌∷◌, ◌++◌, length, map, Option, Some, None, unwrap_or, encode_utf8_all, if◌then◌else◌}
use Rattle.std.specs.Str.{bytes_eq}
use Rattle.xc_chars.specs.Characters.{is_space}
use Rattle.xc_elements.specs.Items.{Name, Meaning, Start, Empty, End, Section, Letter, Reference}
use Rattle.xc_elements.specs.Namespaces.{Tag, Binding, tag_of, declarations, declared_by, element_space, expand, tag_lacks_space, has_double}
use Rattle.xc_elements.specs.declared.nodes.Attribute.{Attribute}
use Rattle.xc_elements.specs.declared.nodes.Node.{Node}

-- the tag of an item that begins an element
abbrev pub tag_in : Meaning → Option Tag
tag_in (Start name pairs) = Some (tag_of name pairs)
tag_in (Empty name pairs) = Some (tag_of name pairs)
tag_in item = None

-- ---- what is open at a place

-- how many elements begin in items
abbrev pub begun : List Meaning → ℕ
begun [] = 0
begun (Start name pairs ∷ items) = suc (begun items)
begun (Empty name pairs ∷ items) = suc (begun items)
begun (item ∷ items) = begun items

-- an element that is open: its number, which says how many begin before it, and its start tag
pub record Open : Type 0 where
  pub number : ℕ
  pub tag : Tag

-- the elements that are open behind items, which are told from the last to the first, the innermost first: those whose start tag no end tag behind it ends; so many start tags are ended by what stands behind the items
abbrev pub open_behind : ℕ → List Meaning → List Open
open_behind end_node [] = []
open_behind end_node (End name ∷ before) = open_behind (suc end_node) before
open_behind zero (Start name pairs ∷ before) = record { number = begun before; tag = tag_of name pairs } ∷ open_behind zero before
open_behind (suc end_node) (Start name pairs ∷ before) = open_behind end_node before
open_behind end_node (item ∷ before) = open_behind end_node before

-- the elements that are open at a place, of which the items before it are told from the last to the first
abbrev pub open_at : List Meaning → List Open
open_at before = open_behind zero before

-- all that is declared for a tag at a place: by the tag and by the elements that are open there
abbrev pub declared_at : List Meaning → Tag → List Binding
declared_at before tag = declarations (tag ∷ map (λ o. o.tag) (open_at before))

-- ---- what is inside an element

-- how many elements begin inside an element: these items stand behind its start tag, inside so many elements that are inside it
abbrev pub begun_inside : ℕ → List Meaning → ℕ
begun_inside depth [] = 0
begun_inside depth (Start name pairs ∷ items) = suc (begun_inside (suc depth) items)
begun_inside depth (Empty name pairs ∷ items) = suc (begun_inside depth items)
begun_inside zero (End name ∷ items) = 0
begun_inside (suc depth) (End name ∷ items) = begun_inside depth items
begun_inside depth (item ∷ items) = begun_inside depth items

-- what a character stands for in a text: a line feed for a carriage return, together with a line feed right behind it; XML 1.0, section 2.11
abbrev pub line_character : Bool → ℕ → List ℕ
line_character behind_return c = if c == 13 then 10 ∷ [] else if behind_return && c == 10 then [] else c ∷ []

-- the characters of a section, with a line feed for each end of a line
abbrev pub section_text : Bool → List ℕ → List ℕ
section_text behind_return [] = []
section_text behind_return (c ∷ cs) = line_character behind_return c ++ section_text (c == 13) cs

-- the item is a carriage return
abbrev pub is_return : Meaning → Bool
is_return (Letter c) = c == 13
is_return item = false

-- the text of an item that stands directly in an element: it may stand right behind a carriage return
abbrev pub item_text : Bool → Meaning → List ℕ
item_text behind_return (Letter c) = line_character behind_return c
item_text behind_return (Reference c) = c ∷ []
item_text behind_return (Section text) = section_text false text
item_text behind_return item = []

-- the letters, references and sections that stand directly in an element: these items stand behind its start tag, inside so many elements that are inside it
abbrev pub text_inside : ℕ → Bool → List Meaning → List ℕ
text_inside depth behind_return [] = []
text_inside depth behind_return (Start name pairs ∷ items) = text_inside (suc depth) false items
text_inside zero behind_return (End name ∷ items) = []
text_inside (suc depth) behind_return (End name ∷ items) = text_inside depth false items
text_inside zero behind_return (item ∷ items) = item_text behind_return item ++ text_inside zero (is_return item) items
text_inside (suc depth) behind_return (item ∷ items) = text_inside (suc depth) (is_return item) items

-- ---- the nodes of a document

-- the number of the innermost element
abbrev pub innermost : List Open → Option ℕ
innermost [] = None
innermost (o ∷ os) = Some o.number

-- the node of a tag at a place, with so many elements and this text inside
abbrev pub node_at : List Meaning → Tag → ℕ → List ℕ → Node
node_at before tag inside text = record {
  space = unwrap_or (element_space (declared_at before tag) tag.name) [];
  local = encode_utf8_all tag.name.local;
  attributes = map (expand (declared_at before tag)) tag.attributes;
  declared = declared_by tag;
  parent = innermost (open_at before);
  end = suc (begun before) + inside;
  text = encode_utf8_all text;
}

-- the nodes of the start and empty tags among items, in order; the items before them are told from the last to the first
abbrev pub nodes_from : List Meaning → List Meaning → List Node
nodes_from before [] = []
nodes_from before (Start name pairs ∷ after) = node_at before (tag_of name pairs) (begun_inside zero after) (text_inside zero false after) ∷ nodes_from (Start name pairs ∷ before) after
nodes_from before (Empty name pairs ∷ after) = node_at before (tag_of name pairs) 0 [] ∷ nodes_from (Empty name pairs ∷ before) after
nodes_from before (item ∷ after) = nodes_from (item ∷ before) after

-- the nodes of a document, by its items
abbrev pub nodes_of : List Meaning → List Node
nodes_of items = nodes_from [] items

-- ---- what is wrong with an item, where the items before it are told from the last to the first

-- no element is open
abbrev pub is_outside : List Open → Bool
is_outside [] = true
is_outside (o ∷ os) = false

-- two written names are the same: prefix and local part
abbrev pub same_name : Name → Name → Bool
same_name a b = bytes_eq a.prefix b.prefix && bytes_eq a.local b.local

-- the innermost open element has this name
abbrev pub ends_innermost : Name → List Open → Bool
ends_innermost name [] = false
ends_innermost name (o ∷ os) = same_name name o.tag.name

-- the root has ended
abbrev pub is_behind_root : List Meaning → Bool
is_behind_root before = is_outside (open_at before) && nat_lt 0 (begun before)

-- the item does not fit what is open: XML 1.0, sections 2.1 and 3
abbrev pub is_unbalanced : List Meaning → Meaning → Bool
is_unbalanced before (Start name pairs) = is_behind_root before
is_unbalanced before (Empty name pairs) = is_behind_root before
is_unbalanced before (End name) = not (ends_innermost name (open_at before))
is_unbalanced before (Letter c) = is_outside (open_at before) && not (is_space c)
is_unbalanced before (Reference c) = is_outside (open_at before)
is_unbalanced before (Section text) = is_outside (open_at before)
is_unbalanced before item = false

-- a document of these items has not ended, or has no root
abbrev pub is_unfinished : List Meaning → Bool
is_unfinished before = not (is_outside (open_at before)) || begun before == 0

-- a tag inside 127 open elements, which is this reader's limit
abbrev pub is_too_deep : List Meaning → Meaning → Bool
is_too_deep before (Start name pairs) = nat_le 127 (length (open_at before))
is_too_deep before (Empty name pairs) = nat_le 127 (length (open_at before))
is_too_deep before item = false

-- a prefix in the tag is not declared, or a prefix is declared and empty
abbrev pub has_no_space : List Meaning → Meaning → Bool
has_no_space before (Start name pairs) = tag_lacks_space (declared_at before (tag_of name pairs)) (tag_of name pairs)
has_no_space before (Empty name pairs) = tag_lacks_space (declared_at before (tag_of name pairs)) (tag_of name pairs)
has_no_space before item = false

-- the attributes of a tag at a place, by their expanded names
abbrev pub attributes_of : List Meaning → Tag → List Attribute
attributes_of before tag = map (expand (declared_at before tag)) tag.attributes

-- two attributes of the tag have one expanded name
abbrev pub has_same_attribute : List Meaning → Meaning → Bool
has_same_attribute before (Start name pairs) = has_double (attributes_of before (tag_of name pairs))
has_same_attribute before (Empty name pairs) = has_double (attributes_of before (tag_of name pairs))
has_same_attribute before item = false
