-- What the parts of a document stand for that the program lends, and that its scanners hand to one another.
use Rattle.std.specs.Prelude.{ℕ, List, [], Bool, true, false, Option, Some, None, IsSome}
use Rattle.std.specs.Option.{option_map_or}
use Rattle.std.specs.Borrow.{Bor}
use Rattle.std.specs.Str.{chars}
use Rattle.xc_chars.specs.Characters.{is_space, is_name_char}
use Rattle.xc_elements.specs.Fronts.{Turn, More, Last}
use Rattle.xc_elements.specs.Items.{Name, Pair, Meaning, Declaration, Start, Empty, End, Comment, Instruction, Section, Letter, Reference, is_inside, value_until, tag_rest}
use Rattle.xc_elements.specs.Namespaces.{Given, given_of}
use Rattle.xc_elements.specs.declared.attributes.WrittenAttribute.{WrittenAttribute}
use Rattle.xc_elements.specs.declared.attributes.WrittenValue.{WrittenValue}
use Rattle.xc_elements.specs.declared.items.Item.{Item}
use Rattle.xc_elements.specs.declared.items.Item.TheVariants as items
use Rattle.xc_elements.specs.declared.names.QualifiedName.{QualifiedName}
use Rattle.xc_elements.specs.declared.tags.Tag as tags
use Rattle.xc_elements.specs.declared.tags.TagPart.{TagPart}
use Rattle.xc_elements.specs.declared.tags.TagPart.TheVariants as parts
use Rattle.xc_elements.specs.declared.texts.Class.{Class}
use Rattle.xc_elements.specs.declared.texts.Class.TheVariants as classes

-- the characters of a lent text
abbrev pub lent_text : Bor (List ℕ) → List ℕ
lent_text text = chars text.now

-- a value and the text that follows it
abbrev pub at_front : {A B : Type 0} → (A → B) → A × Bor (List ℕ) → B × List ℕ
at_front view x = (view x.0, lent_text x.1)

-- the name that a borrowed name stands for
abbrev pub name_view : QualifiedName → Name
name_view name = record { prefix = lent_text name.prefix; local = lent_text name.local }

-- the value at the front of a text, of which the opening quote has been read
abbrev pub value_at : ℕ → List ℕ → List ℕ
value_at mark text = option_map_or (λ x. x.0) (value_until mark text) []

-- the value that a borrowed one stands for, with its references replaced
abbrev pub value_view : WrittenValue → List ℕ
value_view value = value_at value.mark (lent_text value.text)

-- the text has a value at its front
abbrev pub IsReadable : WrittenValue → Type 0
IsReadable value = IsSome (value_until value.mark (lent_text value.text))

-- the attribute that a borrowed one stands for
abbrev pub attribute_view : WrittenAttribute → Pair
attribute_view attribute = record { name = name_view attribute.name; value = value_view attribute.value }

-- the attributes at the front of a text, of which the tag's name has been read
abbrev pub attributes_at : List ℕ → List Pair
attributes_at text = option_map_or (λ x. x.0.0) (tag_rest text) []

-- the attribute that a borrowed one gives, with its value in UTF-8
abbrev pub given_view : WrittenAttribute → Given
given_view attribute = given_of (attribute_view attribute)

-- the part of a tag that a borrowed one stands for: an attribute, or the end of the tag
abbrev pub tag_part_view : TagPart → Turn Pair Bool
tag_part_view (parts.Attribute attribute) = More (attribute_view attribute)
tag_part_view (parts.End is_empty) = Last is_empty

-- the attribute's text has a value at its front
abbrev pub IsReadablePart : TagPart → Type 0
IsReadablePart (parts.Attribute attribute) = IsReadable attribute.value
IsReadablePart (parts.End is_empty) = Unit {0}

-- the text of a tag has its attributes at its front
abbrev pub IsReadableTag : tags.Tag → Type 0
IsReadableTag tag = IsSome (tag_rest (lent_text tag.attributes))

-- the text of an item that is a tag has its attributes at its front
abbrev pub IsReadableItem : Item → Type 0
IsReadableItem items.Declaration = Unit {0}
IsReadableItem (items.Start tag) = IsReadableTag tag
IsReadableItem (items.Empty tag) = IsReadableTag tag
IsReadableItem (items.End name) = Unit {0}
IsReadableItem items.Comment = Unit {0}
IsReadableItem items.Instruction = Unit {0}
IsReadableItem (items.Section text) = Unit {0}
IsReadableItem (items.Letter c) = Unit {0}
IsReadableItem (items.Reference c) = Unit {0}

-- the item that a borrowed one stands for
abbrev pub item_view : Item → Meaning
item_view items.Declaration = Declaration
item_view (items.Start tag) = Start (name_view tag.name) (attributes_at (lent_text tag.attributes))
item_view (items.Empty tag) = Empty (name_view tag.name) (attributes_at (lent_text tag.attributes))
item_view (items.End name) = End (name_view name)
item_view items.Comment = Comment
item_view items.Instruction = Instruction
item_view (items.Section text) = Section (lent_text text)
item_view (items.Letter c) = Letter c
item_view (items.Reference c) = Reference c

-- the text that follows what has no value
abbrev pub behind : Bor (List ℕ) → Unit {0} × List ℕ
behind text = (tt, lent_text text)

-- the characters of a class
abbrev pub is_in : Class → ℕ → Bool
is_in classes.Space = is_space
is_in classes.Name = is_name_char
is_in (classes.Between mark) = is_inside mark

-- a character of a value, or its end
abbrev pub character_or_end_view : Option ℕ → Turn ℕ Unit
character_or_end_view None = Last tt
character_or_end_view (Some c) = More c

-- a part of a declaration, or its end
abbrev pub part_or_end_view : Bool → Turn Unit Unit
part_or_end_view true = Last tt
part_or_end_view false = More tt
