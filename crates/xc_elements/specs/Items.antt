-- The items of which an XML document is made, each with what it means.
use Rattle.std.specs.Prelude.{ℕ, ◌+◌, ◌*◌, Bool, true, false, not, ◌==◌, ◌&&◌, ◌||◌, nat_lt, List, [], ◌∷◌, map, Option, Some, None, is_some, codes, if◌then◌else◌}
use Rattle.std.specs.Char.{digit_value, to_ascii_lowercase}
use Rattle.xc_chars.specs.Characters.{is_character, is_space, is_name_start, is_name_char}
use Rattle.xc_elements.specs.Fronts.{Front, ◌>>=◌, ◌>>◌, give, give_some, refuse, one, by_next, past, exactly, run, up_to, Turn, More, Last, sequence}

-- a name as it is written: the prefix is empty where there is none
pub record Name : Type 0 where
  pub prefix : List ℕ
  pub local : List ℕ

-- a name and the value that it is given
pub record Pair : Type 0 where
  pub name : Name
  pub value : List ℕ

-- what an item means
pub data Meaning : Type 0 where
  Declaration : Meaning
  Start : Name → List Pair → Meaning
  Empty : Name → List Pair → Meaning
  End : Name → Meaning
  Comment : Meaning
  Instruction : Meaning
  Section : List ℕ → Meaning
  Letter : ℕ → Meaning
  Reference : ℕ → Meaning

-- nothing stands here
abbrev pub is_nil : List ℕ → Bool
is_nil [] = true
is_nil (c ∷ cs) = false

-- nothing follows
abbrev pub is_whole : Option (Unit {0} × List ℕ) → Bool
is_whole None = false
is_whole (Some x) = is_nil x.1

-- the text is this word
abbrev pub spells : List ℕ → List ℕ → Bool
spells text word = is_whole (exactly word text)

-- the text is this word, which is written in small letters, in capital or small letters of ASCII
abbrev pub spells_in_any_case : List ℕ → List ℕ → Bool
spells_in_any_case text word = spells (map to_ascii_lowercase text) word

-- ---- names

-- a name without a colon: `NCName` of Namespaces in XML 1.0, section 3
unfoldable pub plain_name : Front (List ℕ)
plain_name = by_next (λ c. if is_name_start c then run is_name_char else refuse)

-- a name that has no prefix
abbrev pub unprefixed_name : List ℕ → Name
unprefixed_name local = record { prefix = []; local = local }

-- a name with a prefix
abbrev pub prefixed_name : List ℕ → List ℕ → Name
prefixed_name prefix local = record { prefix = prefix; local = local }

-- a name of a tag or an attribute: `QName` of Namespaces in XML 1.0, section 4
unfoldable pub qualified_name : Front Name
qualified_name = do
  first ← plain_name
  by_next (λ c. if c == 58 then past (plain_name >>= λ local. give (prefixed_name first local)) else give (unprefixed_name first))

-- ---- references, behind their ampersand

-- the character whose number goes on with these digits, after the digits before them made n
unfoldable pub character_from : ℕ → ℕ → List ℕ → Option ℕ
character_from base n [] = if is_character n then Some n else None
character_from base n (d ∷ ds) = if nat_lt (digit_value d) base then character_from base (n * base + digit_value d) ds else None

-- the character whose number these digits are
abbrev pub character_numbered : ℕ → List ℕ → Option ℕ
character_numbered base [] = None
character_numbered base (d ∷ ds) = character_from base 0 (d ∷ ds)

-- the character that `x41` or `65` names, by what begins it
abbrev pub character_by_mark : Option (ℕ × List ℕ) → List ℕ → Option ℕ
character_by_mark None text = None
character_by_mark (Some x) text = if x.0 == 120 then character_numbered 16 x.1 else character_numbered 10 text

-- the character that `#x41` or `#65` names, by what begins it
abbrev pub character_by_hash : Option (ℕ × List ℕ) → Option ℕ
character_by_hash None = None
character_by_hash (Some x) = if x.0 == 35 then character_by_mark (one x.1) x.1 else None

-- the character that stands for what is written between `&` and `;`: XML 1.0, sections 4.1 and 4.6
unfoldable pub referent : List ℕ → Option ℕ
referent name =
    if spells name (codes "lt") then Some 60
    else if spells name (codes "gt") then Some 62
    else if spells name (codes "amp") then Some 38
    else if spells name (codes "quot") then Some 34
    else if spells name (codes "apos") then Some 39
    else character_by_hash (one name)

-- a reference to a character, behind its `&`: XML 1.0, section 4.1
unfoldable pub reference : Front ℕ
reference = up_to (codes ";") >>= λ name. give_some (referent name)

-- ---- attributes

-- an equals sign with white space around it
unfoldable pub equals_sign : Front Unit
equals_sign = run is_space >> exactly (codes "=") >> run is_space >> give tt

-- a quotation mark or an apostrophe
unfoldable pub quote : Front ℕ
quote = one >>= λ c. if c == 34 || c == 39 then give c else refuse

-- the space that a carriage return stands for, together with a line feed behind it
unfoldable pub line_end : Front (Turn ℕ Unit)
line_end = by_next (λ c. if c == 10 then past (give (More 32)) else give (More 32))

-- what a character of a value stands for, or the end of the value at its quote
abbrev pub character_or_end_by : ℕ → ℕ → Front (Turn ℕ Unit)
character_or_end_by mark c =
    if c == mark then give (Last tt)
    else if c == 38 then (reference >>= λ r. give (More r))
    else if c == 13 then line_end
    else if c == 9 || c == 10 then give (More 32)
    else if is_character c && not (c == 60) then give (More c)
    else refuse

-- the same of the first character of a text: XML 1.0, section 3.3.3
unfoldable pub character_or_end : ℕ → Front (Turn ℕ Unit)
character_or_end mark = one >>= character_or_end_by mark

-- the value up to its quote, as XML 1.0 normalizes it: sections 2.11 and 3.3.3
unfoldable pub value_until : ℕ → Front (List ℕ)
value_until mark = sequence (character_or_end mark) >>= λ x. give x.0

-- a name, an equals sign and a quoted value: XML 1.0, section 3.1
unfoldable pub attribute : Front Pair
attribute = do
  name ← qualified_name
  equals_sign
  mark ← quote
  value ← value_until mark
  give (record { name = name; value = value })

-- ---- tags

-- an attribute with white space before it, or the end of the tag, which says whether its element is empty
abbrev pub attribute_or_end_by : List ℕ → ℕ → Front (Turn Pair Bool)
attribute_or_end_by spaces c =
    if c == 62 then past (give (Last false))
    else if c == 47 then past (exactly (codes ">") >> give (Last true))
    else if is_nil spaces then refuse
    else (attribute >>= λ a. give (More a))

-- what stands next in a tag: white space and an attribute, or its end: XML 1.0, section 3.1
unfoldable pub attribute_or_end : Front (Turn Pair Bool)
attribute_or_end = run is_space >>= λ spaces. by_next (attribute_or_end_by spaces)

-- the attributes of a tag, behind its name, and whether its element is empty
unfoldable pub tag_rest : Front (List Pair × Bool)
tag_rest = sequence attribute_or_end

-- a start tag or an empty tag, behind its `<`
unfoldable pub tag : Front Meaning
tag = do
  name ← qualified_name
  body ← tag_rest
  give (if body.1 then Empty name body.0 else Start name body.0)

-- an end tag, behind its `</`
unfoldable pub end_tag : Front Meaning
end_tag = do
  name ← qualified_name
  run is_space
  exactly (codes ">")
  give (End name)

-- ---- the declaration, behind `<?xml`

-- an encoding that this reader takes
abbrev pub is_known_encoding : List ℕ → Bool
is_known_encoding value = spells_in_any_case value (codes "utf-8") || spells_in_any_case value (codes "us-ascii") || spells_in_any_case value (codes "ascii")

-- a part of this name may have this value
abbrev pub may_declare : List ℕ → List ℕ → Bool
may_declare name value = not (spells name (codes "encoding")) || is_known_encoding value

-- a character that may stand between these quotes
abbrev pub is_inside : ℕ → ℕ → Bool
is_inside mark c = is_character c && not (c == mark)

-- a name, an equals sign and a quoted value that it may have: XML 1.0, section 2.8
unfoldable pub part : Front Unit
part = do
  name ← plain_name
  equals_sign
  mark ← quote
  value ← run (is_inside mark)
  exactly (mark ∷ [])
  if may_declare name value then give tt else refuse

-- a part with white space before it, or the end
abbrev pub part_or_end_by : List ℕ → ℕ → Front (Turn Unit Unit)
part_or_end_by spaces c =
    if c == 63 then past (exactly (codes ">") >> give (Last tt))
    else if is_nil spaces then refuse
    else (part >> give (More tt))

-- what stands next in a declaration: white space and a part, or its end: XML 1.0, section 2.8
unfoldable pub part_or_end : Front (Turn Unit Unit)
part_or_end = run is_space >>= λ spaces. by_next (part_or_end_by spaces)

-- the parts of a declaration, up to its end: XML 1.0, section 2.8
unfoldable pub declaration : Front Meaning
declaration = sequence part_or_end >> give Declaration

-- ---- other items

-- an instruction, behind its target: nothing, or white space and what follows it
unfoldable pub instruction_rest : Front Meaning
instruction_rest = by_next (λ c. if is_space c then (up_to (codes "?>") >> give Instruction) else (exactly (codes "?>") >> give Instruction))

-- what a target, behind `<?`, goes on with: `xml` begins the declaration, which stands first, and is no target
abbrev pub behind_target : Bool → List ℕ → Front Meaning
behind_target is_first target =
    if spells_in_any_case target (codes "xml") then (if is_first && spells target (codes "xml") then declaration else refuse)
    else instruction_rest

-- an instruction or the declaration, behind `<?`
unfoldable pub instruction : Bool → Front Meaning
instruction is_first = plain_name >>= behind_target is_first

-- a comment, behind `<!--`
unfoldable pub comment : Front Meaning
comment = up_to (codes "--") >> exactly (codes ">") >> give Comment

-- a section of characters, behind `<![CDATA[`
unfoldable pub section : Front Meaning
section = up_to (codes "]]>") >>= λ text. give (Section text)

-- a comment or a section, behind `<!`
unfoldable pub comment_or_section : Front Meaning
comment_or_section = by_next (λ c. if c == 45 then (exactly (codes "--") >> comment) else (exactly (codes "[CDATA[") >> section))

-- what begins with `<`, behind it
unfoldable pub markup : Bool → Front Meaning
markup is_first = by_next (λ c.
    if c == 47 then past end_tag
    else if c == 63 then past (instruction is_first)
    else if c == 33 then past comment_or_section
    else tag)

-- a character that stands for itself
unfoldable pub letter : Front Meaning
letter = one >>= λ c. if is_character c then give (Letter c) else refuse

-- one item: XML 1.0, sections 2 to 4, without document types
unfoldable pub item : Bool → Front Meaning
item is_first = by_next (λ c.
    if c == 60 then past (markup is_first)
    else if c == 38 then past (reference >>= λ r. give (Reference r))
    else letter)

-- the text begins as a document type does
abbrev pub begins_doctype : List ℕ → Bool
begins_doctype text = is_some (exactly (codes "<!DOCTYPE") text)
