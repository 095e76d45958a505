-- The JSON value of a report, and its parts.
use Rattle.std.specs.Prelude.{ℕ, List, [], ◌∷◌, Bool, false, Option, Some, None, option_and_then, is_some, codes, if◌then◌else◌}
use Rattle.std.specs.List.{list_all}
use Rattle.std.specs.Option.{option_map_or}
use Rattle.std.specs.Str.{bytes_eq, is_utf8}
use Rattle.serde_json.specs.Data.{Data, Members, no_members, member}
use Rattle.serde_json.specs.Find.{get, as_str}
use Rattle.serde_json.specs.Read.{read}

-- the JSON value of bytes, where they are UTF-8 and spell one
unfoldable pub json_of : List ℕ → Option Data
json_of bytes = if is_utf8 bytes then read bytes else None

-- the text under this name, in an object
abbrev pub text_at : List ℕ → Data → Option (List ℕ)
text_at name d = option_and_then as_str (get name d)

-- an object's members, in the order of their names as bytes
abbrev pub member_list : Members → List (List ℕ × Data)
member_list no_members = []
member_list (member name d ms) = (name, d) ∷ member_list ms

-- the document type of xBRL-JSON 1.0
abbrev pub is_json_type : List ℕ → Bool
is_json_type text = bytes_eq text (codes "https://xbrl.org/2021/xbrl-json")

-- the information of a report of this type
abbrev pub has_json_type : Data → Bool
has_json_type info = option_map_or is_json_type (text_at (codes "documentType") info) false

-- a member whose value is a text
abbrev pub is_text : List ℕ × Data → Bool
is_text m = is_some (as_str m.1)

-- an object of texts
abbrev pub are_texts : Option Members → Bool
are_texts None = false
are_texts (Some ms) = list_all is_text (member_list ms)
