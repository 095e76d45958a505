-- Names as XML 1.0 spells them, and two of them joined by a colon.
use Rattle.std.specs.Prelude.{◌≡◌, ℕ, ◌&&◌, ◌++◌, List, [], ◌∷◌, Bool, true, false, codes, Option, Some, None, option_and_then, if◌then◌else◌}
use Rattle.std.specs.List.{list_all}
use Rattle.std.specs.Str.{chars}
use Rattle.xc_chars.specs.Characters.{is_name_start, is_name_char}
use Rattle.xc_chars.specs.Parts.{is_colon, around}

-- characters of which the first may begin a name
abbrev pub begins_name : List ℕ → Bool
begins_name [] = false
begins_name (c ∷ cs) = is_name_start c

-- a text whose characters are a plain name: `NCName` of Namespaces in XML 1.0, section 3
abbrev pub is_plain_name : List ℕ → Bool
is_plain_name text = begins_name (chars text) && list_all is_name_char (chars text)

-- these two parts, where both are plain names
abbrev pub both_plain : List ℕ × List ℕ → Option (List ℕ × List ℕ)
both_plain parts = if is_plain_name parts.0 && is_plain_name parts.1 then Some parts else None

-- a prefix and a local part, where the text is two plain names and one colon: `PrefixedName` of Namespaces in XML 1.0, section 4
abbrev pub split : List ℕ → Option (List ℕ × List ℕ)
split text = option_and_then both_plain (around is_colon text)

-- the text is these two plain names, joined by a colon
pub record IsJoined (text prefix local : List ℕ) : Type 0 where
  pub joined : text ≡ prefix ++ (codes ":" ++ local)
  pub prefix_plain : is_plain_name prefix ≡ true
  pub local_plain : is_plain_name local ≡ true
