-- The lines of an output that stand by themselves, and the texts in lines.
use Rattle.std.specs.Prelude.{ℕ, ◌+◌, ◌/◌, ◌%◌, ◌==◌, ◌||◌, List, [], ◌∷◌, ◌++◌, Bool, nat_lt, nat_le, codes, encode_utf8, if◌then◌else◌}
use Rattle.std.specs.List.{flat_map}
use Rattle.std.specs.Str.{chars}

-- up to the space, `%`, or the delete character
abbrev pub is_escaped : ℕ → Bool
is_escaped c = nat_le c 32 || (c == 37) || (c == 127)

-- a digit of base 16, in capitals
abbrev pub hex_digit : ℕ → ℕ
hex_digit digit = if nat_lt digit 10 then 48 + digit else 55 + digit

-- a character as it is printed: where it is escaped, `%` and its number in two digits of base 16
abbrev pub printed_char : ℕ → List ℕ
printed_char c = if is_escaped c then 37 ∷ hex_digit (c / 16) ∷ hex_digit (c % 16) ∷ [] else encode_utf8 c

-- a text as it is printed; the empty text is `%`
abbrev pub printed_text : List ℕ → List ℕ
printed_text [] = 37 ∷ []
printed_text (byte ∷ bytes) = flat_map printed_char (chars (byte ∷ bytes))

-- the words that are accepted
abbrev pub usage_line : List ℕ
usage_line = codes "usage: xcalc sum MODE REPORT TOTAL TERM... | check [--old-arcs] MODE REPORT DOC... | verify [--old-arcs] MODE CERTIFICATE REPORT DOC... | sample N\n"

-- a file that could not be read
abbrev pub read_fault_line : List ℕ → List ℕ
read_fault_line name = codes "read-fault " ++ printed_text name ++ codes "\n"

-- a file that is refused
abbrev pub refusal_line : List ℕ → List ℕ → List ℕ
refusal_line name code = codes "refused " ++ printed_text name ++ codes " " ++ code ++ codes "\n"

-- a file that is refused, with the place of the fault
abbrev pub placed_refusal_line : List ℕ → List ℕ → List ℕ → List ℕ
placed_refusal_line name code place = codes "refused " ++ printed_text name ++ codes " " ++ code ++ codes " " ++ printed_text place ++ codes "\n"
