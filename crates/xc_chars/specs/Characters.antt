-- The characters of XML 1.0 by their numbers.
use Rattle.std.specs.Prelude.{ℕ, ◌==◌, ◌&&◌, ◌||◌, Bool, nat_le}

-- a number from low to high
abbrev pub is_between : ℕ → ℕ → ℕ → Bool
is_between low high c = nat_le low c && nat_le c high

-- a character that a document may have: `Char` of XML 1.0, section 2.2
unfoldable pub is_character : ℕ → Bool
is_character c = c == 9 || c == 10 || c == 13 || is_between 0x20 0xD7FF c || is_between 0xE000 0xFFFD c || is_between 0x10000 0x10FFFF c

-- white space: a character of `S` of XML 1.0, section 2.3
abbrev pub is_space : ℕ → Bool
is_space c = c == 32 || c == 9 || c == 10 || c == 13

-- a character that may begin a name: `NameStartChar` of XML 1.0, section 2.3, but for the colon
unfoldable pub is_name_start : ℕ → Bool
is_name_start c = is_between 65 90 c || is_between 97 122 c || c == 95
    || is_between 0xC0 0xD6 c || is_between 0xD8 0xF6 c || is_between 0xF8 0x2FF c
    || is_between 0x370 0x37D c || is_between 0x37F 0x1FFF c || is_between 0x200C 0x200D c
    || is_between 0x2070 0x218F c || is_between 0x2C00 0x2FEF c || is_between 0x3001 0xD7FF c
    || is_between 0xF900 0xFDCF c || is_between 0xFDF0 0xFFFD c || is_between 0x10000 0xEFFFF c

-- a character that may stand in a name: `NameChar` of XML 1.0, section 2.3, but for the colon
unfoldable pub is_name_char : ℕ → Bool
is_name_char c = is_name_start c || c == 45 || c == 46 || is_between 48 57 c || c == 0xB7 || is_between 0x300 0x36F c || is_between 0x203F 0x2040 c
