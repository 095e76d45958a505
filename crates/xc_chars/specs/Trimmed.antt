-- Texts without the white space around them, as their bytes.
use Rattle.std.specs.Prelude.{ℕ, List, drop, reverse}
use Rattle.std.specs.List.{prefix_len}
use Rattle.xc_chars.specs.Characters.{is_space}

-- without the white space at its start; a byte of ASCII stands for no part of another character
abbrev pub without_front : List ℕ → List ℕ
without_front text = drop (prefix_len is_space text) text

-- without the white space at its end
abbrev pub without_end : List ℕ → List ℕ
without_end text = reverse (without_front (reverse text))

-- without either
abbrev pub trimmed : List ℕ → List ℕ
trimmed text = without_end (without_front text)
