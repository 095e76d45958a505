-- White space at the ends of a text's bytes.
use Rattle.std.specs.Prelude.{ℕ, List, [], ◌∷◌, Bool, false, reverse}
use Rattle.xc_chars.specs.Characters.{is_space}

-- the first byte is white space
abbrev pub begins_with_space : List ℕ → Bool
begins_with_space [] = false
begins_with_space (b ∷ bs) = is_space b

-- the last byte is
abbrev pub ends_with_space : List ℕ → Bool
ends_with_space text = begins_with_space (reverse text)
