-- Texts cut at a byte, as their bytes.
use Rattle.std.specs.Prelude.{ℕ, ◌==◌, List, [], ◌∷◌, Bool, nat_lt, length, Option, Some, None, if◌then◌else◌}
use Rattle.std.specs.Borrow.{Bor}
use Rattle.std.specs.List.{list_any, position_or_len, before_first, after_first}

-- two lent texts
abbrev pub pair_view : Bor (List ℕ) × Bor (List ℕ) → List ℕ × List ℕ
pair_view p = (p.0.now, p.1.now)

-- the byte is this one
abbrev pub is_byte : ℕ → ℕ → Bool
is_byte mark byte = byte == mark

-- a number sign
abbrev pub is_hash : ℕ → Bool
is_hash byte = byte == 35

-- a slash
abbrev pub is_slash : ℕ → Bool
is_slash byte = byte == 47

-- a colon
abbrev pub is_colon : ℕ → Bool
is_colon byte = byte == 58

-- what stands before the first byte of which the test holds, and after it; nothing where it holds of none
abbrev pub around : (ℕ → Bool) → List ℕ → Option (List ℕ × List ℕ)
around test text = if nat_lt (position_or_len test text) (length text) then Some (before_first test text, after_first test text) else None

-- what stands after the last `/`, and the whole where there is none: the longest end without a `/`
abbrev pub file_name : List ℕ → List ℕ
file_name [] = []
file_name (byte ∷ bytes) = if list_any is_slash (byte ∷ bytes) then file_name bytes else byte ∷ bytes
