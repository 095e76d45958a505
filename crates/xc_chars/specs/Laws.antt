-- What follows from the definitions, in the words of names.
use Rattle.std.specs.Prelude.{◌≡◌, ◌↔◌, ℕ, List, Some}
use Rattle.std.specs.Str.{IsUtf8}
use Rattle.xc_chars.specs.PlainNames.{IsJoined, split}

-- a text splits into a prefix and a local part exactly where it is these two plain names, joined by a colon
abbrev pub SplitsWhereJoined : Type 0
SplitsWhereJoined = (text prefix local : List ℕ) → IsUtf8 text → (split text ≡ Some (prefix, local)) ↔ IsJoined text prefix local
