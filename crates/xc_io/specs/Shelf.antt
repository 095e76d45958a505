-- What a shelf's calls answer.
use Rattle.std.specs.Prelude.{◌≡◌, ℕ, ◌<◌, ◌≤◌, List, length, Option, Some, None, Result, Ok, Err, ⊤}
use Rattle.std.specs.declared.alloc.Global.{Global}
use Rattle.std.specs.declared.vec.Vec.{Vec}
use Rattle.xc_io.specs.declared.shelf.ShelfFault.{ShelfFault}
use Rattle.xc_io.specs.declared.shelf.ShelfFault.TheVariants.{Failed, TooLong, Memory}

-- the bytes that are held under each name
abbrev pub Files : Type 0
Files = List ℕ → Option (List ℕ)

-- more than this many bytes are held
abbrev pub IsLonger : Option (List ℕ) → ℕ → Type 0
IsLonger None room = ⊥
IsLonger (Some bytes) room = room < length bytes

-- no more than this many bytes are held
abbrev pub IsWithin : Option (List ℕ) → ℕ → Type 0
IsWithin None room = ⊤
IsWithin (Some bytes) room = length bytes ≤ room

-- what a fetch with this room answers, where these bytes are held under its name, or nothing is: the
-- very bytes, that they are too long only where they are, and want of memory only where they are not
abbrev pub FetchGives : Option (List ℕ) → ℕ → Result (Vec ℕ Global) ShelfFault → Type 0
FetchGives held room (Ok bytes) = held ≡ Some bytes.items
FetchGives held room (Err Failed) = ⊤
FetchGives held room (Err TooLong) = IsLonger held room
FetchGives held room (Err Memory) = IsWithin held room
