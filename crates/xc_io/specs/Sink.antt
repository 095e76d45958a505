-- What a sink's calls leave.
use Rattle.std.specs.Prelude.{ℕ, ◌≤◌, List, length, take, Option, Result, Ok, Err, ⊤}
use Rattle.std.specs.Io.KnownBytes.{Appends}
use Rattle.xc_io.specs.declared.sink.SinkFault.{SinkFault}
use Rattle.xc_io.specs.declared.sink.SinkFault.TheVariants.{Failed}

-- known bytes grow by a beginning of these
abbrev pub AppendsPrefix : Option (List ℕ) → Option (List ℕ) → List ℕ → Type 0
AppendsPrefix old new piece = (n : ℕ) × (n ≤ length piece) × Appends old new (take n piece)

-- what a put of this piece leaves: the whole piece is appended, or on a fault a beginning of it
abbrev pub PutLeaves : Option (List ℕ) → Option (List ℕ) → List ℕ → Result ⊤ SinkFault → Type 0
PutLeaves old new piece (Ok _) = Appends old new piece
PutLeaves old new piece (Err Failed) = AppendsPrefix old new piece
