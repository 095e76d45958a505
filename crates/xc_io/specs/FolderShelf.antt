-- A shelf over the files of the system.
use Rattle.std.specs.Prelude.{◌≡◌, ◌<◌, ℕ, List, length, Option, Some, None, Result, Ok, Err, IfSome, ⊤}
use Rattle.std.specs.IoError.{error_kind}
use Rattle.std.specs.declared.alloc.Global.{Global}
use Rattle.std.specs.declared.io.Error.{Error}
use Rattle.std.specs.declared.io.ErrorKind.{ErrorKind}
use Rattle.std.specs.declared.io.ErrorKind.TheVariants.{OutOfMemory}
use Rattle.std.specs.declared.vec.Vec.{Vec}
use Rattle.xc_io.specs.declared.shelf.ShelfFault.{ShelfFault}
use Rattle.xc_io.specs.declared.shelf.ShelfFault.TheVariants.{Failed, TooLong, Memory}

-- how many fetches were made, and how many of those failed
pub record FolderState : Type 0 where
  pub fetches : ℕ
  pub faults : ℕ

-- what is answered of an error of the system: a fault, unless it is want of memory
abbrev pub fault_of_kind : ErrorKind → ShelfFault
fault_of_kind OutOfMemory = Memory
fault_of_kind _ = Failed

-- what is answered of an error of the system
abbrev pub fault_of : Error → ShelfFault
fault_of error = fault_of_kind (error_kind error)

-- what is answered of a file with these bytes left: the very bytes, that they are too long only where they are, or a fault
abbrev pub ReadGives : List ℕ → ℕ → Result (Vec ℕ Global) ShelfFault → Type 0
ReadGives left room (Ok bytes) = bytes.items ≡ left
ReadGives left room (Err TooLong) = room < length left
ReadGives left room (Err Failed) = ⊤
ReadGives left room (Err Memory) = ⊤

-- what is answered of a file that was opened, where it tells what is left of it, or of the error with which it was not opened
abbrev pub OpenGives : {F : Type 0} → (F → Option (List ℕ)) → Result F Error → ℕ → Result (Vec ℕ Global) ShelfFault → Type 0
OpenGives remaining (Ok file) room result = IfSome (remaining file) (λ left. ReadGives left room result)
OpenGives remaining (Err error) room result = result ≡ Err (fault_of error)

-- what is answered of what was read of a file, or of the error with which it was not
abbrev pub read_answer : Result (Option (Vec ℕ Global)) Error → Result (Vec ℕ Global) ShelfFault
read_answer (Ok (Some bytes)) = Ok bytes
read_answer (Ok None) = Err TooLong
read_answer (Err error) = Err (fault_of error)
