-- A shelf in memory.
use Rattle.std.specs.Prelude.{ℕ, List, Option, None, String, string_bytes, find, map, is_none, if◌then◌else◌}
use Rattle.std.specs.declared.alloc.Global.{Global}
use Rattle.std.specs.declared.vec.Vec.{Vec}
use Rattle.std.specs.Option.{option_map}
use Rattle.std.specs.Str.{bytes_eq}
use Rattle.xc_io.specs.Calls.{CallState, fails_next, after_call}

-- the files, each as its name and its bytes, and the calls
pub record ShelfState : Type 0 where
  pub files : List (List ℕ × List ℕ)
  pub calls : CallState

-- each file as its name and its bytes
abbrev pub files_of : List (String Global × Vec ℕ Global) → List (List ℕ × List ℕ)
files_of files = map (λ file. (string_bytes file.0, file.1.items)) files

-- the bytes of the first file of this name
abbrev pub first_file : List (List ℕ × List ℕ) → List ℕ → Option (List ℕ)
first_file files name = option_map (λ file. file.1) (find (λ file. bytes_eq file.0 name) files)

-- what the next fetch of this name finds: nothing where the call is to fail
abbrev pub found : ShelfState → List ℕ → Option (List ℕ)
found shelf name = if fails_next shelf.calls then None else first_file shelf.files name

-- after a fetch of this name, which is a fault where it finds nothing
abbrev pub after_fetch : ShelfState → List ℕ → ShelfState
after_fetch shelf name = record { files = shelf.files; calls = after_call shelf.calls (is_none (found shelf name)) }
