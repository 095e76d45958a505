-- The file that a search finds, in the program's list and in the list of names and bytes.
use Rattle.std.proofs.Common.{◌≡◌, ℕ, List, [], ◌∷◌, Bool, true, false, cond, Option, Some, refl}
use Rattle.std.specs.Prelude.{find, String, string_bytes}
use Rattle.std.specs.declared.alloc.Global.{Global}
use Rattle.std.specs.declared.vec.Vec.{Vec}
use Rattle.std.specs.Option.{option_map}
use Rattle.std.specs.Str.{bytes_eq}
use Rattle.xc_io.specs.MemoryShelf.{files_of, first_file}

-- one step of both searches
found_step : (is_named : Bool) (file : String Global × Vec ℕ Global) (later : Option (String Global × Vec ℕ Global)) (made : Option (List ℕ × List ℕ)) → option_map (λ f. f.1.items) later ≡ option_map (λ f. f.1) made → option_map (λ f. f.1.items) (cond is_named (Some file) later) ≡ option_map (λ f. f.1) (cond is_named (Some (string_bytes file.0, file.1.items)) made)
found_step true file later made e = refl
found_step false file later made e = e

-- both find the same bytes
pub found_bytes : (files : List (String Global × Vec ℕ Global)) (name : List ℕ) → option_map (λ file. file.1.items) (find (λ file. bytes_eq (string_bytes file.0) name) files) ≡ first_file (files_of files) name
found_bytes [] name = refl
found_bytes (file ∷ files) name =
    found_step (bytes_eq (string_bytes file.0) name) file (find (λ f. bytes_eq (string_bytes f.0) name) files) (find (λ f. bytes_eq f.0 name) (files_of files)) (found_bytes files name)
