-- Lines, and texts of lines.
use Rattle.std.specs.Prelude.{◌≢◌, ◌++◌, ℕ, List, codes}
use Rattle.std.specs.List.{AllByRecursion, flat_map}

-- a line, without the line feed that ends it
abbrev pub IsLine : List ℕ → Type 0
IsLine line = AllByRecursion (λ byte. byte ≢ 10) line

abbrev pub AreLines : List (List ℕ) → Type 0
AreLines lines = AllByRecursion IsLine lines

-- lines, each ended by a line feed
abbrev pub text_of : List (List ℕ) → List ℕ
text_of lines = flat_map (λ line. line ++ codes "\n") lines
