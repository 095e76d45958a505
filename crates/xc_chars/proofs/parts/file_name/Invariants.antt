use Rattle.std.proofs.Common.{◌≡◌, length}
use denote.Shadow.{shadow}
use denote.Text.{Utf8}
use Rattle.xc_chars.specs.Parts.{file_name}
use Rattle.xc_chars.proofs.parts.file_name.Given as goal

-- what is left has the same file name
abbrev pub invariant-loop-after : goal.invariant-loop-after
invariant-loop-after l = shadow (Utf8 l.name) × (file_name l.name ≡ file_name l.path)

abbrev pub decreases-loop-after : goal.decreases-loop-after
decreases-loop-after l = length l.name
