use Rattle.std.proofs.Common.{◌≡◌, ◌≤◌, length}
use denote.Text.{Utf8}
use denote.Shadow.{shadow}
use Rattle.std.specs.Str.{chars}
use Rattle.xc_elements.specs.Items.{character_from, character_numbered}
use Rattle.xc_elements.proofs.references.character_numbered.Given as goal

-- the digits that are left go on from the number so far
abbrev pub invariant-loop-c : goal.invariant-loop-c
invariant-loop-c l = shadow (Utf8 l.rest) × (l.number ≤ 0x10FFFF) × (character_from l.base l.number (chars l.rest) ≡ character_numbered l.base (chars l.digits))

abbrev pub decreases-loop-c : goal.decreases-loop-c
decreases-loop-c l = length l.rest
