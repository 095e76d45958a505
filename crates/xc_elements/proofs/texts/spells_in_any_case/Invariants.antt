use Rattle.std.proofs.Common.{◌≡◌, drop}
use denote.Text.{Utf8}
use denote.Shadow.{shadow}
use Rattle.std.specs.Prelude.{map}
use Rattle.std.specs.Char.{to_ascii_lowercase}
use Rattle.std.specs.Str.{chars}
use Rattle.xc_elements.specs.Fronts.{exactly}
use Rattle.xc_elements.proofs.texts.spells_in_any_case.Given as goal

-- what is left of the word is compared with what is left of the text
abbrev pub invariant-loop-wanted : goal.invariant-loop-wanted
invariant-loop-wanted l = shadow (Utf8 l.rest) × (exactly (drop l.wanted-index l.word) (map to_ascii_lowercase (chars l.rest)) ≡ exactly l.word (map to_ascii_lowercase (chars l.fn.text)))
