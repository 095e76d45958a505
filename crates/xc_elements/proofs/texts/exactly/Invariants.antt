use Rattle.std.proofs.Common.{◌≡◌, drop}
use denote.Text.{Utf8}
use denote.Shadow.{shadow}
use Rattle.std.specs.Str.{chars}
use Rattle.xc_elements.specs.Fronts.{exactly}
use Rattle.xc_elements.proofs.texts.exactly.Given as goal

-- what is left of the word is compared with what is left of the text
abbrev pub invariant-loop-wanted : goal.invariant-loop-wanted
invariant-loop-wanted l = shadow (Utf8 l.rest) × (exactly (drop l.wanted-index l.word) (chars l.rest) ≡ exactly l.word (chars l.fn.text))
