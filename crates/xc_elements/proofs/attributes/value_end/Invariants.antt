use Rattle.std.proofs.Common.{length}
use denote.Text.{Utf8}
use denote.Shadow.{shadow}
use Rattle.std.specs.Str.{chars}
use Rattle.xc_elements.specs.Items.{character_or_end}
use Rattle.xc_elements.proofs.LoopLaws.{Leads}
use Rattle.xc_elements.proofs.attributes.value_end.Given as goal

abbrev pub invariant-loop-turn : goal.invariant-loop-turn
invariant-loop-turn l = shadow (Utf8 l.rest) × Leads (character_or_end l.mark) (chars l.fn.text) (chars l.rest)

abbrev pub decreases-loop-turn : goal.decreases-loop-turn
decreases-loop-turn l = length (chars l.rest)
