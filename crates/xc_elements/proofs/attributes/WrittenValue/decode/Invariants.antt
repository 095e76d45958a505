use Rattle.std.proofs.Common.{◌≡◌, ℕ, List, length}
use denote.Text.{Utf8}
use denote.Shadow.{shadow}
use Rattle.std.specs.Prelude.{encode_utf8_all, string_bytes}
use Rattle.std.specs.Str.{chars}
use Rattle.xc_elements.specs.Items.{character_or_end}
use Rattle.xc_elements.specs.Steps.Views.{lent_text}
use Rattle.xc_elements.proofs.GatherLaws.{Gathers}
use Rattle.xc_elements.proofs.attributes.WrittenValue.decode.Given as goal

-- the characters of the value so far, and what is left of it
abbrev pub invariant-loop-turn : goal.invariant-loop-turn
invariant-loop-turn l = shadow (Utf8 l.rest) × ((so_far : List ℕ) × (string_bytes l.value ≡ encode_utf8_all so_far) × Gathers (character_or_end l.self.mark) (lent_text l.self.text) (chars l.rest) so_far)

abbrev pub decreases-loop-turn : goal.decreases-loop-turn
decreases-loop-turn l = length (chars l.rest)
