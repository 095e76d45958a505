use Rattle.std.proofs.Common.{◌≡◌, length}
use Rattle.std.specs.Prelude.{false, encode_utf8_all}
use denote.Text.{Utf8}
use denote.Shadow.{shadow}
use Rattle.std.specs.Str.{chars}
use Rattle.xc_elements.specs.Elements.{section_text}
use Rattle.xc_elements.specs.Steps.Kept.{with_text}
use Rattle.xc_elements.proofs.opens.Opens.add_section.Given as goal

-- what is added so far, and what is left
abbrev pub invariant-loop-c : goal.invariant-loop-c
invariant-loop-c l = shadow (Utf8 l.rest) × (with_text (encode_utf8_all (section_text false (chars l.fn.text))) l.initial.self ≡ with_text (encode_utf8_all (section_text l.behind_return (chars l.rest))) l.self)

abbrev pub decreases-loop-c : goal.decreases-loop-c
decreases-loop-c l = length l.rest
