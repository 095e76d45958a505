use Rattle.std.proofs.Common.{length}
use denote.Text.{Utf8}
use denote.Shadow.{shadow}
use Rattle.std.specs.Str.{chars}
use Rattle.xc_elements.specs.Items.{attribute_or_end}
use Rattle.xc_elements.proofs.LoopLaws.{Leads}
use Rattle.xc_elements.proofs.tags.tag_end.Given as goal

abbrev pub invariant-loop-part : goal.invariant-loop-part
invariant-loop-part l = shadow (Utf8 l.rest) × Leads (attribute_or_end) (chars l.fn.text) (chars l.rest)

abbrev pub decreases-loop-part : goal.decreases-loop-part
decreases-loop-part l = length (chars l.rest)
